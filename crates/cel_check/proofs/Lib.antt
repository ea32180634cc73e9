pub mod Checking
pub mod CheckSteps
pub mod Crowded
pub mod PlaceLaws
