pub mod Conditions
pub mod Updates
