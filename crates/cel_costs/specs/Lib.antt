pub mod Sizes
pub mod Costs
pub mod Visits
pub mod Reaches
