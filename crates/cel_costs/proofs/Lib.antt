pub mod Joins
pub mod Scalars
pub mod Conversions
pub mod Within
pub mod Reached
pub mod Charged
pub mod StandardFacts
pub mod ReachedFacts
