pub mod Counting
pub mod Labels
pub mod Readiness
