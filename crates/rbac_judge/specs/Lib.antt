pub mod Explain
pub mod Json
pub mod Outcome
pub mod Reports
pub mod Judging
pub mod Batches
pub mod private
