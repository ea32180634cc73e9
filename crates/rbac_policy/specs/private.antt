-- Definitions that only clauses of private functions and proofs use.
pub mod Action
pub mod Conditions
pub mod Named
pub mod Runs
pub mod PolicyIndex
pub mod Trials
