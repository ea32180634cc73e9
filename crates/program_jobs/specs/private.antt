-- Definitions that only clauses of private functions and proofs use.
pub mod Stopping
pub mod BatchJob
pub mod Ending
