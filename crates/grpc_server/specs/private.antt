-- Definitions that only clauses of private functions and proofs use.
pub mod Replying
