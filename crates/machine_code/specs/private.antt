-- Definitions that only clauses of private functions and proofs use.
pub mod Places
pub mod Holding
pub mod Keeping
