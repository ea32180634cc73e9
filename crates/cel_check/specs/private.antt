-- Definitions that only clauses of private functions and proofs use.
pub mod Scopes
pub mod Kinds
pub mod Checks
