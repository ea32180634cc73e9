-- Definitions that only clauses of private functions and proofs use.
pub mod Fronts
pub mod Deciding
