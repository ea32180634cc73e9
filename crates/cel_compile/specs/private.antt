-- Definitions that only clauses of private functions and proofs use.
pub mod Extents
pub mod Lengths
pub mod Emitting
