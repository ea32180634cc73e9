-- Definitions that only clauses of private functions and proofs use.
pub mod Headers
pub mod Parts
pub mod Drafts
pub mod Request
