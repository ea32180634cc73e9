-- Definitions that only clauses of private functions and proofs use.
pub mod FieldClaims
pub mod Client
pub mod Lines
