-- Definitions that only clauses of private functions and proofs use.
pub mod Ports
pub mod Headers
pub mod Contexts
