-- Definitions that only clauses of private functions and proofs use.
pub mod Maps
pub mod Payload
pub mod Run
pub mod Values
pub mod Writing
