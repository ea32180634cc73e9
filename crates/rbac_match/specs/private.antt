-- Definitions that only clauses of private functions and proofs use.
pub mod Causes
pub mod Leaves
pub mod Nodes
pub mod Ports
pub mod Search
