-- Definitions that only clauses of private functions and proofs use.
pub mod Asks
pub mod Elements
pub mod Parsed
pub mod Parts
pub mod Turns
pub mod Scans
pub mod Rows
pub mod Stops
