-- Definitions that only clauses of private functions and proofs use.
pub mod Streams
pub mod Taking
pub mod Drafts
pub mod Serving
