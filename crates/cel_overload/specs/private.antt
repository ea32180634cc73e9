-- Definitions that only clauses of private functions and proofs use.
pub mod Charges
pub mod Choosing
pub mod View
