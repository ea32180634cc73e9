-- Definitions that only clauses of private functions and proofs use.
pub mod Numbers
pub mod SizeView
pub mod ScopeView
pub mod Measuring
pub mod Finding
