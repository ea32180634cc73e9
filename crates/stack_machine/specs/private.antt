-- Definitions that only clauses of private functions and proofs use.
pub mod Operands
pub mod Loops
pub mod Pairs
pub mod StateView
pub mod Groups
pub mod EarlyStates
pub mod LoopTurns
pub mod Rarer
pub mod Reached
pub mod Borrowed
