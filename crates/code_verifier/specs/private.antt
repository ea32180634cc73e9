-- Definitions that only clauses of private functions and proofs use.
pub mod SlotView
pub mod Results
pub mod Stacks
pub mod Entries
pub mod ShapeView
pub mod Joining
pub mod Passing
