-- Definitions that only clauses of private functions and proofs use.
pub mod EntryViews
pub mod InnerTypes
pub mod Inside
pub mod NodeViews
pub mod Named
