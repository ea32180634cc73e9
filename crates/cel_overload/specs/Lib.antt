pub mod Functions
pub mod Overloads
pub mod Answers
pub mod View
pub mod private
