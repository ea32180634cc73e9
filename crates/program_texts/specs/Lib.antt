pub mod Facts
pub mod InputLines
pub mod Members
pub mod Output
pub mod Shown
pub mod WrittenFacts
pub mod private
