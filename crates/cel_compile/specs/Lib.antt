pub mod Codes
pub mod Sound
pub mod Slots
pub mod private
