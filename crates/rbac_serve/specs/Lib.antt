pub mod Sending
pub mod Tables
pub mod Turns
pub mod Workers
pub mod private
