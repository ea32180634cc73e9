pub mod Facts
pub mod Bounds
pub mod Requests
