pub mod Paths
pub mod Claims
pub mod Mapped
pub mod Mappings
pub mod Heads
pub mod private
