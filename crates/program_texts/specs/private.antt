-- Definitions for private functions and for other crates. No public contract of this crate uses them.
pub mod Given
