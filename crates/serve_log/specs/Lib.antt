pub mod Frames
pub mod Lines
pub mod Writing
pub mod private
pub mod Files
pub mod Recording
pub mod Beginnings
