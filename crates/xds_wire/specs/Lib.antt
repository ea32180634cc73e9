pub mod Frames
pub mod Stream
pub mod Envelope
pub mod Discovery
pub mod View
pub mod Written
pub mod private
