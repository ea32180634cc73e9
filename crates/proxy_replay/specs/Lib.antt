pub mod Configuration
pub mod Lines
pub mod Records
pub mod Replays
pub mod private
