pub mod History
pub mod Events
pub mod Waiting
pub mod Attempts
pub mod Law
pub mod Earliest
pub mod Idle
