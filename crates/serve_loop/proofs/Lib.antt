pub mod Histories
pub mod Sending
pub mod LeastTimes
mod IdleTimes
