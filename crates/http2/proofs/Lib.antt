mod Keeping
mod Frames
mod Putting
mod Cutting
mod Calls
mod Opened
mod Serves
mod Turns
mod Acts
mod Begins
mod Finding
mod Writing
mod Separate
mod Bounded
mod Ended
mod Contents
pub mod Unaries
