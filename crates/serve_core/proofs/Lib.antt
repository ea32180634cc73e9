mod Driving
mod Telling
mod Wire
mod OtherProtocolLemmas
mod Clients
mod Reading
mod FrontRuns
mod Setups
pub mod MappedWire
mod FrontSteps
mod WrittenHeads
mod MappedAsks
mod Rooms
