pub mod PathFaults
pub mod Forwarding
pub mod Ports
pub mod Values
pub mod ClaimLemmas
pub mod Unique
