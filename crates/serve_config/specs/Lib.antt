pub mod Addresses
pub mod Calls
pub mod Members
pub mod Maps
pub mod Settings
pub mod private
