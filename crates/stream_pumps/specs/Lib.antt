pub mod Pumps
pub mod ControlPump
pub mod Rounds
pub mod private
