pub mod Configs
pub mod Inputs
pub mod Writing
pub mod Deciding
pub mod Texts
pub mod MadeOnce
pub mod MadeLaws
pub mod Trying
