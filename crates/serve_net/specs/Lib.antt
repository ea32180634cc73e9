pub mod Frame
pub mod Tokens
