pub mod Origin
pub mod Places
pub mod Steps
pub mod private
