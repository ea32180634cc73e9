pub mod Address
pub mod Conn
pub mod Headers
pub mod Draft
pub mod Request
pub mod Limits
pub mod Attributes
pub mod private
