pub mod Items
pub mod Present
