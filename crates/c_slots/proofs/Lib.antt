pub mod ChainValues
pub mod ConnValues
pub mod CoreCrossing
pub mod Crossing
pub mod FilterValues
pub mod KeptCrossing
pub mod ProxyValues
pub mod RequestValues
