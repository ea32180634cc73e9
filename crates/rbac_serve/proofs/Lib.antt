pub mod PlaceLemmas
pub mod Turning
pub mod Order
pub mod Feeding
pub mod CallLemmas
