pub mod PairFacts
pub mod PlacedExits
pub mod IdPlaces
pub mod IdMaps
