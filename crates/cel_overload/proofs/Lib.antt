pub mod Names
pub mod Choosing
pub mod OneOverload
pub mod TypedCalls
pub mod StandardFacts
