pub mod Besides
pub mod Places
pub mod Programs
pub mod Enforcing
pub mod Spending
pub mod Totality
pub mod First
pub mod FirstRun
pub mod Deciding
pub mod Trying
pub mod Uniqueness
pub mod OneVerdict
pub mod StandardFacts
pub mod StandardConditionFacts
mod IndexLemmas
mod PolicyNames
mod ConditionParts
mod SideCauses
