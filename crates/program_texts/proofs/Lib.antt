pub mod FactFaults
pub mod FactLines
mod FactLemmas
pub mod JsonBytes
pub mod JsonLines
mod JsonTokens
pub mod LineLemmas
pub mod Names
pub mod OneFacts
mod StandardFacts
mod WrittenAddresses
pub mod WrittenFacts
mod Writing
