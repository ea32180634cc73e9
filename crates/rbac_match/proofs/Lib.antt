pub mod Basics
pub mod Exits
pub mod Oneofs
pub mod Runs
pub mod Substrings
pub mod Texts
pub mod Decimals
pub mod AddressTexts
pub mod TextMessages
pub mod PathMessages
pub mod AuthenticatedMessages
pub mod HeaderMessages
pub mod CidrMessages
pub mod PortsMessages
pub mod LeafMessages
pub mod RuleMessages
pub mod Borders
pub mod Tokens
pub mod LeafLists
pub mod NodeLists
pub mod Loops
mod CauseLists
mod CauseLaws
pub mod Adding
pub mod Levels
pub mod Places
mod NeedLemmas
pub mod StandardFacts
