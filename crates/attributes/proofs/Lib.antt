pub mod TextOrder
pub mod HeaderMaps
pub mod Joining
pub mod Places
pub mod Neighbours
pub mod Sorting
pub mod Searching
mod Gaps
mod Parts
mod Spots
mod Cutting
mod OwnHeaders
mod JoinSteps
mod Distinct
mod Drafts
mod Finishing
pub mod AddressText
pub mod OneAddress
pub mod Facts
pub mod LimitFaults
pub mod Within
pub mod StandardFacts
pub mod Names
pub mod TypedAttributes
pub mod Requests
