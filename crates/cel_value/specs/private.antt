-- Facts that the language requires of a type with `==`. No public contract cites them.
pub mod EqualityLaws
