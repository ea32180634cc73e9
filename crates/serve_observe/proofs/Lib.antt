pub mod Names
pub mod Places
pub mod Numbers
mod MinutesApart
mod GapLemmas
pub mod RecordLemmas
