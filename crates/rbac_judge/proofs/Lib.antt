pub mod InputLemmas
pub mod JudgeLemmas
mod HeadLines
mod JsonLemmas
mod BatchLemmas
