mod KnownLemmas
mod PieceLemmas
mod Requests
mod ServingLemmas
