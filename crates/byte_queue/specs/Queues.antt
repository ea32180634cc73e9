-- Bytes in a queue (this project's own).
use Rattle.std.specs.Prelude.{ℕ, List}

-- a queue: the bytes that wait, in order, and how many of the bytes that it keeps were taken from it before
pub record QueueValue : Type 0 where
  pub waiting : List ℕ
  pub taken : ℕ

-- a queue that keeps only bytes that wait
abbrev pub only : List ℕ → QueueValue
only bytes = record { waiting = bytes; taken = 0 }
