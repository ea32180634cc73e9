-- The bytes before the rest were put.
use Rattle.std.proofs.Common.{◌≡◌, ◌++◌, ℕ, List, length, true}
use Rattle.serve_log.specs.Beginnings.{TakesBytes}
use Rattle.serve_log.proofs.beginning.put_bytes.Given as goal

abbrev pub invariant-pieces : goal.invariant-pieces
invariant-pieces g l =
    l.fn.file.is_whole ≡ true
    → (done : List ℕ) × (done ++ l.rest ≡ l.bytes) × TakesBytes g.W.Write.contents done l.fn.file l.file

abbrev pub decreases-pieces : goal.decreases-pieces
decreases-pieces g l = length l.rest
