-- What is before the start are whole lines, none of them empty.
use Rattle.std.proofs.Common.{◌≡◌, ◌≤◌, ◌+◌, ◌-◌, length, drop}
use Rattle.serve_host.specs.Pieces.{piece_of}
use Rattle.serve_host.proofs.piece.piece.Given as goal

abbrev pub invariant-loop-start : goal.invariant-loop-start
invariant-loop-start l = (l.start ≤ length l.bytes)
    × (length (piece_of l.bytes) ≡ l.start + length (piece_of (drop l.start l.bytes)))

abbrev pub decreases-loop-start : goal.decreases-loop-start
decreases-loop-start l = length l.bytes - l.start
