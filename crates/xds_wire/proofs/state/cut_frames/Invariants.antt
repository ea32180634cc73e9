use Rattle.std.proofs.Common.{◌≡◌, ℕ, ◌<◌, List, ◌++◌, length}
use Rattle.xds_wire.specs.private.Pieces.{head_view}
use Rattle.xds_wire.proofs.CutLemmas.{Frames}
use Rattle.xds_wire.proofs.state.cut_frames.Given as goal

abbrev pub invariant-loop-head : goal.invariant-loop-head
invariant-loop-head l =
    (done : List (List ℕ))
    × Frames (head_view l.fn.head ++ l.bytes) l.max done (head_view l.head ++ l.rest)
    × (l.messages.items ≡ l.initial.messages.items ++ done) × (l.head.count < 5)

abbrev pub decreases-loop-head : goal.decreases-loop-head
decreases-loop-head l = length l.rest
