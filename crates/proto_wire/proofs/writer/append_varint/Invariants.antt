use Rattle.std.proofs.Common.{◌≡◌, List, ℕ, ◌++◌}
use Rattle.proto_wire.proofs.ShortestLemmas.{Begun}
use Rattle.proto_wire.proofs.writer.append_varint.Given as goal

abbrev pub invariant-loop-rest : goal.invariant-loop-rest
invariant-loop-rest l =
    (front : List ℕ) × Begun l.value l.rest front × (l.out.items ≡ l.initial.out.items ++ front)

abbrev pub decreases-loop-rest : goal.decreases-loop-rest
decreases-loop-rest l = l.rest
