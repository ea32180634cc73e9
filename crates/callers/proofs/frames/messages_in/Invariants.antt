use Rattle.std.proofs.Common.{◌≡◌, [], take}
use Rattle.std.specs.List.{flat_map}
use Rattle.xds_wire.specs.Frames.{Cut}
use Rattle.xds_wire.specs.Stream.{IsUnfinished}
use Rattle.callers.proofs.frames.messages_in.Given as goal

abbrev pub invariant-loop-piece : goal.invariant-loop-piece
invariant-loop-piece l =
    (l.frames.max ≡ l.most) × (l.frames.messages ≡ []) × IsUnfinished l.frames.tail
    × Cut (flat_map (λ p. p.now) (take l.piece-index l.pieces)) l.most l.messages.items l.frames.tail
