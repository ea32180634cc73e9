use Rattle.std.proofs.Common.{◌≡◌, drop, map}
use Rattle.cel_meaning.specs.Origin.{first_place}
use Rattle.cel_meaning.specs.Places.{placed_view}
use Rattle.cel_meaning.proofs.place.first_place.Given as goal

-- there is none so far
abbrev pub invariant-loop-operand : goal.invariant-loop-operand
invariant-loop-operand l = first_place (map placed_view l.operands)
    ≡ first_place (map placed_view (drop l.operand-index l.operands))
