use Rattle.std.proofs.Common.{◌≡◌, map, take}
use Rattle.cel_value.specs.View.{answer_view}
use Rattle.cel_meaning.specs.Places.{placed_view}
use Rattle.cel_meaning.proofs.place.answers_of.Given as goal

-- the first of the answers
abbrev pub invariant-loop-operand : goal.invariant-loop-operand
invariant-loop-operand l = map answer_view l.answers.items
    ≡ map (λ a. a.0) (map placed_view (take l.operand-index l.operands))
