use Rattle.std.proofs.Common.{◌≡◌, ◌++◌, drop, map}
use Rattle.cel_value.specs.View.{values_view}
use Rattle.cel_types.specs.Meaning.{one_each}
use Rattle.cel_meaning.specs.private.Plain.{turn_view}
use Rattle.cel_meaning.proofs.elements.one_each.Given as goal

-- the turns made, with those of what is left, are all
abbrev pub invariant-loop-element : goal.invariant-loop-element
invariant-loop-element l =
    map turn_view l.turns.items ++ one_each (values_view (drop l.element-index l.elements)) ≡ one_each (values_view l.elements)
