use Rattle.std.proofs.Common.{◌≡◌, ◌++◌, drop, map}
use Rattle.cel_value.specs.View.{values_view}
use Rattle.cel_ops.specs.Collections.{numbered}
use Rattle.cel_meaning.specs.private.Plain.{keyed_turns, turn_view}
use Rattle.cel_meaning.proofs.elements.item_turns.Given as goal

-- the turns made, with those of what is left, are all
abbrev pub invariant-loop-index : goal.invariant-loop-index
invariant-loop-index l =
    map turn_view l.turns.items ++ keyed_turns (numbered l.index (values_view (drop l.index l.items))) ≡ keyed_turns (numbered 0 (values_view l.items))
