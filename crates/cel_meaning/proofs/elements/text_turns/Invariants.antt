use Rattle.std.proofs.Common.{◌≡◌, ◌++◌, drop, map}
use Rattle.cel_value.specs.View.{pairs_view}
use Rattle.cel_ops.specs.Collections.{keyed}
use Rattle.cel_meaning.specs.private.Plain.{keyed_turns, turn_view}
use Rattle.cel_meaning.proofs.elements.text_turns.Given as goal

-- the turns made, with those of what is left, are all
abbrev pub invariant-loop-pair : goal.invariant-loop-pair
invariant-loop-pair l =
    map turn_view l.turns.items ++ keyed_turns (keyed (pairs_view (drop l.pair-index l.pairs))) ≡ keyed_turns (keyed (pairs_view l.pairs))
