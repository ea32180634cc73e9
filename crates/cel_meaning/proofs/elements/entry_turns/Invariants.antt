use Rattle.std.proofs.Common.{◌≡◌, ◌++◌, drop, map}
use Rattle.cel_value.specs.View.{entries_view}
use Rattle.cel_ops.specs.Collections.{keyed}
use Rattle.cel_meaning.specs.private.Plain.{keyed_turns, turn_view}
use Rattle.cel_meaning.proofs.elements.entry_turns.Given as goal

-- the turns made, with those of what is left, are all
abbrev pub invariant-loop-entry : goal.invariant-loop-entry
invariant-loop-entry l =
    map turn_view l.turns.items ++ keyed_turns (keyed (entries_view (drop l.entry-index l.entries))) ≡ keyed_turns (keyed (entries_view l.entries))
