use Rattle.std.proofs.Common.{◌≡◌, drop}
use Rattle.cel_value.specs.View.{pairs_view, entries_view}
use Rattle.cel_value.specs.Equality.{entries_eq}
use Rattle.cel_value.proofs.equality.entries_are_pairs.Given as goal

abbrev pub invariant-loop-i : goal.invariant-loop-i
invariant-loop-i l =
    entries_eq (entries_view (drop l.i l.entries)) (pairs_view (drop l.i l.pairs))
    ≡ entries_eq (entries_view l.entries) (pairs_view l.pairs)
