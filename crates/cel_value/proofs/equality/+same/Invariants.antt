use Rattle.std.proofs.Common.{◌≡◌, drop}
use Rattle.cel_value.specs.View.{values_view, entries_view}
use Rattle.cel_value.specs.Equality.{values_eq, entries_eq}
use Rattle.cel_value.proofs.equality.+same.Given as goal

abbrev pub invariant-same_items-loop-i : goal.invariant-same_items-loop-i
invariant-same_items-loop-i l =
    values_eq (values_view (drop l.i l.left)) (values_view (drop l.i l.right))
    ≡ values_eq (values_view l.left) (values_view l.right)

abbrev pub invariant-same_entries-loop-i : goal.invariant-same_entries-loop-i
invariant-same_entries-loop-i l =
    entries_eq (entries_view (drop l.i l.left)) (entries_view (drop l.i l.right))
    ≡ entries_eq (entries_view l.left) (entries_view l.right)
