use Rattle.std.proofs.Common.{◌≡◌, drop}
use Rattle.cel_value.specs.View.{pairs_view}
use Rattle.cel_value.specs.Equality.{entries_eq}
use Rattle.cel_value.proofs.equality.same_pairs.Given as goal

abbrev pub invariant-loop-i : goal.invariant-loop-i
invariant-loop-i l =
    entries_eq (pairs_view (drop l.i l.left)) (pairs_view (drop l.i l.right))
    ≡ entries_eq (pairs_view l.left) (pairs_view l.right)
