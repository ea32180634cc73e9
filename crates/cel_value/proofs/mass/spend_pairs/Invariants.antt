use Rattle.std.proofs.Common.{◌≡◌, drop}
use Rattle.cel_value.specs.View.{pairs_view}
use Rattle.cel_value.specs.Masses.{entries_mass, left_of}
use Rattle.cel_value.proofs.mass.spend_pairs.Given as goal

abbrev pub invariant-loop-pair : goal.invariant-loop-pair
invariant-loop-pair l =
    left_of l.rest (entries_mass (pairs_view (drop l.pair-index l.pairs)))
    ≡ left_of l.left (entries_mass (pairs_view l.pairs))
