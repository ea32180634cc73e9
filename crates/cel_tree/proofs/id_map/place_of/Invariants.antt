use Rattle.std.proofs.Common.{◌≤◌, drop, length}
use Rattle.cel_tree.specs.private.Places.{StartsAbove}
use Rattle.cel_tree.proofs.id_map.place_of.Given as goal

abbrev pub invariant-loop-at : goal.invariant-loop-at
invariant-loop-at g l = (l.at ≤ length l.entries) × StartsAbove l.id (drop l.at l.entries)

abbrev pub decreases-loop-at : goal.decreases-loop-at
decreases-loop-at g l = l.at
