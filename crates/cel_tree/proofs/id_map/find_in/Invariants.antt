use Rattle.std.proofs.Common.{◌-◌, ◌≤◌, take, drop, length}
use Rattle.cel_tree.specs.private.Places.{AllAbove, AllBelow}
use Rattle.cel_tree.proofs.id_map.find_in.Given as goal

abbrev pub invariant-loop-low : goal.invariant-loop-low
invariant-loop-low g l =
    (l.low ≤ l.high) × (l.high ≤ length l.entries)
    × AllBelow l.id (take l.low l.entries) × AllAbove l.id (drop l.high l.entries)

abbrev pub decreases-loop-low : goal.decreases-loop-low
decreases-loop-low g l = l.high - l.low
