use Rattle.std.proofs.Common.{◌≡◌, ◌-◌, ◌≤◌, drop}
use Rattle.cel_value.specs.Keys.{is_ascending}
use Rattle.cel_value.specs.View.{pairs_view}
use Rattle.cel_value.proofs.map.pairs_rise.Given as goal

abbrev pub invariant-loop-i : goal.invariant-loop-i
invariant-loop-i l = record {
  some : 1 ≤ l.i;
  same : is_ascending (pairs_view (drop (l.i - 1) l.pairs)) ≡ is_ascending (pairs_view l.pairs);
}
