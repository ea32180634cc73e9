use Rattle.std.proofs.Common.{◌≡◌, ◌-◌, ◌≤◌, drop}
use Rattle.cel_value.specs.Keys.{is_ascending}
use Rattle.cel_value.specs.View.{entries_view}
use Rattle.cel_value.proofs.map.entries_rise.Given as goal

abbrev pub invariant-loop-i : goal.invariant-loop-i
invariant-loop-i l = record {
  some : 1 ≤ l.i;
  same : is_ascending (entries_view (drop (l.i - 1) l.entries))
      ≡ is_ascending (entries_view l.entries);
}
