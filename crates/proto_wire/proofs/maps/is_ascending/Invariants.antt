use Rattle.std.proofs.Common.{◌-◌, ◌≤◌, T, take, length}
use Rattle.std.specs.FinMap.{is_sorted}
use Rattle.proto_wire.specs.Maps.{key_cmp, entries_view}
use Rattle.proto_wire.proofs.maps.is_ascending.Given as goal

abbrev pub invariant-loop-index : goal.invariant-loop-index
invariant-loop-index g l =
    let kind = g.K.KeyOrder.kind in
    (1 ≤ l.index)
    × T (is_sorted (key_cmp kind) (entries_view kind g.K.KeyOrder.key_view (take l.index l.entries)))

abbrev pub decreases-loop-index : goal.decreases-loop-index
decreases-loop-index g l = length l.entries - l.index
