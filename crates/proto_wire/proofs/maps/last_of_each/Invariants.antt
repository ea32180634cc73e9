use Rattle.std.proofs.Common.{◌≡◌, ◌++◌}
use Rattle.std.specs.FinMap.{entries}
use Rattle.std.specs.Vec.Iter.{into_iter_items}
use Rattle.proto_wire.specs.Maps.{map_of, entries_view}
use Rattle.proto_wire.proofs.maps.last_of_each.Given as goal

abbrev pub invariant-loop-entry : goal.invariant-loop-entry
invariant-loop-entry g l =
    let view = entries_view g.K.KeyOrder.kind g.K.KeyOrder.key_view in
    (view l.last.entries ≡ entries (map_of g.K.KeyOrder.kind (view l.yielded)))
    × (l.fn.all.items ≡ l.yielded ++ into_iter_items l.entry-iterator)
