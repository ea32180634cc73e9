use Rattle.std.proofs.Common.{take}
use Rattle.proto_wire.specs.Maps.{AreEntries, entries_view}
use Rattle.proto_wire.specs.Merge.{parts_view}
use Rattle.proto_wire.proofs.maps.read_each.Given as goal

abbrev pub invariant-loop-payload : goal.invariant-loop-payload
invariant-loop-payload g l =
    let kind = g.K.KeyOrder.kind in
    AreEntries kind (parts_view (take l.payload-index l.payloads))
    (entries_view kind g.K.KeyOrder.key_view l.entries.items)
