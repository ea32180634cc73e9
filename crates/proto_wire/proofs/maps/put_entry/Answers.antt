use Rattle.std.proofs.Common.{ap, ◌∙◌}
use Rattle.proto_wire.specs.Maps.{entries_view}
use Rattle.proto_wire.proofs.MapLemmas.{entries_view_insert}
use Rattle.proto_wire.proofs.maps.put_entry.Goals as goal

pub returns : goal.returns
returns g c =
    let kind = g.K.KeyOrder.kind in
    let key_view = g.K.KeyOrder.key_view in
    ap (entries_view kind key_view) c.in_ok-insert.ensures.entries
    ∙ entries_view_insert kind key_view g.K.Ord.cmp g.met.K.KeyOrder.in_order c.args.map.now.entries
    c.args.entry.0 c.args.entry.1
