use Rattle.std.proofs.Common.{◌≡◌, List, take}
use Rattle.proto_wire.specs.Fields.{Wire}
use Rattle.proto_wire.specs.Merge.{parts_view}
use Rattle.proto_wire.specs.Values.{varint_at}
use Rattle.cel_tree.specs.Nodes.{node_field}
use Rattle.cel_read.specs.Places.{AreWholeOf}
use Rattle.cel_read.proofs.node_id.id_of.Given as goal

abbrev pub invariant-loop-part : goal.invariant-loop-part
invariant-loop-part l =
    (fs : List Wire) × AreWholeOf (parts_view (take l.part-index l.parts)) fs × (l.last ≡ varint_at node_field.id fs)
