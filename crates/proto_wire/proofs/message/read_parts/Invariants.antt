use Rattle.std.proofs.Common.{map, take}
use Rattle.proto_wire.specs.Fields.{field_view}
use Rattle.proto_wire.specs.Merge.{Merges, parts_view}
use Rattle.proto_wire.proofs.message.read_parts.Given as goal

abbrev pub invariant-loop-part : goal.invariant-loop-part
invariant-loop-part l =
    Merges (parts_view (take l.part-index l.parts)) (map field_view l.fields.items)
