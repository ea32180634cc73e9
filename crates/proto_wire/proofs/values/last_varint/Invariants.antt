use Rattle.std.proofs.Common.{◌≡◌, map, take}
use Rattle.proto_wire.specs.Fields.{field_view}
use Rattle.proto_wire.specs.Values.{varints, last_of}
use Rattle.proto_wire.proofs.values.last_varint.Given as goal

abbrev pub invariant-loop-field : goal.invariant-loop-field
invariant-loop-field l =
    l.last ≡ last_of (varints l.number (map field_view (take l.field-index l.fields)))
