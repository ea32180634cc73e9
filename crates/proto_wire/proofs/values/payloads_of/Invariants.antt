use Rattle.std.proofs.Common.{◌≡◌, map, take}
use Rattle.proto_wire.specs.Fields.{field_view}
use Rattle.proto_wire.specs.Merge.{parts_view}
use Rattle.proto_wire.specs.Values.{payloads}
use Rattle.proto_wire.proofs.values.payloads_of.Given as goal

abbrev pub invariant-loop-field : goal.invariant-loop-field
invariant-loop-field l =
    parts_view l.parts.items ≡ payloads l.number (map field_view (take l.field-index l.fields))
