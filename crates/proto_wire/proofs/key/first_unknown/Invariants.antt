use Rattle.std.proofs.Common.{◌≡◌, drop, map}
use Rattle.proto_wire.specs.Fields.{field_view}
use Rattle.proto_wire.specs.Keys.{first_unknown}
use Rattle.proto_wire.proofs.key.first_unknown.Given as goal

abbrev pub invariant-loop-field : goal.invariant-loop-field
invariant-loop-field l =
    first_unknown l.keys (map field_view (drop l.field-index l.fields))
    ≡ first_unknown l.keys (map field_view l.fields)
