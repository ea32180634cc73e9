use Rattle.std.proofs.Common.{◌≡◌, map, take}
use Rattle.proto_wire.specs.Fields.{field_view}
use Rattle.proto_wire.specs.Oneof.{member_run}
use Rattle.proto_wire.proofs.oneof.member_run.Given as goal

abbrev pub invariant-loop-field : goal.invariant-loop-field
invariant-loop-field l =
    map field_view l.run.items ≡ member_run l.keys (map field_view (take l.field-index l.fields))
