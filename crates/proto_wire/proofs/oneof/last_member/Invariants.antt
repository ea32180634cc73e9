use Rattle.std.proofs.Common.{◌≡◌, map, take, option_map}
use Rattle.proto_wire.specs.Fields.{field_view}
use Rattle.proto_wire.specs.Oneof.{last_member}
use Rattle.proto_wire.proofs.oneof.last_member.Given as goal

abbrev pub invariant-loop-candidate : goal.invariant-loop-candidate
invariant-loop-candidate l =
    option_map field_view l.last ≡ last_member l.keys (map field_view (take l.candidate-index l.fields))
