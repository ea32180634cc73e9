use Rattle.std.proofs.Common.{◌≡◌, Some, None, map, take}
use Rattle.std.specs.Prelude.{MatchOption}
use Rattle.proto_wire.specs.Fields.{field_view}
use Rattle.proto_wire.specs.Values.{payloads, last_of}
use Rattle.proto_wire.proofs.values.last_len.Given as goal

abbrev pub invariant-loop-field : goal.invariant-loop-field
invariant-loop-field l =
    let parts = payloads l.number (map field_view (take l.field-index l.fields)) in
    MatchOption l.last (last_of parts ≡ None) (λ bytes. last_of parts ≡ Some bytes.now)
