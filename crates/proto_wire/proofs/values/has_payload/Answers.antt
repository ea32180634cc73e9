use Rattle.std.proofs.Common.{map}
use Rattle.proto_wire.specs.Fields.{field_view}
use Rattle.proto_wire.specs.Values.{payloads}
use Rattle.proto_wire.proofs.ValueLemmas.{there_by_last}
use Rattle.proto_wire.proofs.values.has_payload.Goals as goal

pub returns : goal.returns
returns c = rw c.is_some.ensures (there_by_last c.last_len.result (payloads c.args.number (map field_view c.args.fields.now)) c.last_len.ensures)
