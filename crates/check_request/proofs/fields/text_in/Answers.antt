use Rattle.std.proofs.Common.{◌≡◌, map, List}
use Rattle.std.specs.Prelude.{IsUtf8}
use Rattle.proto_wire.specs.Fields.{Wire, field_view}
use Rattle.proto_wire.specs.Values.{StringFault, bytes_at}
use Rattle.check_request.proofs.Exits.{placed_found, placed_plain}
use Rattle.check_request.proofs.fields.text_in.Goals as goal

pub returns-clause-found : goal.returns-clause-found
returns-clause-found c =
    let fs : List Wire = map field_view c.args.fields.now in
    placed_found (λ t. (t.now ≡ bytes_at c.args.number fs) × IsUtf8 (bytes_at c.args.number fs)) c.args.part
    c.text_at.result c.at.result c.at.ensures c.text_at.ensures.found

pub returns-clause-fault : goal.returns-clause-fault
returns-clause-fault c =
    placed_plain (StringFault c.args.number (map field_view c.args.fields.now)) c.args.part c.text_at.result
    c.at.result c.at.ensures c.text_at.ensures.fault
