use Rattle.std.proofs.Common.{◌≡◌}
use Rattle.std.specs.Prelude.{IsUtf8}
use Rattle.proto_wire.specs.Values.{Utf8Fault}
use Rattle.check_request.proofs.Exits.{placed_found, placed_plain}
use Rattle.check_request.proofs.fields.as_text.Goals as goal

pub returns-clause-found : goal.returns-clause-found
returns-clause-found c =
    placed_found (λ t. (t.now ≡ c.args.bytes.now) × IsUtf8 c.args.bytes.now) c.args.part
    c.text_of.result c.at.result c.at.ensures c.text_of.ensures.found

pub returns-clause-fault : goal.returns-clause-fault
returns-clause-fault c =
    placed_plain (Utf8Fault c.args.bytes.now) c.args.part c.text_of.result c.at.result c.at.ensures
    c.text_of.ensures.fault
