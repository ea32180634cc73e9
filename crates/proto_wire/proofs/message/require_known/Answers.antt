use Rattle.std.proofs.Common.{map, sym}
use Rattle.proto_wire.specs.Fields.{field_view}
use Rattle.proto_wire.proofs.KeyLemmas.{known_from_none, unknown_from_some}
use Rattle.proto_wire.proofs.message.require_known.Goals as goal

pub returns-in-None-clause-found : goal.returns-in-None-clause-found
returns-in-None-clause-found c =
    known_from_none c.args.keys.now (map field_view c.args.fields.now) (sym c.in-None.ensures)

pub returns-in-Some-clause-fault : goal.returns-in-Some-clause-fault
returns-in-Some-clause-fault c =
    let fs = map field_view c.args.fields.now in
    (unknown_from_some c.args.keys.now fs c.in-Some.number (sym c.in-Some.ensures), c.at.ensures.refusal)

pub returns-in-Some-clause-place : goal.returns-in-Some-clause-place
returns-in-Some-clause-place c = rw (sym c.in-Some.ensures) c.at.ensures.place
