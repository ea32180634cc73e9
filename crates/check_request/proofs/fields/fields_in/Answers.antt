use Rattle.std.proofs.Common.{map}
use Rattle.proto_wire.specs.Fields.{field_view}
use Rattle.proto_wire.specs.Merge.{Merges, parts_view}
use Rattle.proto_wire.specs.Messages.{PartsFault}
use Rattle.check_request.proofs.Exits.{placed_found, placed_or}
use Rattle.check_request.proofs.fields.fields_in.Goals as goal

pub returns-clause-found : goal.returns-clause-found
returns-clause-found c =
    placed_found (λ v. Merges (parts_view c.args.parts.now) (map field_view v.items)) c.args.part
    c.read_parts.result c.at.result c.at.ensures c.read_parts.ensures.found

pub returns-clause-fault : goal.returns-clause-fault
returns-clause-fault c =
    placed_or (PartsFault (parts_view c.args.parts.now)) c.args.part c.read_parts.result c.at.result
    c.at.ensures c.read_parts.ensures.fault
