use Rattle.std.proofs.Common.{◌≢◌, List, [], map, arith}
use Rattle.std.proofs.lemmas.Grind.{common_steps}
use Rattle.proto_wire.specs.Fields.{Wire, field_view}
use Rattle.xds_wire.specs.Discovery.{StatusFault}
use Rattle.proto_wire.proofs.OptionalLaws.{exit_optional}
use Rattle.xds_wire.proofs.status.merged_status.Goals as goal

pub returns-in_err-read_status-clause-fault : goal.returns-in_err-read_status-clause-fault
returns-in_err-read_status-clause-fault c =
    let exit = c.from_residual-in_err-read_status in
    let fs : List Wire = map field_view c.args.fields.now in
    let some : c.in_ok-parts.parts.items ≢ [] = grind (arith, common_steps) in
    exit_optional StatusFault c.args.number fs c.in_ok-parts.parts.items c.in_ok-parts.ensures some
    exit.result _ exit.ensures.1 (rw (← c.deref.ensures) c.in_err-read_status.ensures.fault)
