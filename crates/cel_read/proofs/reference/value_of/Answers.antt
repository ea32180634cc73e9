use Rattle.std.proofs.Common.{◌≢◌, List, [], map, arith}
use Rattle.std.proofs.lemmas.Grind.{common_steps}
use Rattle.proto_wire.specs.Fields.{Wire, field_view}
use Rattle.proto_wire.proofs.OptionalLaws.{exit_optional}
use Rattle.cel_tree.specs.Constants.{ConstantFault}
use Rattle.cel_tree.specs.References.{reference_field}
use Rattle.cel_read.proofs.reference.value_of.Goals as goal

pub returns-in_err-read_constant-clause-fault : goal.returns-in_err-read_constant-clause-fault
returns-in_err-read_constant-clause-fault c =
    let exit = c.from_residual-in_err-read_constant in
    let fs : List Wire = map field_view c.args.fields.now in
    let some : c.in_ok-parts.parts.items ≢ [] = grind (arith, common_steps) in
    exit_optional ConstantFault reference_field.value fs c.in_ok-parts.parts.items c.in_ok-parts.ensures some
    exit.result _ exit.ensures.1 (rw (← c.deref.ensures) c.in_err-read_constant.ensures.fault)
