use Rattle.std.proofs.Common.{ℕ, List, map}
use Rattle.proto_wire.specs.Fields.{Wire, field_view}
use Rattle.proto_wire.specs.Merge.{parts_view}
use Rattle.proto_wire.specs.Messages.{IsMessage}
use Rattle.cel_tree.specs.Constants.{constants, constant_keys, ConstantFails}
use Rattle.proto_wire.specs.Reading.{LacksMember, IsUnsupported, OneofFault}
use Rattle.proto_wire.proofs.Readers.{read_fault}
use Rattle.cel_read.proofs.constant.read_constant.Goals as goal

pub returns-clause-fault : goal.returns-clause-fault
returns-clause-fault c =
    let parts : List (List ℕ) = parts_view c.args.parts.now in
    let fs : List Wire = map field_view c.in_ok-fields.fields.items in
    let message : IsMessage constant_keys parts fs = c.in_ok-fields.ensures.found in
    read_fault constant_keys (LacksMember constants) (OneofFault constants IsUnsupported ConstantFails) parts fs message c.constant_of.result
    (rw c.deref.ensures at c.constant_of.ensures.fault)
