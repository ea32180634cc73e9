use Rattle.std.proofs.Common.{ℕ, List, map}
use Rattle.proto_wire.specs.Fields.{Wire, field_view}
use Rattle.proto_wire.specs.Merge.{parts_view}
use Rattle.proto_wire.specs.Messages.{IsMessage}
use Rattle.cel_tree.specs.Nodes.{struct_keys, StructWrong}
use Rattle.proto_wire.specs.Reading.{Never}
use Rattle.proto_wire.proofs.Readers.{read_fault}
use Rattle.cel_read.proofs.literals.read_struct.Goals as goal

pub returns-clause-fault : goal.returns-clause-fault
returns-clause-fault c =
    let parts : List (List ℕ) = parts_view c.args.parts.now in
    let fs : List Wire = map field_view c.in_ok-fields.fields.items in
    let message : IsMessage struct_keys parts fs = c.in_ok-fields.ensures.found in
    read_fault struct_keys Never StructWrong parts fs message c.struct_of.result
    (rw c.deref.ensures at c.struct_of.ensures.fault)
