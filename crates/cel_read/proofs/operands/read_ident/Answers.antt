use Rattle.std.proofs.Common.{ℕ, List, map}
use Rattle.proto_wire.specs.Fields.{Wire, field_view}
use Rattle.proto_wire.specs.Merge.{parts_view}
use Rattle.proto_wire.specs.Messages.{IsMessage}
use Rattle.proto_wire.specs.Values.{StringFault}
use Rattle.cel_tree.specs.Nodes.{ident_keys, ident_field}
use Rattle.proto_wire.specs.Reading.{Never}
use Rattle.proto_wire.proofs.Readers.{read_fault}
use Rattle.cel_read.proofs.operands.read_ident.Goals as goal

pub returns-clause-fault : goal.returns-clause-fault
returns-clause-fault c =
    let parts : List (List ℕ) = parts_view c.args.parts.now in
    let fs : List Wire = map field_view c.in_ok-fields.fields.items in
    let message : IsMessage ident_keys parts fs = c.in_ok-fields.ensures.found in
    read_fault ident_keys Never (StringFault ident_field.name) parts fs message c.ident_of.result
    (rw c.deref.ensures at c.ident_of.ensures.fault)
