use Rattle.std.proofs.Common.{ℕ, List, map}
use Rattle.proto_wire.specs.Fields.{Wire, field_view}
use Rattle.proto_wire.specs.Merge.{parts_view}
use Rattle.proto_wire.specs.Messages.{IsMessage}
use Rattle.cel_tree.specs.TypeEntries.{type_kinds, type_keys, TypeFails}
use Rattle.proto_wire.specs.Reading.{Never, OneofFault}
use Rattle.proto_wire.proofs.Readers.{read_fault}
use Rattle.cel_read.proofs.type_node.read_type_node.Goals as goal

pub returns-clause-fault : goal.returns-clause-fault
returns-clause-fault c =
    let parts : List (List ℕ) = parts_view c.args.parts.now in
    let fs : List Wire = map field_view c.in_ok-fields.fields.items in
    let message : IsMessage type_keys parts fs = c.in_ok-fields.ensures.found in
    read_fault type_keys Never (OneofFault type_kinds Never TypeFails) parts fs message c.type_of.result
    (rw c.deref.ensures at c.type_of.ensures.fault)
