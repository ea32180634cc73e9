use Rattle.std.proofs.Common.{ℕ, List, map}
use Rattle.proto_wire.specs.Fields.{Wire, field_view}
use Rattle.proto_wire.specs.Merge.{parts_view}
use Rattle.proto_wire.specs.Messages.{IsMessage}
use Rattle.cel_tree.specs.TypeEntries.{map_type_keys, MapTypeWrong}
use Rattle.proto_wire.specs.Reading.{Never}
use Rattle.proto_wire.proofs.Readers.{read_fault}
use Rattle.cel_read.proofs.type_node.read_map_type.Goals as goal

pub returns-clause-fault : goal.returns-clause-fault
returns-clause-fault c =
    let parts : List (List ℕ) = parts_view c.args.parts.now in
    let fs : List Wire = map field_view c.in_ok-fields.fields.items in
    let message : IsMessage map_type_keys parts fs = c.in_ok-fields.ensures.found in
    read_fault map_type_keys Never MapTypeWrong parts fs message c.map_type_of.result
    (rw c.deref.ensures at c.map_type_of.ensures.fault)
