use Rattle.std.proofs.Common.{ℕ, List, map}
use Rattle.proto_wire.specs.Fields.{Wire, field_view}
use Rattle.proto_wire.specs.Merge.{parts_view}
use Rattle.proto_wire.specs.Messages.{IsMessage}
use Rattle.proto_wire.specs.Values.{StringFault}
use Rattle.cel_tree.specs.Nodes.{call_keys, call_field}
use Rattle.proto_wire.specs.Reading.{Never}
use Rattle.proto_wire.proofs.Readers.{read_fault}
use Rattle.cel_read.proofs.operands.read_call.Goals as goal

pub returns-clause-fault : goal.returns-clause-fault
returns-clause-fault c =
    let parts : List (List ℕ) = parts_view c.args.parts.now in
    let fs : List Wire = map field_view c.in_ok-fields.fields.items in
    let message : IsMessage call_keys parts fs = c.in_ok-fields.ensures.found in
    read_fault call_keys Never (StringFault call_field.function) parts fs message c.call_of.result
    (rw c.deref.ensures at c.call_of.ensures.fault)
