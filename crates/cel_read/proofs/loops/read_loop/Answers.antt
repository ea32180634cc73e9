use Rattle.std.proofs.Common.{ℕ, List, map}
use Rattle.proto_wire.specs.Fields.{Wire, field_view}
use Rattle.proto_wire.specs.Merge.{parts_view}
use Rattle.proto_wire.specs.Messages.{IsMessage}
use Rattle.cel_tree.specs.Nodes.{loop_keys, LoopSays, LoopLacks, LoopWrong}
use Rattle.cel_read.specs.private.NodeViews.{node_view}
use Rattle.proto_wire.proofs.Readers.{read_fault, read_found}
use Rattle.cel_read.proofs.loops.read_loop.Goals as goal

pub returns-clause-found : goal.returns-clause-found
returns-clause-found c =
    let parts : List (List ℕ) = parts_view c.args.parts.now in
    let fs : List Wire = map field_view c.in_ok-fields.fields.items in
    let message : IsMessage loop_keys parts fs = c.in_ok-fields.ensures.found in
    read_found loop_keys LoopSays node_view parts fs message c.loop_of.result
    (rw c.deref.ensures at c.loop_of.ensures.found)

pub returns-clause-fault : goal.returns-clause-fault
returns-clause-fault c =
    let parts : List (List ℕ) = parts_view c.args.parts.now in
    let fs : List Wire = map field_view c.in_ok-fields.fields.items in
    let message : IsMessage loop_keys parts fs = c.in_ok-fields.ensures.found in
    read_fault loop_keys LoopLacks LoopWrong parts fs message c.loop_of.result
    (rw c.deref.ensures at c.loop_of.ensures.fault)
