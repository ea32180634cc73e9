use Rattle.std.proofs.Common.{ℕ, List, map}
use Rattle.std.proofs.lemmas.Result.{MatchResult-weaker}
use Rattle.proto_wire.specs.Fields.{Wire, field_view}
use Rattle.proto_wire.specs.Merge.{parts_view}
use Rattle.proto_wire.specs.Messages.{IsMessage}
use Rattle.cel_tree.specs.Nodes.{node_kinds, node_keys, MemberFails}
use Rattle.proto_wire.specs.Reading.{LacksMember, IsUnsupported, OneofFault}
use Rattle.proto_wire.proofs.Readers.{read_fault}
use Rattle.cel_read.proofs.node.read_node.Goals as goal

pub returns-clause-found : goal.returns-clause-found
returns-clause-found c =
    let parts : List (List ℕ) = parts_view c.args.parts.now in
    let fs : List Wire = map field_view c.in_ok-fields.fields.items in
    let message : IsMessage node_keys parts fs = c.in_ok-fields.ensures.found in
    MatchResult-weaker c.node_of.result (rw c.deref.ensures at c.node_of.ensures.found)
    (λ n says. (fs, message, says)) (λ _ _. tt)

pub returns-clause-fault : goal.returns-clause-fault
returns-clause-fault c =
    let parts : List (List ℕ) = parts_view c.args.parts.now in
    let fs : List Wire = map field_view c.in_ok-fields.fields.items in
    let message : IsMessage node_keys parts fs = c.in_ok-fields.ensures.found in
    read_fault node_keys (LacksMember node_kinds) (OneofFault node_kinds IsUnsupported MemberFails) parts fs message c.node_of.result
    (rw c.deref.ensures at c.node_of.ensures.fault)
