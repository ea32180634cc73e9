use Rattle.std.proofs.Common.{List, map, inr}
use Rattle.proto_wire.specs.Fields.{Wire, field_view}
use Rattle.proto_wire.specs.Oneof.{member_run}
use Rattle.cel_tree.specs.Nodes.{node_kinds, kind_keys, MemberFails}
use Rattle.proto_wire.specs.Reading.{LacksMember, IsUnsupported, OneofFault}
use Rattle.proto_wire.specs.private.Values.{ValuesFault}
use Rattle.proto_wire.proofs.Readers.{exit_memory_or, oneof_bad}
use Rattle.cel_read.proofs.node.node_of.Goals as goal

pub returns-in_err-node-clause-fault : goal.returns-in_err-node-clause-fault
returns-in_err-node-clause-fault c =
    let fs : List Wire = map field_view c.args.fields.now in
    let last = c.in_ok-last.last in
    exit_memory_or (MemberFails last.kind last.number (member_run kind_keys fs))
    (ValuesFault (LacksMember node_kinds) (OneofFault node_kinds IsUnsupported MemberFails) fs)
    c.from_residual-in_err-node.result _ c.from_residual-in_err-node.ensures.1 c.in_err-node.ensures.fault
    (λ e bad. inr (oneof_bad node_kinds fs IsUnsupported MemberFails last.number last.kind
    c.in_ok-last.ensures.found.0 c.in_ok-last.ensures.found.1 e bad))
