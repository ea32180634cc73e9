use Rattle.std.proofs.Common.{ℕ, List}
use Rattle.proto_wire.specs.Merge.{parts_view}
use Rattle.cel_tree.specs.Nodes.{NodeFault}
use Rattle.proto_wire.proofs.Readers.{last_memory_or}
use Rattle.cel_read.specs.Places.{OwnFault, of_message}
use Rattle.cel_read.proofs.read.read_own.Goals as goal

pub returns-clause-fault : goal.returns-clause-fault
returns-clause-fault c =
    let parts : List (List ℕ) = parts_view c.args.parts.now in
    last_memory_or (NodeFault parts) (OwnFault c.args.depth c.args.left.now parts) c.read_node.result c.read_node.ensures.fault
    (λ e bad. of_message c.in_ok-require_level.ensures.found bad)
