use Rattle.std.proofs.Common.{◌-◌, ℕ, List}
use Rattle.std.proofs.lemmas.Result.{MatchResult-weaker}
use Rattle.proto_wire.specs.Merge.{parts_view}
use Rattle.cel_tree.specs.TypeEntries.{TypeNodeFault, TypeEntryFault}
use Rattle.cel_tree.specs.View.{type_entry_view}
use Rattle.cel_read.specs.private.InnerTypes.{HoldsFault}
use Rattle.cel_read.specs.private.NodeViews.{type_node_view}
use Rattle.proto_wire.proofs.Readers.{exit_memory_or, last_memory_or}
use Rattle.cel_read.proofs.TypeLevels.{type_found, type_own, type_inner}
use Rattle.cel_read.proofs.type_entry.+type_entry.Goals as goal

pub read_type-returns-in_err-node-clause-fault : goal.read_type-returns-in_err-node-clause-fault
read_type-returns-in_err-node-clause-fault t c =
    let parts : List (List ℕ) = parts_view c.args.parts.now in
    exit_memory_or (TypeNodeFault parts) (TypeEntryFault c.args.depth parts)
    c.from_residual-in_err-node.result _ c.from_residual-in_err-node.ensures.1
    c.in_err-node.ensures.fault (λ e bad. type_own c.args.depth parts e c.in_ok-require_level.ensures.found bad)

pub read_type-returns-clause-found : goal.read_type-returns-clause-found
read_type-returns-clause-found t c =
    let parts : List (List ℕ) = parts_view c.args.parts.now in
    let node = type_node_view c.in_ok-node.node in
    MatchResult-weaker c.read_inner.result c.read_inner.ensures.found
    (λ entry holds. type_found c.args.depth parts node (type_entry_view entry) c.in_ok-require_level.ensures.found
    c.in_ok-node.ensures.found holds) (λ _ _. tt)

pub read_type-returns-clause-fault : goal.read_type-returns-clause-fault
read_type-returns-clause-fault t c =
    let parts : List (List ℕ) = parts_view c.args.parts.now in
    let node = type_node_view c.in_ok-node.node in
    last_memory_or (HoldsFault (TypeEntryFault (c.args.depth - 1)) node) (TypeEntryFault c.args.depth parts)
    c.read_inner.result c.read_inner.ensures.fault
    (λ e bad. type_inner c.args.depth parts node e c.in_ok-require_level.ensures.found c.in_ok-node.ensures.found bad)
