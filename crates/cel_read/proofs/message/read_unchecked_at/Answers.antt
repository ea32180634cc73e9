use Rattle.std.proofs.Common.{ℕ, List}
use Rattle.proto_wire.specs.Merge.{parts_view}
use Rattle.proto_wire.specs.Places.{FaultOr}
use Rattle.proto_wire.proofs.PlaceExits.{exit_with}
use Rattle.cel_tree.specs.Message.{UncheckedFault, most_nodes, tree_depth}
use Rattle.cel_tree.specs.Places.{PlacedOr}
use Rattle.cel_tree.proofs.PlacedExits.{drop_place}
use Rattle.cel_read.specs.Places.{TreeFaultAt, UncheckedFaultAt}
use Rattle.cel_read.proofs.PlaceLaws.{unchecked_fails}
use Rattle.cel_read.proofs.message.read_unchecked_at.Goals as goal

pub returns-in_err-tree-clause-fault : goal.returns-in_err-tree-clause-fault
returns-in_err-tree-clause-fault c =
    let parts : List (List ℕ) = parts_view c.args.parts.now in
    exit_with (FaultOr (UncheckedFault parts)) c.from_residual.result c.in_err-tree.field-0.0 c.from_residual.ensures.1
    (drop_place (TreeFaultAt tree_depth most_nodes parts) (UncheckedFault parts) c.in_err-tree.field-0.0
    c.in_err-tree.ensures.fault (unchecked_fails parts))

pub returns-in_err-tree-clause-place : goal.returns-in_err-tree-clause-place
returns-in_err-tree-clause-place c =
    exit_with (PlacedOr (UncheckedFaultAt (parts_view c.args.parts.now))) c.from_residual.result c.in_err-tree.field-0.0
    c.from_residual.ensures.1 c.in_err-tree.ensures.fault
