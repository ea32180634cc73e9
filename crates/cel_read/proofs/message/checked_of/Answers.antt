use Rattle.std.proofs.Common.{◌≡◌, ◌≢◌, ◌≤◌, List, [], Ok, Err, map, inr}
use Rattle.proto_wire.specs.Fields.{Wire, field_view}
use Rattle.proto_wire.specs.Values.{payloads}
use Rattle.proto_wire.specs.declared.refusal.Refusal.TheVariants.{Missing}
use Rattle.proto_wire.proofs.PlaceExits.{at_fault, at_found, exit_with, placed_found}
use Rattle.cel_tree.specs.Message.{tree_depth, most_nodes, checked_field}
use Rattle.cel_tree.specs.Places.{PlacedOr}
use Rattle.cel_tree.specs.Trees.{IsTree, node_count}
use Rattle.cel_tree.specs.View.{tree_view}
use Rattle.cel_tree.proofs.PlacedExits.{placed_in}
use Rattle.cel_read.specs.Places.{CheckedWrongAt, TreeFaultAt, in_expr, no_expr}
use Rattle.cel_read.proofs.message.checked_of.Goals as goal

pub returns-in_err-at_field-clause-fault : goal.returns-in_err-at_field-clause-fault
returns-in_err-at_field-clause-fault c =
    let fs : List Wire = map field_view c.args.fields.now in
    let bad = at_fault (λ e. (payloads checked_field.expr fs ≡ []) × (e ≡ Missing)) c.require_payload.result
    (Err c.in_err-at_field.field-0.0) c.in_err-at_field.ensures.same c.require_payload.ensures.fault in
    exit_with (PlacedOr (CheckedWrongAt fs)) c.from_residual.result c.in_err-at_field.field-0.0 c.from_residual.ensures.1
    (inr (no_expr bad.0 bad.1 c.in_err-at_field.ensures.place))

pub returns-in_err-tree-clause-fault : goal.returns-in_err-tree-clause-fault
returns-in_err-tree-clause-fault c =
    let fs : List Wire = map field_view c.args.fields.now in
    let there = at_found (λ _. payloads checked_field.expr fs ≢ []) c.require_payload.result (Ok c.in_ok-at_field.field-0)
    c.in_ok-at_field.ensures.same c.require_payload.ensures.found in
    exit_with (PlacedOr (CheckedWrongAt fs)) c.from_residual-in_err-tree.result c.in_err-tree.field-0.0
    c.from_residual-in_err-tree.ensures.1
    (placed_in (TreeFaultAt tree_depth most_nodes (payloads checked_field.expr fs)) (CheckedWrongAt fs) checked_field.expr 0
    c.tree_of.result (Err c.in_err-tree.field-0.0) c.in_err-tree.ensures c.tree_of.ensures.fault
    (λ inner outer e begins bad. in_expr inner there bad begins))

pub returns-in_err-tree-2-clause-fault : goal.returns-in_err-tree-2-clause-fault
returns-in_err-tree-2-clause-fault c =
    exit_with (PlacedOr (CheckedWrongAt (map field_view c.args.fields.now)))
    c.from_residual-in_err-tree-2.result c.in_err-tree-2.field-0.0 c.from_residual-in_err-tree-2.ensures.1
    (rw c.in_err-tree-2.ensures.fault at c.maps_of.ensures.fault)

pub returns-clause-found : goal.returns-clause-found
returns-clause-found c =
    let fs : List Wire = map field_view c.args.fields.now in
    let there : payloads checked_field.expr fs ≢ [] = at_found (λ _. payloads checked_field.expr fs ≢ [])
    c.require_payload.result (Ok c.in_ok-at_field.field-0) c.in_ok-at_field.ensures.same c.require_payload.ensures.found in
    let read : IsTree tree_depth (payloads checked_field.expr fs) (tree_view c.in_ok-tree.tree)
    × (node_count (tree_view c.in_ok-tree.tree) ≤ most_nodes) =
    placed_found (λ t. IsTree tree_depth (payloads checked_field.expr fs) (tree_view t)
    × (node_count (tree_view t) ≤ most_nodes)) checked_field.expr 0 c.tree_of.result (Ok c.in_ok-tree.tree)
    c.in_ok-tree.ensures c.tree_of.ensures.found in
    let is = c.in_ok-tree-2.ensures.found in
    let maps = rw is.1 at c.maps_of.ensures.found in
    let tree : IsTree tree_depth (payloads checked_field.expr fs) (tree_view c.in_ok-tree-2.tree) = rw is.0 read.0 in
    let few : node_count (tree_view c.in_ok-tree-2.tree) ≤ most_nodes = rw is.0 read.1 in
    record { there = there; tree = tree; few = few; types = maps.0; refs = maps.1 }
