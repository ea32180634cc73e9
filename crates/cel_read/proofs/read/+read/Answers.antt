use Rattle.std.proofs.Common.{◌≡◌, ◌+◌, ◌-◌, ℕ, ℤ, w64, to_z, of_z, to_z-of_z, subst, ◌++◌, take, List, [], ◌∷◌, get_or, Bor, inl, inr, arith, sym, ap, ◌∙◌}
use Rattle.std.proofs.lemmas.List.{take_more}
use Rattle.cel_read.specs.declared.parsed.EntryNode.{EntryNode}
use Rattle.cel_tree.specs.declared.tree.Tree.{Tree}
use Rattle.cel_tree.specs.declared.tree.TreeEntry.{TreeEntry}
use Rattle.std.proofs.lemmas.Result.{MatchResult-weaker}
use Rattle.std.specs.Prelude.{IfOk}
use Rattle.proto_wire.specs.Merge.{parts_view}
use Rattle.proto_wire.specs.Places.{path_of}
use Rattle.cel_value.specs.Texts.{text_view}
use Rattle.cel_tree.specs.Nodes.{Parts, call_node, children, entry_children, loop_children, singles}
use Rattle.cel_tree.specs.Trees.{IsTree, node_count, trees_count, entries_count}
use Rattle.cel_tree.specs.View.{tree_view}
use Rattle.cel_tree.specs.private.TreeViews.{trees_view, tree_entries_view}
use Rattle.cel_read.specs.private.EntryViews.{entry_nodes_view}
use Rattle.cel_tree.specs.Places.{PlacedOr}
use Rattle.cel_read.specs.Places.{SomeFaultAt, TreeFaultAt}
use Rattle.cel_read.specs.private.Inside.{AreTwoTrees, Inside, IsLoopBody, loop_body}
use Rattle.cel_read.specs.private.NodeViews.{node_view, loop_node_view}
use Rattle.cel_read.proofs.Insides.{same_id, inside_constant, inside_ident, inside_select, inside_call, inside_map, inside_loop, own_at, tree_found, inside_at, trees_at, past_two, trees_push, entries_at, entry_trees_push, trees_push_count, entries_push_count}
use Rattle.cel_tree.proofs.PairFacts.{both_found, both_fault}
use Rattle.cel_tree.proofs.PlacedExits.{exit_placed, last_placed}
use Rattle.cel_read.proofs.read.+read.Goals as goal

pub read_inside-returns-in-Constant-clause-found : goal.read_inside-returns-in-Constant-clause-found
read_inside-returns-in-Constant-clause-found t c =
    rw c.in-Constant.is (inside_constant c.args.depth c.args.id c.ranges.id c.in-Constant.value c.args.left.now)

pub read_inside-returns-in-Ident-clause-found : goal.read_inside-returns-in-Ident-clause-found
read_inside-returns-in-Ident-clause-found t c =
    rw c.in-Ident.is (inside_ident c.args.depth c.args.id c.ranges.id c.in-Ident.name c.args.left.now)

pub read_inside-returns-in-Select-clause-found : goal.read_inside-returns-in-Select-clause-found
read_inside-returns-in-Select-clause-found t c =
    rw c.in-Select.is (rw (same_id c.args.id c.ranges.id) at c.select_tree.ensures.found)

pub read_inside-returns-in-Select-clause-fault : goal.read_inside-returns-in-Select-clause-fault
read_inside-returns-in-Select-clause-fault t c = rw c.in-Select.is c.select_tree.ensures.fault

pub read_inside-returns-in-Call-clause-found : goal.read_inside-returns-in-Call-clause-found
read_inside-returns-in-Call-clause-found t c =
    let P : ℤ → Type 0 = λ id. IfOk c.call_tree.result (λ u. Inside c.args.depth id
    (call_node (text_view c.in-Call.function) (parts_view c.in-Call.target.items) (parts_view c.in-Call.args.items))
    (tree_view u) c.call_tree.new.left c.args.left.now) in
    rw c.in-Call.is (subst P (same_id c.args.id c.ranges.id) c.call_tree.ensures.found)

pub read_inside-returns-in-Call-clause-fault : goal.read_inside-returns-in-Call-clause-fault
read_inside-returns-in-Call-clause-fault t c = rw c.in-Call.is c.call_tree.ensures.fault

pub read_inside-returns-in-List-clause-found : goal.read_inside-returns-in-List-clause-found
read_inside-returns-in-List-clause-found t c =
    rw c.in-List.is (rw (same_id c.args.id c.ranges.id) at c.list_tree.ensures.found)

pub read_inside-returns-in-List-clause-fault : goal.read_inside-returns-in-List-clause-fault
read_inside-returns-in-List-clause-fault t c = rw c.in-List.is c.list_tree.ensures.fault

pub select_tree-returns-clause-found : goal.select_tree-returns-clause-found
select_tree-returns-clause-found t c =
    let boxed = c.in_ok-operand-2.operand in
    let found = rw c.deref.ensures at c.in_ok-operand.ensures.found in
    let is : IsTree c.args.depth (parts_view c.args.operand.now.items) (tree_view boxed.value) =
    rw c.in_ok-operand-2.ensures.ok found.0 in
    let sum : c.read_tree.new.left + node_count (tree_view boxed.value) ≡ c.args.left.now =
    rw c.in_ok-operand-2.ensures.ok found.1 in
    inside_select c.args.depth c.args.id c.ranges.id (parts_view c.args.operand.now.items) boxed
    c.args.field c.args.test_only c.read_tree.new.left c.args.left.now is sum

pub call_tree-returns-clause-found : goal.call_tree-returns-clause-found
call_tree-returns-clause-found t c =
    let on = rw c.deref.ensures at c.in_ok-target.ensures.found in
    let args = rw c.deref-2.ensures at c.in_ok-args.ensures.found in
    inside_call c.args.depth c.args.id c.ranges.id c.args.function (parts_view c.args.target.now.items)
    (parts_view c.args.args.now.items) c.in_ok-target.target c.in_ok-args.args
    c.read_trees.new.left c.read_target.new.left c.args.left.now on.0 on.1 args.0 args.1

pub map_tree-returns-clause-found : goal.map_tree-returns-clause-found
map_tree-returns-clause-found t c =
    inside_map c.args.depth c.args.id c.ranges.id (entry_nodes_view c.args.nodes.now)
    c.in_ok-entries.entries c.read_entry_trees.new.left c.args.left.now c.in_ok-entries.ensures.found

pub lent_loop_tree-returns-clause-found : goal.lent_loop_tree-returns-clause-found
lent_loop_tree-returns-clause-found t c =
    inside_loop c.args.depth c.args.id c.ranges.id (loop_node_view c.args.node.now) c.in_ok-parts-2.parts
    c.read_loop_trees.new.left c.args.left.now
    (rw c.in_ok-parts-2.ensures.ok c.in_ok-parts.ensures.found)

pub read_tree-returns-in-Ok-clause-found : goal.read_tree-returns-in-Ok-clause-found
read_tree-returns-in-Ok-clause-found t c =
    let parts : List (List ℕ) = parts_view c.args.parts.now in
    let id : ℤ = c.in-Ok.id in
    let own = rw c.in-Ok.is at c.read_own.ensures.found in
    let same : to_z w64 (of_z w64 id) ≡ id = to_z-of_z (rw c.in-Ok.is at c.read_own.ensures.ranged) in
    MatchResult-weaker c.read_inside.result c.read_inside.ensures.found
    (λ u h. tree_found c.args.depth parts id (node_view c.in-Ok.node) (tree_view u) _ c.read_own.new.left c.args.left.now
    own.0 own.2 own.1 (rw same at h)) (λ _ _. tt)

pub read_tree-returns-in-Ok-clause-fault : goal.read_tree-returns-in-Ok-clause-fault
read_tree-returns-in-Ok-clause-fault t c =
    let parts : List (List ℕ) = parts_view c.args.parts.now in
    let own = rw c.in-Ok.is at c.read_own.ensures.found in
    last_placed (SomeFaultAt (c.args.depth - 1) c.read_own.new.left (children (node_view c.in-Ok.node)))
    (TreeFaultAt c.args.depth c.args.left.now parts) c.read_inside.result c.read_inside.ensures.fault
    (λ path e bad. inside_at c.args.depth parts c.in-Ok.id (node_view c.in-Ok.node) c.read_own.new.left c.args.left.now path e
    own.0 own.2 own.1 bad)

pub read_tree-returns-in-Err-clause-fault : goal.read_tree-returns-in-Err-clause-fault
read_tree-returns-in-Err-clause-fault t c =
    let parts : List (List ℕ) = parts_view c.args.parts.now in
    let bad = rw c.in-Err.is at c.read_own.ensures.fault in
    let is = c.fault_of_expr.ensures.refusal in
    let names = c.fault_of_expr.ensures.place in
    elim bad [
      | inl memory ↦ inl (is ∙ memory)
      | inr own ↦ inr (rw is (own_at c.args.depth c.args.left.now parts (path_of c.fault_of_expr.result.place) c.in-Err.refusal names own))
    ]

pub read_trees-returns-in_err-tree-clause-fault : goal.read_trees-returns-in_err-tree-clause-fault
read_trees-returns-in_err-tree-clause-fault t c =
    let slices = c.args.payloads.now in
    let i = c.loop-payload.payload-index in
    let d : Bor (List ℕ) = record { ref_ptr = (0, 0); now = [] } in
    let so_far = c.loop-payload.invariant in
    exit_placed (TreeFaultAt c.args.depth c.loop-payload.left ((get_or slices i d).now ∷ []))
    (SomeFaultAt c.args.depth c.args.left.now (singles (parts_view slices)))
    c.from_residual-in_err-tree.result c.in_err-tree.field-0.0 c.from_residual-in_err-tree.ensures.1 c.in_err-tree.ensures.fault
    (λ path e bad. trees_at c.args.depth slices i d (trees_view c.loop-payload.trees.items) c.loop-payload.left c.args.left.now path e
    c.loop-payload-test.true so_far.0 so_far.1 bad)

pub read_trees-loop-payload-preserved : goal.read_trees-loop-payload-preserved
read_trees-loop-payload-preserved t c =
    let slices = c.args.payloads.now in
    let i = c.loop-payload.payload-index in
    let d : Bor (List ℕ) = record { ref_ptr = (0, 0); now = [] } in
    let so_far = c.loop-payload.invariant in
    let found = c.in_ok-tree.ensures.found in
    let trees = c.loop-payload.trees.items in
    let count = trees_push_count trees c.in_ok-tree.tree in
    let before : c.loop-payload.left + trees_count (trees_view trees) ≡ c.args.left.now = so_far.1 in
    let taken = found.1 in
    rw (take_more slices i d c.loop-payload-test.true, c.in_ok-push.ensures.items)
    (trees_push c.args.depth _ trees _ c.in_ok-tree.tree so_far.0 found.0, omega (arith, count, before, taken))

pub read_entry_trees-returns-in_err-key-clause-fault : goal.read_entry_trees-returns-in_err-key-clause-fault
read_entry_trees-returns-in_err-key-clause-fault t c =
    let ns = c.args.nodes.now in
    let i = c.loop-node.node-index in
    let so_far = c.loop-node.invariant in
    let n : EntryNode = c.node-item.result in
    let both : EntryNode → List Parts = λ m. parts_view m.key.items ∷ parts_view m.value.items ∷ [] in
    exit_placed (SomeFaultAt c.args.depth c.loop-node.left (both n))
    (SomeFaultAt c.args.depth c.args.left.now (entry_children (entry_nodes_view ns)))
    c.from_residual.result c.in_err-key.field-0.0 c.from_residual.ensures.1
    (rw (c.deref.ensures, c.deref-in-loop-node.ensures) at c.in_err-key.ensures.fault)
    (λ path e bad.
    let P : EntryNode → Type 0 = λ m. SomeFaultAt c.args.depth c.loop-node.left (both m) path e in
    entries_at c.args.depth ns i n (tree_entries_view c.loop-node.entries.items) c.loop-node.left c.args.left.now path e
    c.loop-node-test.true so_far.0 so_far.1 (subst P c.node-item.is bad))

pub read_entry_trees-loop-node-preserved : goal.read_entry_trees-loop-node-preserved
read_entry_trees-loop-node-preserved t c =
    let ns = c.args.nodes.now in
    let i = c.loop-node.node-index in
    let so_far = c.loop-node.invariant in
    let both = rw (c.deref.ensures, c.deref-in-loop-node.ensures) at c.in_ok-key.ensures.found in
    let entries = c.loop-node.entries.items in
    let n : EntryNode = c.node-item.result in
    let x : TreeEntry = record { id = to_z w64 (of_z w64 c.number_of.result); key = c.in_ok-key.key; value = c.in_ok-key.value } in
    let more : take (i + 1) ns ≡ take i ns ++ n ∷ [] =
    take_more ns i n c.loop-node-test.true ∙ ap (λ m. take i ns ++ m ∷ []) (sym c.node-item.is) in
    let same : to_z w64 (of_z w64 c.number_of.result) ≡ n.id = to_z-of_z c.number_of.ensures.ranged ∙ c.number_of.ensures.value in
    let count = entries_push_count entries x in
    let before : c.loop-node.left + entries_count (tree_entries_view entries) ≡ c.args.left.now = so_far.1 in
    let taken = both.count in
    rw (more, c.in_ok-push.ensures.items)
    (entry_trees_push c.args.depth _ entries n x so_far.0 same both.first both.second, omega (arith, count, before, taken))

pub read_loop_body-returns-clause-found : goal.read_loop_body-returns-clause-found
read_loop_body-returns-clause-found t c =
    let node = loop_node_view c.args.node.now in
    let two = rw (c.deref.ensures, c.deref-2.ensures) at c.in_ok-two.ensures.found in
    let before = two.count in
    let P : (Tree × Tree) × Tree → Type 0 = λ trees. IsLoopBody c.args.depth node
    (tree_view trees.0.0) (tree_view trees.0.1) (tree_view trees.1) c.read_tree.new.left c.args.left.now in
    both_found c.in_ok-two.two c.read_tree.result c.both.result P c.both.ensures.found
    (MatchResult-weaker c.read_tree.result (rw c.deref-3.ensures at c.read_tree.ensures.found)
    (λ u is. let taken = is.1 in
    record { condition = two.first; step = two.second; result = is.0; count = omega (arith, before, taken) })
    (λ _ _. tt))

pub read_loop_body-returns-clause-fault : goal.read_loop_body-returns-clause-fault
read_loop_body-returns-clause-fault t c =
    let node = loop_node_view c.args.node.now in
    let two = rw (c.deref.ensures, c.deref-2.ensures) at c.in_ok-two.ensures.found in
    both_fault c.in_ok-two.two c.read_tree.result c.both.result
    (PlacedOr (SomeFaultAt c.args.depth c.args.left.now (loop_body node))) c.both.ensures.fault
    (last_placed (TreeFaultAt c.args.depth c.read_two.new.left node.result)
    (SomeFaultAt c.args.depth c.args.left.now (loop_body node)) c.read_tree.result
    (rw c.deref-3.ensures at c.read_tree.ensures.fault)
    (λ path e bad. past_two c.args.depth node.loop_condition node.loop_step (node.result ∷ []) _ _ _ _ path e two (inl bad)))

pub read_two-returns-clause-found : goal.read_two-returns-clause-found
read_two-returns-clause-found t c =
    let one = c.in_ok-first.ensures.found in
    let before = one.1 in
    let P : Tree × Tree → Type 0 = λ trees. AreTwoTrees c.args.depth (parts_view c.args.first.now) (parts_view c.args.second.now)
    (tree_view trees.0) (tree_view trees.1) c.read_tree-2.new.left c.args.left.now in
    both_found c.in_ok-first.first c.read_tree-2.result c.both.result P c.both.ensures.found
    (MatchResult-weaker c.read_tree-2.result c.read_tree-2.ensures.found
    (λ u is. let taken = is.1 in record { first = one.0; second = is.0; count = omega (arith, before, taken) })
    (λ _ _. tt))

pub read_two-returns-clause-fault : goal.read_two-returns-clause-fault
read_two-returns-clause-fault t c =
    let one = c.in_ok-first.ensures.found in
    let both = parts_view c.args.first.now ∷ parts_view c.args.second.now ∷ [] in
    both_fault c.in_ok-first.first c.read_tree-2.result c.both.result
    (PlacedOr (SomeFaultAt c.args.depth c.args.left.now both)) c.both.ensures.fault
    (last_placed (TreeFaultAt c.args.depth c.read_tree.new.left (parts_view c.args.second.now))
    (SomeFaultAt c.args.depth c.args.left.now both) c.read_tree-2.result c.read_tree-2.ensures.fault
    (λ path e bad. inr (_, _, one.0, one.1, inl bad)))

pub read_loop_trees-returns-in_err-start-2-clause-fault : goal.read_loop_trees-returns-in_err-start-2-clause-fault
read_loop_trees-returns-in_err-start-2-clause-fault t c =
    let node = loop_node_view c.args.node.now in
    let two = rw (c.deref.ensures, c.deref-2.ensures) at c.in_ok-start.ensures.found in
    exit_placed (SomeFaultAt c.args.depth c.read_two.new.left (loop_body node))
    (SomeFaultAt c.args.depth c.args.left.now (loop_children node))
    c.from_residual-in_err-start-2.result c.in_err-start-2.field-0.0 c.from_residual-in_err-start-2.ensures.1
    (rw c.in_err-start-2.ensures.fault at c.read_loop_body.ensures.fault)
    (λ path e bad. past_two c.args.depth node.iter_range node.accu_init (loop_body node) _ _ _ _ path e two bad)

pub read_inside-returns-in-Comprehension-clause-found : goal.read_inside-returns-in-Comprehension-clause-found
read_inside-returns-in-Comprehension-clause-found t c =
    rw c.in-Comprehension.is (rw (same_id c.args.id c.ranges.id) at c.loop_tree.ensures.found)

pub read_inside-returns-in-Comprehension-clause-fault : goal.read_inside-returns-in-Comprehension-clause-fault
read_inside-returns-in-Comprehension-clause-fault t c = rw c.in-Comprehension.is c.loop_tree.ensures.fault
