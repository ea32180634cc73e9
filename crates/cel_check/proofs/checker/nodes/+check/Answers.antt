use Rattle.std.proofs.Common.{arith, rules, ◌≡◌, ◌≢◌, ◌∷◌, inl, inr, map, refl, sym, Ok, to_z, of_z, to_z-of_z, w64}
use Rattle.std.proofs.lemmas.Grind.{common_steps}
use Rattle.cel_tree.specs.declared.tree.Tree.{the_lemmas}
use Rattle.std.proofs.lemmas.Result.{MatchResult-weaker}
use Rattle.cel_tree.proofs.PairFacts.{both_found, both_fault, kept_found}
use Rattle.cel_tree.proofs.PlacedExits.{exit_placed, exit_unplaced, exit_unplaced_or, last_placed}
use Rattle.std.specs.FinMap.{get}
use Rattle.cel_tree.specs.Tree.{call, ident, list_literal, map_literal, select}
use Rattle.cel_types.specs.TypingFaults.{NodeTypeFault}
use Rattle.cel_tree.specs.View.{checked_view, loop_of, target_of, tree_view}
use Rattle.cel_tree.specs.private.TreeViews.{boxed_view, loop_view, tree_entries_view, trees_view}
use Rattle.cel_value.specs.Texts.{text_view}
use Rattle.cel_value.specs.Types.{ValueType, map_type, type_view}
use Rattle.cel_value.specs.declared.cel_type.KeyType.TheVariants as keys
use Rattle.proto_wire.specs.declared.refusal.Refusal.TheVariants.{NoOverload}
use Rattle.cel_types.specs.Names.{turn_scope}
use Rattle.cel_types.specs.Typing.{locals_in, maps_of}
use Rattle.cel_types.specs.View.{expr_view}
use Rattle.cel_types.specs.private.ExprViews.{exprs_view}
use Rattle.cel_types.specs.Elaborated.{kind}
use Rattle.cel_tree.specs.Places.{PlacedOr}
use Rattle.cel_check.specs.Places.{TypeFaultAt, id_of}
use Rattle.cel_check.specs.private.Checks.{AreTwo, BodyFault, EitherFault, IsBody, IsFound, IsTurn, PlacedInside, StepFault, TurnFault}
use Rattle.cel_check.specs.private.Kinds.{each_view}
use Rattle.cel_check.specs.private.Scopes.{scope_view}
use Rattle.cel_types.proofs.TreeViews.{tree_call, tree_comprehension, tree_ident, tree_map}
use Rattle.cel_check.proofs.CheckSteps.{target_some, view_list, view_map}
use Rattle.cel_check.proofs.Checking.{attribute_bad, body_bad, body_found, call_bad, call_found, each_more, each_within, ends_bad, entry_within, entry_wrong, field_bad, field_found, list_bad, list_found, map_bad, map_found, names_bad, node_found, pair_at, pairs_more, some_at, turn_is, types_of}
use Rattle.cel_types.proofs.TurnScopes.{turn_fits}
use Rattle.cel_check.proofs.PlaceLaws.{named_fault, named_found}
use Rattle.cel_check.proofs.checker.nodes.+check.Goals as goal

pub check_select-returns-in_err-attribute-clause-fault : goal.check_select-returns-in_err-attribute-clause-fault
check_select-returns-in_err-attribute-clause-fault t c =
    let is = rw c.in-Some.is at c.bare_root.ensures in
    let same : to_z w64 (of_z w64 c.args.id) ≡ c.args.id = to_z-of_z c.ranges.id in
    exit_unplaced_or _ (PlacedInside (maps_of (checked_view c.args.checked.now)) (scope_view c.args.scope.now)
    (select c.args.id (tree_view c.args.operand.now) (text_view c.args.selected.field.now) c.args.selected.test_only)) c.from_residual.result _ c.from_residual.ensures.1
    (rw same at c.in_err-attribute.ensures.fault)
    (λ e bad. inl (
      refl,
      attribute_bad (maps_of (checked_view c.args.checked.now)) (scope_view c.args.scope.now)
          c.args.id (tree_view c.args.operand.now) (text_view c.in-Some.root.now) (text_view c.args.selected.field.now)
          c.args.selected.test_only e (sym is) bad,
    ))

pub check_select-returns-clause-found : goal.check_select-returns-clause-found
check_select-returns-clause-found t c =
    let is = rw c.in_default.is at c.bare_root.ensures in
    let h = c.in_ok-field_expr.ensures.found in
    rw h.2 (field_found (maps_of (checked_view c.args.checked.now)) (scope_view c.args.scope.now)
    c.args.id (tree_view c.args.operand.now) (text_view c.args.selected.field.now) c.args.selected.test_only
    (expr_view c.in_ok-map.map) h.0 (sym is) c.in_ok-map.ensures.found h.1)

pub check_select-returns-in_err-map-clause-fault : goal.check_select-returns-in_err-map-clause-fault
check_select-returns-in_err-map-clause-fault t c =
    let is = rw c.in_default.is at c.bare_root.ensures in
    exit_placed (TypeFaultAt (maps_of (checked_view c.args.checked.now)) (scope_view c.args.scope.now) (tree_view c.args.operand.now))
    (PlacedInside (maps_of (checked_view c.args.checked.now)) (scope_view c.args.scope.now)
    (select c.args.id (tree_view c.args.operand.now) (text_view c.args.selected.field.now) c.args.selected.test_only))
    c.from_residual-in_err-map.result c.in_err-map.field-0.0 c.from_residual-in_err-map.ensures.1 c.in_err-map.ensures.fault
    (λ path e bad. inr (sym is, bad))

pub check_select-returns-in_err-field_expr-clause-fault : goal.check_select-returns-in_err-field_expr-clause-fault
check_select-returns-in_err-field_expr-clause-fault t c =
    let is = rw c.in_default.is at c.bare_root.ensures in
    exit_unplaced_or
    (λ e. ((t : ValueType) → kind (expr_view c.in_ok-map.map) ≢ map_type keys.Text t) × (e ≡ NoOverload))
    (PlacedInside (maps_of (checked_view c.args.checked.now)) (scope_view c.args.scope.now)
    (select c.args.id (tree_view c.args.operand.now) (text_view c.args.selected.field.now) c.args.selected.test_only))
    c.from_residual-in_err-field_expr.result _ c.from_residual-in_err-field_expr.ensures.1 c.in_err-field_expr.ensures.fault
    (λ e bad. inl (
      refl,
      field_bad (maps_of (checked_view c.args.checked.now)) (scope_view c.args.scope.now)
          c.args.id (tree_view c.args.operand.now) (text_view c.args.selected.field.now) c.args.selected.test_only
          (expr_view c.in_ok-map.map) e (sym is) c.in_ok-map.ensures.found bad.0 bad.1,
    ))

pub check_tree-returns-clause-found : goal.check_tree-returns-clause-found
check_tree-returns-clause-found t c =
    let m = maps_of (checked_view c.args.checked.now) in
    let ks = scope_view c.args.scope.now in
    let this = tree_view c.args.tree.now in
    let same : to_z w64 (of_z w64 c.id_of.result) ≡ c.id_of.result = search rules in
    named_found (λ e. IsFound m ks this (expr_view e)) c.id_of.result c.check_agreeing.result c.at_node.result
    (rw same at c.at_node.ensures) c.check_agreeing.ensures.found

pub check_agreeing-returns-clause-found : goal.check_agreeing-returns-clause-found
check_agreeing-returns-clause-found t c =
    let same : to_z w64 (of_z w64 c.id_of.result) ≡ c.id_of.result = search rules in
    let m = maps_of (checked_view c.args.checked.now) in
    let ks = scope_view c.args.scope.now in
    let this = tree_view c.args.tree.now in
    kept_found c.in_ok-typed.typed c.require_type-agrees.result (Ok c.in_ok-kept.field-0) (λ e. IsFound m ks this (expr_view e))
    c.in_ok-kept.ensures.found c.in_ok-kept.ensures.refused
    (MatchResult-weaker c.require_type-agrees.result
    (rw (c.get.ensures, same, c.id_of.ensures, c.cel_type.ensures) at c.require_type-agrees.ensures.found)
    (λ _ agrees. node_found m ks this (expr_view c.in_ok-typed.typed) c.in_ok-typed.ensures.found agrees) (λ _ _. tt))

pub check_agreeing-returns-in_err-kept-clause-fault : goal.check_agreeing-returns-in_err-kept-clause-fault
check_agreeing-returns-in_err-kept-clause-fault t c =
    let same : to_z w64 (of_z w64 c.id_of.result) ≡ c.id_of.result = search rules in
    let m = maps_of (checked_view c.args.checked.now) in
    let ks = scope_view c.args.scope.now in
    let this = tree_view c.args.tree.now in
    let e = c.in_err-kept.field-0.0 in
    let bad : NodeTypeFault (get m.types (id_of this)) (λ u. u ≡ kind (expr_view c.in_ok-typed.typed)) e =
    rw c.in_err-kept.ensures.fault at
    (rw (c.get.ensures, same, c.id_of.ensures, c.cel_type.ensures) at c.require_type-agrees.ensures.fault) in
    exit_unplaced (PlacedInside m ks this) c.from_residual-in_err-kept.result e c.from_residual-in_err-kept.ensures.1
    (inl (refl, entry_wrong m ks this (expr_view c.in_ok-typed.typed) c.in_ok-typed.ensures.found e bad))

pub check_tree-returns-clause-fault : goal.check_tree-returns-clause-fault
check_tree-returns-clause-fault t c =
    let m = maps_of (checked_view c.args.checked.now) in
    let ks = scope_view c.args.scope.now in
    let this = tree_view c.args.tree.now in
    let same : to_z w64 (of_z w64 c.id_of.result) ≡ c.id_of.result = search rules in
    named_fault m ks this c.check_agreeing.result c.at_node.result
    (rw (same, c.id_of.ensures) at c.at_node.ensures) c.check_agreeing.ensures.fault

pub check_turn-returns-in_err-condition-clause-fault : goal.check_turn-returns-in_err-condition-clause-fault
check_turn-returns-in_err-condition-clause-fault t c =
    let bad = c.in_err-condition.ensures.fault in
    exit_unplaced (TurnFault (maps_of (checked_view c.args.checked.now)) (scope_view c.args.turn.now)
    (tree_view c.args.parts.now.loop_condition) (tree_view c.args.parts.now.loop_step) (type_view c.args.gathered.now))
    c.from_residual-in_err-condition.result _ c.from_residual-in_err-condition.ensures.1
    (inr (refl, inl ((_, types_of _ _ _ _ c.in_ok-check_tree.ensures.found.0, bad.0), bad.1)))

pub check_turn-returns-clause-found : goal.check_turn-returns-clause-found
check_turn-returns-clause-found t c =
    let m = maps_of (checked_view c.args.checked.now) in
    let ks = scope_view c.args.turn.now in
    let first = tree_view c.args.parts.now.loop_condition in
    let second = tree_view c.args.parts.now.loop_step in
    let is = c.in_ok-condition.ensures.found in
    let condition : IsFound m ks first (expr_view c.in_ok-condition.condition) = rw is.0 c.in_ok-check_tree.ensures.found in
    both_found c.in_ok-condition.condition c.check_step.result c.both.result
    (λ r. IsTurn m ks first second (type_view c.args.gathered.now) (expr_view r.0) (expr_view r.1)) c.both.ensures.found
    (MatchResult-weaker c.check_step.result c.check_step.ensures.found
    (λ e h. (condition, is.1, h.0, h.1)) (λ _ _. tt))

pub check_turn-returns-clause-fault : goal.check_turn-returns-clause-fault
check_turn-returns-clause-fault t c =
    let m = maps_of (checked_view c.args.checked.now) in
    let ks = scope_view c.args.turn.now in
    let first = tree_view c.args.parts.now.loop_condition in
    let second = tree_view c.args.parts.now.loop_step in
    let gathered = type_view c.args.gathered.now in
    both_fault c.in_ok-condition.condition c.check_step.result c.both.result
    (PlacedOr (TurnFault m ks first second gathered)) c.both.ensures.fault
    (last_placed (StepFault m ks second gathered) (TurnFault m ks first second gathered) c.check_step.result
    c.check_step.ensures.fault
    (λ path e bad. elim bad [
      | inl f ↦ inl (inr f)
      | inr f ↦ inr (f.0, inr (f.1, f.2))
    ]))

pub check_step-returns-clause-found : goal.check_step-returns-clause-found
check_step-returns-clause-found t c =
    (rw (c.in_ok-expr_of.ensures.found.0) c.in_ok-check_tree.ensures.found, c.in_ok-expr_of.ensures.found.1)

pub check_step-returns-in_err-expr_of-clause-fault : goal.check_step-returns-in_err-expr_of-clause-fault
check_step-returns-in_err-expr_of-clause-fault t c =
    let bad = c.in_err-expr_of.ensures.fault in
    exit_unplaced (StepFault (maps_of (checked_view c.args.checked.now)) (scope_view c.args.turn.now)
    (tree_view c.args.step.now) (type_view c.args.gathered.now))
    c.from_residual-in_err-expr_of.result _ c.from_residual-in_err-expr_of.ensures.1
    (inr (refl, (_, types_of _ _ _ _ c.in_ok-check_tree.ensures.found.0, bad.0), bad.1))

pub check_ends-returns-clause-found : goal.check_ends-returns-clause-found
check_ends-returns-clause-found t c =
    let m = maps_of (checked_view c.args.checked.now) in
    let ks = scope_view c.args.scope.now in
    let p = loop_view c.args.parts.now in
    let one = c.in_ok-range.ensures.found in
    both_found c.in_ok-range.range c.check_tree-2.result c.both.result
    (λ ends. AreTwo m ks p.iter_range p.accu_init (expr_view ends.0) (expr_view ends.1))
    c.both.ensures.found
    (MatchResult-weaker c.check_tree-2.result c.check_tree-2.ensures.found (λ e h. (one, h)) (λ _ _. tt))

pub check_ends-returns-clause-fault : goal.check_ends-returns-clause-fault
check_ends-returns-clause-fault t c =
    let m = maps_of (checked_view c.args.checked.now) in
    let ks = scope_view c.args.scope.now in
    let p = loop_view c.args.parts.now in
    let either = EitherFault m ks p.iter_range p.accu_init in
    both_fault c.in_ok-range.range c.check_tree-2.result c.both.result (PlacedOr either) c.both.ensures.fault
    (last_placed (TypeFaultAt m ks p.accu_init) either c.check_tree-2.result
    c.check_tree-2.ensures.fault (λ path e bad. inr bad))

pub check_list-returns-in_err-cel_type-clause-fault : goal.check_list-returns-in_err-cel_type-clause-fault
check_list-returns-in_err-cel_type-clause-fault t c =
    let same : to_z w64 (of_z w64 c.args.id) ≡ c.args.id = to_z-of_z c.ranges.id in
    let found = rw c.new.ensures.items at c.in_ok-elements.ensures.found in
    exit_unplaced_or _ (PlacedInside (maps_of (checked_view c.args.checked.now)) (scope_view c.args.scope.now)
    (list_literal c.args.id (trees_view c.args.elements.now))) c.from_residual-in_err-cel_type.result _ c.from_residual-in_err-cel_type.ensures.1
    (rw (c.get.ensures, same, c.deref.ensures.value) at c.in_err-cel_type.ensures.fault)
    (λ e bad. inl (
      refl,
      list_bad (maps_of (checked_view c.args.checked.now)) (scope_view c.args.scope.now) c.args.id
          (trees_view c.args.elements.now) (map expr_view c.in_ok-elements.elements.items) e found bad,
    ))

pub check_list-returns-clause-found : goal.check_list-returns-clause-found
check_list-returns-clause-found t c =
    let same : to_z w64 (of_z w64 c.args.id) ≡ c.args.id = to_z-of_z c.ranges.id in
    let found = rw c.new.ensures.items at c.in_ok-elements.ensures.found in
    rw (view_list c.in_ok-cel_type.cel_type c.in_ok-elements.elements)
    (list_found (maps_of (checked_view c.args.checked.now)) (scope_view c.args.scope.now) c.args.id
    (trees_view c.args.elements.now) (map expr_view c.in_ok-elements.elements.items)
    (type_view c.in_ok-cel_type.cel_type) found
    (rw (c.get.ensures, same, c.deref.ensures.value) at c.in_ok-cel_type.ensures.found))

pub check_map-returns-in_err-cel_type-clause-fault : goal.check_map-returns-in_err-cel_type-clause-fault
check_map-returns-in_err-cel_type-clause-fault t c =
    let same : to_z w64 (of_z w64 c.args.id) ≡ c.args.id = to_z-of_z c.ranges.id in
    let found = c.in_ok-pairs.ensures.found in
    exit_unplaced_or _ (PlacedInside (maps_of (checked_view c.args.checked.now)) (scope_view c.args.scope.now)
    (map_literal c.args.id (tree_entries_view c.args.entries.now))) c.from_residual-in_err-cel_type.result _ c.from_residual-in_err-cel_type.ensures.1
    (rw (c.get.ensures, same, c.deref.ensures.value) at c.in_err-cel_type.ensures.fault)
    (λ e bad. inl (
      refl,
      map_bad (maps_of (checked_view c.args.checked.now)) (scope_view c.args.scope.now) c.args.id
          (tree_entries_view c.args.entries.now) (exprs_view c.in_ok-pairs.pairs.items) e found.0 bad,
    ))

pub check_map-returns-clause-found : goal.check_map-returns-clause-found
check_map-returns-clause-found t c =
    let same : to_z w64 (of_z w64 c.args.id) ≡ c.args.id = to_z-of_z c.ranges.id in
    let found = c.in_ok-pairs.ensures.found in
    rw (view_map c.in_ok-cel_type.cel_type c.in_ok-pairs.pairs)
    (map_found (maps_of (checked_view c.args.checked.now)) (scope_view c.args.scope.now) c.args.id
    (tree_entries_view c.args.entries.now) (exprs_view c.in_ok-pairs.pairs.items)
    (type_view c.in_ok-cel_type.cel_type) found.0 found.1
    (rw (c.get.ensures, same, c.deref.ensures.value) at c.in_ok-cel_type.ensures.found))

pub check_each-check_tree-requires : goal.check_each-check_tree-requires
check_each-check_tree-requires t c =
    let within = each_within c.args.trees.now c.loop-tree.tree-index c.tree-item.result
    c.loop-tree-test.true c.tree-item.is in
    let all = c.requires in
    (first_of (search (rules, the_lemmas), grind (arith, the_lemmas), grind (arith, common_steps)), omega (arith, within, all))

pub check_each-returns-in_err-check_tree-clause-fault : goal.check_each-returns-in_err-check_tree-clause-fault
check_each-returns-in_err-check_tree-clause-fault t c =
    exit_placed _ _ c.from_residual.result c.in_err-check_tree.field-0.0 c.from_residual.ensures.1 c.in_err-check_tree.ensures.fault
    (λ path e bad. some_at (maps_of (checked_view c.args.checked.now)) (scope_view c.args.scope.now)
    c.args.trees.now c.loop-tree.tree-index c.tree-item.result path e c.loop-tree-test.true c.tree-item.is bad)

pub check_each-loop-tree-preserved : goal.check_each-loop-tree-preserved
check_each-loop-tree-preserved t c =
    rw c.in_ok-push.ensures.items
    (each_more (maps_of (checked_view c.args.checked.now)) (scope_view c.args.scope.now)
    c.args.trees.now c.loop-tree.tree-index c.tree-item.result (map expr_view c.args.before.items)
    c.loop-tree.typed.items c.in_ok-check_tree.field-0 c.loop-tree-test.true c.tree-item.is
    c.loop-tree.invariant c.in_ok-check_tree.ensures.found)

pub check_pairs-check_tree-requires : goal.check_pairs-check_tree-requires
check_pairs-check_tree-requires t c =
    let within = entry_within c.args.entries.now c.loop-entry.entry-index c.entry-item.result
    c.loop-entry-test.true c.entry-item.is in
    let key = within.0 in
    let all = c.requires in
    (first_of (search (rules, the_lemmas), grind (arith, the_lemmas), grind (arith, common_steps)), omega (arith, key, all))

pub check_pairs-check_tree-requires-in-loop-entry : goal.check_pairs-check_tree-requires-in-loop-entry
check_pairs-check_tree-requires-in-loop-entry t c =
    let within = entry_within c.args.entries.now c.loop-entry.entry-index c.entry-item.result
    c.loop-entry-test.true c.entry-item.is in
    let value = within.1 in
    let all = c.requires in
    (first_of (search (rules, the_lemmas), grind (arith, the_lemmas), grind (arith, common_steps)), omega (arith, value, all))

pub check_pairs-returns-in_err-check_tree-clause-fault : goal.check_pairs-returns-in_err-check_tree-clause-fault
check_pairs-returns-in_err-check_tree-clause-fault t c =
    exit_placed _ _ c.from_residual.result c.in_err-check_tree.field-0.0 c.from_residual.ensures.1 c.in_err-check_tree.ensures.fault
    (λ path e bad. pair_at (maps_of (checked_view c.args.checked.now)) (scope_view c.args.scope.now)
    c.args.entries.now c.loop-entry.entry-index c.entry-item.result path e c.loop-entry-test.true
    c.entry-item.is (inl bad))

pub check_pairs-returns-in_err-check_tree-2-clause-fault : goal.check_pairs-returns-in_err-check_tree-2-clause-fault
check_pairs-returns-in_err-check_tree-2-clause-fault t c =
    exit_placed _ _ c.from_residual-in_err-check_tree-2.result c.in_err-check_tree-2.field-0.0
    c.from_residual-in_err-check_tree-2.ensures.1 c.in_err-check_tree-2.ensures.fault
    (λ path e bad. pair_at (maps_of (checked_view c.args.checked.now)) (scope_view c.args.scope.now)
    c.args.entries.now c.loop-entry.entry-index c.entry-item.result path e c.loop-entry-test.true
    c.entry-item.is (inr bad))

pub check_pairs-loop-entry-preserved : goal.check_pairs-loop-entry-preserved
check_pairs-loop-entry-preserved t c =
    rw (c.in_ok-push-2.ensures.items, c.in_ok-push.ensures.items)
    (pairs_more (maps_of (checked_view c.args.checked.now)) (scope_view c.args.scope.now)
    c.args.entries.now c.loop-entry.entry-index c.entry-item.result c.loop-entry.pairs.items
    c.in_ok-check_tree.field-0 c.in_ok-check_tree-2.field-0 c.loop-entry-test.true c.entry-item.is
    c.loop-entry.invariant c.in_ok-check_tree.ensures.found c.in_ok-check_tree-2.ensures.found)

pub check_node-returns-in_err-check_ident-in-Ident-clause-fault : goal.check_node-returns-in_err-check_ident-in-Ident-clause-fault
check_node-returns-in_err-check_ident-in-Ident-clause-fault t c =
    let same : to_z w64 (of_z w64 c.in-Ident.id) ≡ c.in-Ident.id = search rules in
    rw (c.in-Ident.is, tree_ident c.in-Ident.id c.in-Ident.name)
    (exit_unplaced_or _ (PlacedInside (maps_of (checked_view c.args.checked.now)) (scope_view c.args.scope.now)
    (ident c.in-Ident.id (text_view c.in-Ident.name))) c.from_residual.result _ c.from_residual.ensures.1
    (rw same at c.in_err-check_ident-in-Ident.ensures.fault) (λ e bad. inl (refl, inl bad)))

pub check_node-returns-in-Map-clause-found : goal.check_node-returns-in-Map-clause-found
check_node-returns-in-Map-clause-found t c =
    let same : to_z w64 (of_z w64 c.in-Map.id) ≡ c.in-Map.id = search rules in
    rw (c.in-Map.is, tree_map c.in-Map.id c.in-Map.entries)
    (rw (same, c.deref-in-Map.ensures.value) at c.check_map.ensures.found)

pub check_node-returns-in-Map-clause-fault : goal.check_node-returns-in-Map-clause-fault
check_node-returns-in-Map-clause-fault t c =
    let same : to_z w64 (of_z w64 c.in-Map.id) ≡ c.in-Map.id = search rules in
    rw (c.in-Map.is, tree_map c.in-Map.id c.in-Map.entries)
    (rw (same, c.deref-in-Map.ensures.value) at c.check_map.ensures.fault)

pub check_node-returns-in-Comprehension-clause-found : goal.check_node-returns-in-Comprehension-clause-found
check_node-returns-in-Comprehension-clause-found t c =
    rw (c.in-Comprehension.is, tree_comprehension c.in-Comprehension.id c.in-Comprehension.parts)
    (rw c.deref-in-Comprehension.ensures at c.check_loop.ensures.found)

pub check_body-check_turn-turned-requires : goal.check_body-check_turn-turned-requires
check_body-check_turn-turned-requires t c =
    let over = rw (c.variables_of.ensures, c.cel_type.ensures) at c.in_ok-each.ensures.found in
    let p = loop_view c.args.parts.now in
    let ks = scope_view c.args.scope.now in
    let walked = kind (expr_view c.args.ends.now.0) in
    let gathered = kind (expr_view c.args.ends.now.1) in
    let each = each_view c.in_ok-each.each in
    let turn : scope_view c.with_second-turn.result ≡ turn_scope p.iter_var p.iter_var2 p.accu_var each gathered ks =
    rw (c.with_second-turn.ensures, c.with-first.ensures, c.with-inner.ensures, c.cel_type-gathered.ensures)
    (turn_is p.iter_var p.iter_var2 p.accu_var c.in_ok-each.each walked gathered ks over) in (
      first_of (search (rules, the_lemmas), grind (arith, the_lemmas), grind (arith, common_steps)),
      turn_fits p.iter_var p.iter_var2 p.accu_var walked each gathered ks (scope_view c.with_second-turn.result)
          turn over (locals_in p.iter_range) (locals_in p.accu_init) (locals_in p.loop_condition)
          (locals_in p.loop_step) (locals_in p.result) c.requires,
    )

pub check_body-returns-in_err-each-clause-fault : goal.check_body-returns-in_err-each-clause-fault
check_body-returns-in_err-each-clause-fault t c =
    exit_unplaced_or _ (BodyFault (maps_of (checked_view c.args.checked.now)) (scope_view c.args.scope.now) (loop_view c.args.parts.now)
    (kind (expr_view c.args.ends.now.0)) (kind (expr_view c.args.ends.now.1)))
    c.from_residual.result _ c.from_residual.ensures.1
    (rw (c.variables_of.ensures, c.cel_type.ensures) at c.in_err-each.ensures.fault) (λ e bad. inl (refl, bad))

pub check_body-returns-in_err-two-clause-fault : goal.check_body-returns-in_err-two-clause-fault
check_body-returns-in_err-two-clause-fault t c =
    let over = rw (c.variables_of.ensures, c.cel_type.ensures) at c.in_ok-each.ensures.found in
    let p = loop_view c.args.parts.now in
    exit_placed _ (BodyFault (maps_of (checked_view c.args.checked.now)) (scope_view c.args.scope.now) (loop_view c.args.parts.now)
    (kind (expr_view c.args.ends.now.0)) (kind (expr_view c.args.ends.now.1)))
    c.from_residual-in_err-two.result c.in_err-two.field-0.0 c.from_residual-in_err-two.ensures.1
    (rw (
      c.with_second-turn.ensures,
      c.with-first.ensures,
      c.with-inner.ensures,
      c.cel_type-gathered.ensures,
      turn_is p.iter_var p.iter_var2 p.accu_var c.in_ok-each.each (kind (expr_view c.args.ends.now.0))
          (kind (expr_view c.args.ends.now.1)) (scope_view c.args.scope.now) over,
    ) at c.in_err-two.ensures.fault)
    (λ path e bad. inr (each_view c.in_ok-each.each, over, inl bad))

pub check_body-returns-clause-found : goal.check_body-returns-clause-found
check_body-returns-clause-found t c =
    let m = maps_of (checked_view c.args.checked.now) in
    let ks = scope_view c.args.scope.now in
    let p = loop_view c.args.parts.now in
    let walked = kind (expr_view c.args.ends.now.0) in
    let gathered = kind (expr_view c.args.ends.now.1) in
    let over = rw (c.variables_of.ensures, c.cel_type.ensures) at c.in_ok-each.ensures.found in
    let turn =
    (rw (
      c.with_second-turn.ensures,
      c.with-first.ensures,
      c.with-inner.ensures,
      c.cel_type-gathered.ensures,
      turn_is p.iter_var p.iter_var2 p.accu_var c.in_ok-each.each walked gathered ks over,
    ) at c.in_ok-two.ensures.found) in
    let last = rw (c.with-inner.ensures, c.cel_type-gathered.ensures) at c.check_tree.ensures.found in
    both_found c.in_ok-two.two c.check_tree.result c.both.result
    (λ body. IsBody m ks p walked gathered (expr_view body.0.0) (expr_view body.0.1) (expr_view body.1))
    c.both.ensures.found
    (MatchResult-weaker c.check_tree.result last (λ e h. (each_view c.in_ok-each.each, over, turn, h)) (λ _ _. tt))

pub check_body-returns-clause-fault : goal.check_body-returns-clause-fault
check_body-returns-clause-fault t c =
    let m = maps_of (checked_view c.args.checked.now) in
    let ks = scope_view c.args.scope.now in
    let p = loop_view c.args.parts.now in
    let walked = kind (expr_view c.args.ends.now.0) in
    let gathered = kind (expr_view c.args.ends.now.1) in
    let over = rw (c.variables_of.ensures, c.cel_type.ensures) at c.in_ok-each.ensures.found in
    both_fault c.in_ok-two.two c.check_tree.result c.both.result (PlacedOr (BodyFault m ks p walked gathered))
    c.both.ensures.fault
    (last_placed (TypeFaultAt m ((p.accu_var, gathered) ∷ ks) p.result) (BodyFault m ks p walked gathered)
    c.check_tree.result (rw (c.with-inner.ensures, c.cel_type-gathered.ensures) at c.check_tree.ensures.fault)
    (λ path e bad. inr (each_view c.in_ok-each.each, over, inr bad)))

pub check_loop-returns-in_err-ends-clause-fault : goal.check_loop-returns-in_err-ends-clause-fault
check_loop-returns-in_err-ends-clause-fault t c =
    exit_placed _ (PlacedInside (maps_of (checked_view c.args.checked.now)) (scope_view c.args.scope.now)
    (loop_of c.args.id (loop_view c.args.parts.now)))
    c.from_residual-in_err-ends.result c.in_err-ends.field-0.0 c.from_residual-in_err-ends.ensures.1
    c.in_err-ends.ensures.fault
    (ends_bad (maps_of (checked_view c.args.checked.now)) (scope_view c.args.scope.now) c.args.id
    (loop_view c.args.parts.now))

pub check_loop-returns-in_err-exprs-clause-fault : goal.check_loop-returns-in_err-exprs-clause-fault
check_loop-returns-in_err-exprs-clause-fault t c =
    exit_placed _ (PlacedInside (maps_of (checked_view c.args.checked.now)) (scope_view c.args.scope.now)
    (loop_of c.args.id (loop_view c.args.parts.now)))
    c.from_residual-in_err-exprs.result c.in_err-exprs.field-0.0 c.from_residual-in_err-exprs.ensures.1
    (rw c.in_err-exprs.ensures.fault at c.check_body-body.ensures.fault)
    (body_bad (maps_of (checked_view c.args.checked.now)) (scope_view c.args.scope.now) c.args.id
    (loop_view c.args.parts.now) (expr_view c.in_ok-ends.ends.0) (expr_view c.in_ok-ends.ends.1)
    c.in_ok-ends.ensures.found)

pub check_loop-returns-in_err-require_names_differ-clause-fault : goal.check_loop-returns-in_err-require_names_differ-clause-fault
check_loop-returns-in_err-require_names_differ-clause-fault t c =
    exit_unplaced (PlacedInside (maps_of (checked_view c.args.checked.now)) (scope_view c.args.scope.now)
    (loop_of c.args.id (loop_view c.args.parts.now)))
    c.from_residual.result c.in_err-require_names_differ.field-0.0 c.from_residual.ensures.1
    (inl (
      refl,
      names_bad (maps_of (checked_view c.args.checked.now)) (scope_view c.args.scope.now) c.args.id
          (loop_view c.args.parts.now) c.in_err-require_names_differ.field-0.0 c.in_err-require_names_differ.ensures.fault,
    ))

pub check_loop-returns-clause-found : goal.check_loop-returns-clause-found
check_loop-returns-clause-found t c =
    let m = maps_of (checked_view c.args.checked.now) in
    let ks = scope_view c.args.scope.now in
    let p = loop_view c.args.parts.now in
    let es = c.in_ok-exprs.exprs in
    let is = c.in_ok-exprs.ensures.found in
    let two : AreTwo m ks p.iter_range p.accu_init (expr_view es.0.0) (expr_view es.0.1) =
    rw is.0 c.in_ok-ends.ensures.found in
    let body : IsBody m ks p (kind (expr_view es.0.0)) (kind (expr_view es.0.1)) (expr_view es.1.0.0)
    (expr_view es.1.0.1) (expr_view es.1.1) = rw is.0 (rw is.1 at c.check_body-body.ensures.found) in
    rw (c.in_ok-loop_expr.ensures.found, c.variables_of.ensures)
    (body_found m ks c.args.id p c.in_ok-require_names_differ.ensures.found
    (expr_view es.0.0) (expr_view es.0.1) (expr_view es.1.0.0) (expr_view es.1.0.1) (expr_view es.1.1) two body)

pub check_loop-returns-in_err-loop_expr-clause-fault : goal.check_loop-returns-in_err-loop_expr-clause-fault
check_loop-returns-in_err-loop_expr-clause-fault t c =
    exit_unplaced_or (λ _. ⊥) (PlacedInside (maps_of (checked_view c.args.checked.now)) (scope_view c.args.scope.now)
    (loop_of c.args.id (loop_view c.args.parts.now)))
    c.from_residual-in_err-loop_expr.result _ c.from_residual-in_err-loop_expr.ensures.1
    c.in_err-loop_expr.ensures.fault (λ e bad. absurd bad)

pub check_node-returns-in_ok-call_expr-in-Call-clause-found : goal.check_node-returns-in_ok-call_expr-in-Call-clause-found
check_node-returns-in_ok-call_expr-in-Call-clause-found t c =
    let others = rw c.deref-in-Call.ensures.value at c.in_ok-operands-in-Call.ensures.found in
    rw (c.in-Call.is, tree_call c.in-Call.id c.in-Call.function c.in-Call.target c.in-Call.args)
    (call_found (maps_of (checked_view c.args.checked.now)) (scope_view c.args.scope.now)
    c.in-Call.id (text_view c.in-Call.function) (trees_view c.in-Call.args.items)
    (target_of (boxed_view c.in-Call.target)) (map expr_view c.in_ok-first-in-Call.first.items)
    (map expr_view c.in_ok-operands-in-Call.operands.items) (expr_view c.in_ok-call_expr-in-Call.field-0)
    c.in_ok-first-in-Call.ensures.found others
    (rw (c.is_some.ensures, target_some c.in-Call.target) at c.in_ok-call_expr-in-Call.ensures.found))

pub check_node-returns-in_err-call_expr-in-Call-clause-fault : goal.check_node-returns-in_err-call_expr-in-Call-clause-fault
check_node-returns-in_err-call_expr-in-Call-clause-fault t c =
    let others = rw c.deref-in-Call.ensures.value at c.in_ok-operands-in-Call.ensures.found in
    rw (c.in-Call.is, tree_call c.in-Call.id c.in-Call.function c.in-Call.target c.in-Call.args)
    (exit_unplaced_or _ (PlacedInside (maps_of (checked_view c.args.checked.now)) (scope_view c.args.scope.now)
    (call c.in-Call.id (text_view c.in-Call.function) (target_of (boxed_view c.in-Call.target)) (trees_view c.in-Call.args.items)))
    c.from_residual-in_err-call_expr-in-Call.result _ c.from_residual-in_err-call_expr-in-Call.ensures.1
    (rw (c.is_some.ensures, target_some c.in-Call.target) at c.in_err-call_expr-in-Call.ensures.fault)
    (λ e bad. inl (
      refl,
      call_bad (maps_of (checked_view c.args.checked.now)) (scope_view c.args.scope.now)
          c.in-Call.id (text_view c.in-Call.function) (trees_view c.in-Call.args.items)
          (target_of (boxed_view c.in-Call.target)) (map expr_view c.in_ok-first-in-Call.first.items)
          (map expr_view c.in_ok-operands-in-Call.operands.items) e
          c.in_ok-first-in-Call.ensures.found others bad,
    )))
