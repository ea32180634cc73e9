use Rattle.std.proofs.Common.{◌≡◌, ◌+◌, ◌<◌, ◌≤◌, ◌++◌, true, [], drop, length, map, None, Some, option_map, arith, refl, sym, ap, ◌∙◌}
use Rattle.std.proofs.lemmas.List.{drop_all}
use Rattle.std.proofs.lemmas.Result.{MatchResult-weaker}
use Rattle.std.specs.Option.{option_and_then}
use Rattle.cel_ops.specs.Collections as collections
use Rattle.cel_overload.specs.Functions.{function_named}
use Rattle.cel_tree.specs.Tree.{map_literal}
use Rattle.cel_tree.specs.View.{target_of, tree_view}
use Rattle.cel_tree.specs.private.TreeViews.{boxed_view, loop_view, tree_entries_view, trees_view}
use Rattle.cel_value.specs.Texts.{text_view}
use Rattle.cel_value.specs.View.{answer_view, value_view}
use Rattle.cel_value.specs.Values.{bool, value}
use Rattle.cel_types.specs.Meaning.{call_answer, turns_of}
use Rattle.cel_types.specs.Names.{variables_of}
use Rattle.cel_types.proofs.TreeViews.{tree_call, tree_comprehension, tree_ident, tree_map}
use Rattle.cel_meaning.specs.Origin.{call_place, first_place, in_result, placed, placed_before, placed_each, placed_entries, placed_target, placed_turn, settled}
use Rattle.cel_meaning.specs.Places.{placed_view}
use Rattle.cel_meaning.specs.Steps.{after, after_condition, steps, steps_each, steps_entries, turns_over}
use Rattle.cel_meaning.specs.private.Counting.{loop_steps, turn_steps, turns_steps}
use Rattle.cel_meaning.specs.private.Plain.{around_view, behind, turn_around, turn_view, turns}
use Rattle.cel_meaning.proofs.PlainSteps.{behind_end, behind_nothing, called, next_entry, next_tree, next_turn, one_more_operand, target_before, target_none, two_more}
use Rattle.cel_meaning.proofs.StepsTaken.{after_none, after_some, condition_is, each_next, entries_next, exit_steps, loop_least, loop_nothing, loop_still, loop_turns, no_root, root_free, takes_one, target_alone, target_ends, target_least, target_more, tree_constant, tree_list, tree_select, turn_fails, turn_is, turn_nothing, turns_next, way_ends, way_fails, way_goes, way_nothing}
use Rattle.cel_meaning.proofs.nodes.+eval.Goals as goal

pub eval-returns-in-Some-2-clause-found : goal.eval-returns-in-Some-2-clause-found
eval-returns-in-Some-2-clause-found t c =
    let r = c.args.around.now.request.now in
    let a = around_view c.args.around.now in
    let on = target_of (boxed_view c.in-Call.target) in
    let args = trees_view c.in-Call.args.items in
    let firsts = map placed_view c.in-Some.first.items in
    let first : Some firsts ≡ placed_target r a on (Some []) = rw c.in-Some.is at c.in_ok-first-in-Call.ensures.found in
    let seconds = map placed_view c.in-Some-2.others.items in
    let others : Some seconds ≡ placed_each r a args =
    rw (c.in-Some-2.is, c.deref-in-Some.ensures.value) at c.in_ok-others-in-Some.ensures.found in
    let operands = target_before on r a firsts first (placed_each r a args) ∙ ap (behind firsts) (sym others) in
    let joined = map placed_view c.deref-in-Some-2.result.now in
    let told : option_map placed_view c.in_ok-call-in-Some-2.field-0 ≡ settled (tree_view c.args.tree.now) a
    (call_answer (text_view c.in-Call.function) (Some (map (λ a. a.0) joined)))
    (call_place (function_named (text_view c.in-Call.function)) joined) = c.in_ok-call-in-Some-2.ensures in
    let made : option_map placed_view c.in_ok-call-in-Some-2.field-0
    ≡ called c.in-Call.id (text_view c.in-Call.function) on args a (firsts ++ seconds) =
    rw (
      c.in-Call.is,
      tree_call c.in-Call.id c.in-Call.function c.in-Call.target c.in-Call.args,
      c.deref-in-Some-2.ensures.value,
      c.in_ok-operands-in-Some-2.ensures,
    ) at told in
    rw (c.in-Call.is, tree_call c.in-Call.id c.in-Call.function c.in-Call.target c.in-Call.args)
    (made ∙ sym (ap (option_and_then (called c.in-Call.id (text_view c.in-Call.function) on args a)) operands))

pub eval-returns-in-Some-clause-found : goal.eval-returns-in-Some-clause-found
eval-returns-in-Some-clause-found t c =
    let r = c.args.around.now.request.now in
    let a = around_view c.args.around.now in
    let on = target_of (boxed_view c.in-Call.target) in
    let args = trees_view c.in-Call.args.items in
    let firsts = map placed_view c.in-Some.first.items in
    let first : Some firsts ≡ placed_target r a on (Some []) = rw c.in-Some.is at c.in_ok-first-in-Call.ensures.found in
    let others : None ≡ placed_each r a args =
    rw (c.in-None-2.is, c.deref-in-Some.ensures.value) at c.in_ok-others-in-Some.ensures.found in
    let operands = target_before on r a firsts first (placed_each r a args) ∙ ap (behind firsts) (sym others) in
    rw (c.in-Call.is, tree_call c.in-Call.id c.in-Call.function c.in-Call.target c.in-Call.args)
    (sym (ap (option_and_then (called c.in-Call.id (text_view c.in-Call.function) on args a)) operands))

pub eval-returns-in-Call-clause-found : goal.eval-returns-in-Call-clause-found
eval-returns-in-Call-clause-found t c =
    let r = c.args.around.now.request.now in
    let a = around_view c.args.around.now in
    let on = target_of (boxed_view c.in-Call.target) in
    let args = trees_view c.in-Call.args.items in
    let first : None ≡ placed_target r a on (Some []) = rw c.in-None.is at c.in_ok-first-in-Call.ensures.found in
    rw (c.in-Call.is, tree_call c.in-Call.id c.in-Call.function c.in-Call.target c.in-Call.args)
    (sym (ap (option_and_then (called c.in-Call.id (text_view c.in-Call.function) on args a))
    (target_none on r a first (placed_each r a args))))

pub eval-returns-in-Some-4-clause-found : goal.eval-returns-in-Some-4-clause-found
eval-returns-in-Some-4-clause-found t c =
    let r = c.args.around.now.request.now in
    let a = around_view c.args.around.now in
    let whole = map_literal c.in-Map.id (tree_entries_view c.in-Map.entries.items) in
    let mapped = map placed_view c.in-Some-4.operands.items in
    let operands : Some mapped ≡ placed_entries r a (tree_entries_view c.in-Map.entries.items) =
    rw (c.in-Some-4.is, c.deref-in-Map.ensures.value) at c.in_ok-operands-in-Map.ensures.found in
    let seen = map placed_view c.deref-in-Some-4.result.now in
    let told : option_map placed_view c.in_ok-map-in-Some-4.field-0 ≡ settled (tree_view c.args.tree.now) a
    (collections.map_literal (map (λ a. a.0) seen)) (first_place seen) = c.in_ok-map-in-Some-4.ensures in
    let made : option_map placed_view c.in_ok-map-in-Some-4.field-0
    ≡ settled whole a (collections.map_literal (map (λ a. a.0) mapped)) (first_place mapped) =
    rw (c.in-Map.is, tree_map c.in-Map.id c.in-Map.entries, c.deref-in-Some-4.ensures.value) at told in
    rw (c.in-Map.is, tree_map c.in-Map.id c.in-Map.entries)
    (made ∙ ap (option_and_then (λ os. settled whole a (collections.map_literal (map (λ a. a.0) os)) (first_place os)))
    operands)

pub eval-returns-clause-found : goal.eval-returns-clause-found
eval-returns-clause-found t c =
    rw (c.in-Comprehension.is, tree_comprehension c.in-Comprehension.id c.in-Comprehension.parts)
    (rw c.deref-in-Comprehension.ensures at c.eval_loop.ensures.found)

pub eval_entries-loop-entry-preserved : goal.eval_entries-loop-entry-preserved
eval_entries-loop-entry-preserved t c =
    let r = c.args.around.now.request.now in
    let a = around_view c.args.around.now in
    let es = c.args.entries.now in
    let i = c.loop-entry.entry-index in
    let d = c.entry-item.result in
    let so_far = c.loop-entry.invariant.1 in
    let next = entries_next r a es i d c.loop-entry-test.true c.entry-item.is in
    let rest = placed_entries r a (tree_entries_view (drop (i + 1) es)) in
    let olds = c.loop-entry.answers.items in
    let key : Some (placed_view c.in-Some.key) ≡ placed r a (tree_view d.key) =
    rw c.in-Some.is at c.in_ok-key.ensures.found in
    let goes = after_some (placed_view c.in-Some.key) (placed r a (tree_view d.key))
    (λ _. steps r a (tree_view d.value) + after (placed r a (tree_view d.value)) (λ _.
    steps_entries r a (tree_entries_view (drop (i + 1) es)))) key in
    let val : Some (placed_view c.in-Some-2.value) ≡ placed r a (tree_view d.value) =
    rw c.in-Some-2.is at c.in_ok-value.ensures.found in
    let on = after_some (placed_view c.in-Some-2.value) (placed r a (tree_view d.value))
    (λ _. steps_entries r a (tree_entries_view (drop (i + 1) es))) val in
    rw (c.in_ok-push-in-Some-2.ensures.items, c.in_ok-push-in-Some.ensures.items) (
      c.loop-entry.invariant.0
          ∙ (ap (behind (map placed_view olds)) (next_entry es i d r a c.loop-entry-test.true c.entry-item.is
          ∙ (ap (λ o. placed_before o (placed_before (placed r a (tree_view d.value)) rest)) (sym key)
          ∙ ap (λ o. placed_before (Some (placed_view c.in-Some.key)) (placed_before o rest)) (sym val)))
          ∙ two_more olds c.in-Some.key c.in-Some-2.value rest),
      omega (arith, so_far, next, goes, on, c.in_ok-key.ensures.taken, c.in_ok-value.ensures.taken),
    )

-- ---- steps of nodes

pub eval-returns-in_err-spend-clause-out : goal.eval-returns-in_err-spend-clause-out
eval-returns-in_err-spend-clause-out t c =
    let least = takes_one c.args.around.now.request.now (around_view c.args.around.now) (tree_view c.args.tree.now) in
    exit_steps c.from_residual.result c.in_err-spend.field-0.0 c.from_residual.ensures.1 _
    (λ spent. omega (arith, least, c.in_err-spend.ensures.out.1))

pub eval-returns-in-Constant-clause-taken : goal.eval-returns-in-Constant-clause-taken
eval-returns-in-Constant-clause-taken t c =
    rw (c.in-Constant.is, tree_constant c.in-Constant.id c.in-Constant.value) (omega (arith, c.in_ok-spend.ensures.taken))

pub eval-returns-in-Ident-clause-taken : goal.eval-returns-in-Ident-clause-taken
eval-returns-in-Ident-clause-taken t c =
    rw (c.in-Ident.is, tree_ident c.in-Ident.id c.in-Ident.name) (omega (arith, c.in_ok-spend.ensures.taken))

pub eval-returns-in_err-answer-in-Select-clause-out : goal.eval-returns-in_err-answer-in-Select-clause-out
eval-returns-in_err-answer-in-Select-clause-out t c =
    exit_steps c.from_residual-in_err-answer-in-Select.result c.in_err-answer-in-Select.field-0.0
    c.from_residual-in_err-answer-in-Select.ensures.1 _ (λ spent.
    let out = c.in_err-answer-in-Select.ensures.out spent in
    let short = rw c.deref.ensures at out in
    rw (c.in-Select.is, tree_select c.in-Select.id c.in-Select.operand c.in-Select.field c.in-Select.test_only)
    (omega (arith, short, c.in_ok-spend.ensures.taken)))

pub eval-returns-in-Select-clause-taken : goal.eval-returns-in-Select-clause-taken
eval-returns-in-Select-clause-taken t c =
    let taken = rw c.deref.ensures at c.in_ok-answer-in-Select.ensures.taken in
    rw (c.in-Select.is, tree_select c.in-Select.id c.in-Select.operand c.in-Select.field c.in-Select.test_only)
    (omega (arith, taken, c.in_ok-spend.ensures.taken))

pub eval-returns-in_err-first-in-Call-clause-out : goal.eval-returns-in_err-first-in-Call-clause-out
eval-returns-in_err-first-in-Call-clause-out t c =
    let r = c.args.around.now.request.now in
    let a = around_view c.args.around.now in
    let on = target_of (boxed_view c.in-Call.target) in
    let args = trees_view c.in-Call.args.items in
    let least = target_least r a on (steps_each r a args) in
    exit_steps c.from_residual-in_err-first-in-Call.result c.in_err-first-in-Call.field-0.0
    c.from_residual-in_err-first-in-Call.ensures.1 _ (λ spent.
    let short = c.in_err-first-in-Call.ensures.out spent in
    rw (c.in-Call.is, tree_call c.in-Call.id c.in-Call.function c.in-Call.target c.in-Call.args)
    (omega (arith, short, least, c.in_ok-spend.ensures.taken)))

pub eval-returns-in-Call-clause-taken : goal.eval-returns-in-Call-clause-taken
eval-returns-in-Call-clause-taken t c =
    let r = c.args.around.now.request.now in
    let a = around_view c.args.around.now in
    let on = target_of (boxed_view c.in-Call.target) in
    let args = trees_view c.in-Call.args.items in
    let first : None ≡ placed_target r a on (Some []) = rw c.in-None.is at c.in_ok-first-in-Call.ensures.found in
    let ends = target_ends r a on first (steps_each r a args) in
    let taken = c.in_ok-first-in-Call.ensures.taken in
    rw (c.in-Call.is, tree_call c.in-Call.id c.in-Call.function c.in-Call.target c.in-Call.args)
    (omega (arith, ends, taken, c.in_ok-spend.ensures.taken))

pub eval-returns-in_err-others-in-Some-clause-out : goal.eval-returns-in_err-others-in-Some-clause-out
eval-returns-in_err-others-in-Some-clause-out t c =
    let r = c.args.around.now.request.now in
    let a = around_view c.args.around.now in
    let on = target_of (boxed_view c.in-Call.target) in
    let args = trees_view c.in-Call.args.items in
    let firsts = map placed_view c.in-Some.first.items in
    let first : Some firsts ≡ placed_target r a on (Some []) = rw c.in-Some.is at c.in_ok-first-in-Call.ensures.found in
    let more = target_more r a on firsts first (steps_each r a args) in
    let one = c.in_ok-first-in-Call.ensures.taken in
    exit_steps c.from_residual-in_err-others-in-Some.result c.in_err-others-in-Some.field-0.0
    c.from_residual-in_err-others-in-Some.ensures.1 _ (λ spent.
    let out = c.in_err-others-in-Some.ensures.out spent in
    let short = rw c.deref-in-Some.ensures.value at out in
    rw (c.in-Call.is, tree_call c.in-Call.id c.in-Call.function c.in-Call.target c.in-Call.args)
    (omega (arith, more, one, short, c.in_ok-spend.ensures.taken)))

pub eval-returns-in-Some-clause-taken : goal.eval-returns-in-Some-clause-taken
eval-returns-in-Some-clause-taken t c =
    let r = c.args.around.now.request.now in
    let a = around_view c.args.around.now in
    let on = target_of (boxed_view c.in-Call.target) in
    let args = trees_view c.in-Call.args.items in
    let firsts = map placed_view c.in-Some.first.items in
    let first : Some firsts ≡ placed_target r a on (Some []) = rw c.in-Some.is at c.in_ok-first-in-Call.ensures.found in
    let more = target_more r a on firsts first (steps_each r a args) in
    let one = c.in_ok-first-in-Call.ensures.taken in
    let two = rw c.deref-in-Some.ensures.value at c.in_ok-others-in-Some.ensures.taken in
    rw (c.in-Call.is, tree_call c.in-Call.id c.in-Call.function c.in-Call.target c.in-Call.args)
    (omega (arith, more, one, two, c.in_ok-spend.ensures.taken))

pub eval-returns-in-Some-2-clause-taken : goal.eval-returns-in-Some-2-clause-taken
eval-returns-in-Some-2-clause-taken t c =
    let r = c.args.around.now.request.now in
    let a = around_view c.args.around.now in
    let on = target_of (boxed_view c.in-Call.target) in
    let args = trees_view c.in-Call.args.items in
    let firsts = map placed_view c.in-Some.first.items in
    let first : Some firsts ≡ placed_target r a on (Some []) = rw c.in-Some.is at c.in_ok-first-in-Call.ensures.found in
    let more = target_more r a on firsts first (steps_each r a args) in
    let one = c.in_ok-first-in-Call.ensures.taken in
    let two = rw c.deref-in-Some.ensures.value at c.in_ok-others-in-Some.ensures.taken in
    rw (c.in-Call.is, tree_call c.in-Call.id c.in-Call.function c.in-Call.target c.in-Call.args)
    (omega (arith, more, one, two, c.in_ok-spend.ensures.taken))

pub eval-returns-in_err-operands-in-List-clause-out : goal.eval-returns-in_err-operands-in-List-clause-out
eval-returns-in_err-operands-in-List-clause-out t c =
    exit_steps c.from_residual-in_err-operands-in-List.result c.in_err-operands-in-List.field-0.0
    c.from_residual-in_err-operands-in-List.ensures.1 _ (λ spent.
    let out = c.in_err-operands-in-List.ensures.out spent in
    let short = rw c.deref-in-List.ensures.value at out in
    rw (c.in-List.is, tree_list c.in-List.id c.in-List.elements) (omega (arith, short, c.in_ok-spend.ensures.taken)))

pub eval-returns-in-Some-3-clause-taken : goal.eval-returns-in-Some-3-clause-taken
eval-returns-in-Some-3-clause-taken t c =
    let taken = rw c.deref-in-List.ensures.value at c.in_ok-operands-in-List.ensures.taken in
    rw (c.in-List.is, tree_list c.in-List.id c.in-List.elements) (omega (arith, taken, c.in_ok-spend.ensures.taken))

pub eval-returns-in-List-clause-taken : goal.eval-returns-in-List-clause-taken
eval-returns-in-List-clause-taken t c =
    let taken = rw c.deref-in-List.ensures.value at c.in_ok-operands-in-List.ensures.taken in
    rw (c.in-List.is, tree_list c.in-List.id c.in-List.elements) (omega (arith, taken, c.in_ok-spend.ensures.taken))

pub eval-returns-in_err-operands-in-Map-clause-out : goal.eval-returns-in_err-operands-in-Map-clause-out
eval-returns-in_err-operands-in-Map-clause-out t c =
    exit_steps c.from_residual-in_err-operands-in-Map.result c.in_err-operands-in-Map.field-0.0
    c.from_residual-in_err-operands-in-Map.ensures.1 _ (λ spent.
    let out = c.in_err-operands-in-Map.ensures.out spent in
    let short = rw c.deref-in-Map.ensures.value at out in
    rw (c.in-Map.is, tree_map c.in-Map.id c.in-Map.entries) (omega (arith, short, c.in_ok-spend.ensures.taken)))

pub eval-returns-in-Some-4-clause-taken : goal.eval-returns-in-Some-4-clause-taken
eval-returns-in-Some-4-clause-taken t c =
    let taken = rw c.deref-in-Map.ensures.value at c.in_ok-operands-in-Map.ensures.taken in
    rw (c.in-Map.is, tree_map c.in-Map.id c.in-Map.entries) (omega (arith, taken, c.in_ok-spend.ensures.taken))

pub eval-returns-in-Map-clause-taken : goal.eval-returns-in-Map-clause-taken
eval-returns-in-Map-clause-taken t c =
    let taken = rw c.deref-in-Map.ensures.value at c.in_ok-operands-in-Map.ensures.taken in
    rw (c.in-Map.is, tree_map c.in-Map.id c.in-Map.entries) (omega (arith, taken, c.in_ok-spend.ensures.taken))

pub eval-returns-clause-taken : goal.eval-returns-clause-taken
eval-returns-clause-taken t c =
    let r = c.args.around.now.request.now in
    let a = around_view c.args.around.now in
    let p = loop_view c.in-Comprehension.parts.value in
    rw (c.in-Comprehension.is, tree_comprehension c.in-Comprehension.id c.in-Comprehension.parts)
    (MatchResult-weaker c.eval_loop.result (rw c.deref-in-Comprehension.ensures at c.eval_loop.ensures.taken) (λ _ taken.
    let sum : c.args.left.now ≡ (1 + loop_steps p r a) + c.eval_loop.new.left =
    omega (arith, taken, c.in_ok-spend.ensures.taken) in sum) (λ _ _. tt))

pub eval-returns-clause-out : goal.eval-returns-clause-out
eval-returns-clause-out t c =
    let r = c.args.around.now.request.now in
    let a = around_view c.args.around.now in
    let p = loop_view c.in-Comprehension.parts.value in
    rw (c.in-Comprehension.is, tree_comprehension c.in-Comprehension.id c.in-Comprehension.parts)
    (MatchResult-weaker c.eval_loop.result (rw c.deref-in-Comprehension.ensures at c.eval_loop.ensures.out) (λ _ _. tt)
    (λ e out spent.
    let short = out spent in
    let less : c.args.left.now < 1 + loop_steps p r a = omega (arith, short, c.in_ok-spend.ensures.taken) in less))

-- ---- steps of operands

pub eval_select-returns-in_err-eval-clause-out : goal.eval_select-returns-in_err-eval-clause-out
eval_select-returns-in_err-eval-clause-out t c =
    let r = c.args.around.now.request.now in
    let a = around_view c.args.around.now in
    let whole = no_root r a (tree_view c.args.operand.now) c.in_default.ensures in
    exit_steps c.from_residual-in_err-eval.result c.in_err-eval.field-0.0 c.from_residual-in_err-eval.ensures.1 _ (λ spent.
    let short = c.in_err-eval.ensures.out spent in
    omega (arith, whole, short))

pub eval_select-returns-then-test_only-clause-taken : goal.eval_select-returns-then-test_only-clause-taken
eval_select-returns-then-test_only-clause-taken t c =
    let r = c.args.around.now.request.now in
    let a = around_view c.args.around.now in
    let free = root_free r a (tree_view c.args.operand.now) (text_view c.in-Some.root.now) c.in-Some.ensures in
    omega (arith, free)

pub eval_select-returns-in-Some-clause-taken : goal.eval_select-returns-in-Some-clause-taken
eval_select-returns-in-Some-clause-taken t c =
    let r = c.args.around.now.request.now in
    let a = around_view c.args.around.now in
    let free = root_free r a (tree_view c.args.operand.now) (text_view c.in-Some.root.now) c.in-Some.ensures in
    omega (arith, free)

pub eval_select-returns-in-None-clause-taken : goal.eval_select-returns-in-None-clause-taken
eval_select-returns-in-None-clause-taken t c =
    let r = c.args.around.now.request.now in
    let a = around_view c.args.around.now in
    let whole = no_root r a (tree_view c.args.operand.now) c.in_default.ensures in
    omega (arith, whole, c.in_ok-eval.ensures.taken)

pub eval_select-returns-then-test_only-2-clause-taken : goal.eval_select-returns-then-test_only-2-clause-taken
eval_select-returns-then-test_only-2-clause-taken t c =
    let r = c.args.around.now.request.now in
    let a = around_view c.args.around.now in
    let whole = no_root r a (tree_view c.args.operand.now) c.in_default.ensures in
    omega (arith, whole, c.in_ok-eval.ensures.taken)

pub eval_select-returns-in_ok-selected-in-Some-2-clause-taken : goal.eval_select-returns-in_ok-selected-in-Some-2-clause-taken
eval_select-returns-in_ok-selected-in-Some-2-clause-taken t c =
    let r = c.args.around.now.request.now in
    let a = around_view c.args.around.now in
    let whole = no_root r a (tree_view c.args.operand.now) c.in_default.ensures in
    omega (arith, whole, c.in_ok-eval.ensures.taken)

pub eval_target-returns-in_err-eval-in-Some-clause-out : goal.eval_target-returns-in_err-eval-in-Some-clause-out
eval_target-returns-in_err-eval-in-Some-clause-out t c =
    let r = c.args.around.now.request.now in
    let a = around_view c.args.around.now in
    let alone = target_alone r a (tree_view c.in-Some.target.value) in
    exit_steps c.from_residual.result c.in_err-eval-in-Some.field-0.0 c.from_residual.ensures.1 _ (λ spent.
    let out = c.in_err-eval-in-Some.ensures.out spent in
    let short = rw c.deref.ensures at out in
    rw c.in-Some.is (omega (arith, alone, short)))

pub eval_target-returns-in-None-clause-taken : goal.eval_target-returns-in-None-clause-taken
eval_target-returns-in-None-clause-taken t c =
    rw c.in-None.is (omega arith)

pub eval_target-returns-in-None-2-clause-taken : goal.eval_target-returns-in-None-2-clause-taken
eval_target-returns-in-None-2-clause-taken t c =
    let r = c.args.around.now.request.now in
    let a = around_view c.args.around.now in
    let alone = target_alone r a (tree_view c.in-Some.target.value) in
    let taken = rw c.deref.ensures at c.in_ok-eval-in-Some.ensures.taken in
    rw c.in-Some.is (omega (arith, alone, taken))

pub eval_target-returns-clause-taken : goal.eval_target-returns-clause-taken
eval_target-returns-clause-taken t c =
    let r = c.args.around.now.request.now in
    let a = around_view c.args.around.now in
    let alone = target_alone r a (tree_view c.in-Some.target.value) in
    let taken = rw c.deref.ensures at c.in_ok-eval-in-Some.ensures.taken in
    rw c.in-Some.is (omega (arith, alone, taken))

pub eval_each-loop-tree-init : goal.eval_each-loop-tree-init
eval_each-loop-tree-init t c =
    rw c.new-answers.ensures.items (sym (behind_nothing _), omega arith)

pub eval_each-returns-in_err-answer-clause-out : goal.eval_each-returns-in_err-answer-clause-out
eval_each-returns-in_err-answer-clause-out t c =
    let r = c.args.around.now.request.now in
    let a = around_view c.args.around.now in
    let ts = c.args.trees.now in
    let i = c.loop-tree.tree-index in
    let d = c.tree-item.result in
    let so_far = c.loop-tree.invariant.1 in
    let next = each_next r a ts i d c.loop-tree-test.true c.tree-item.is in
    exit_steps c.from_residual.result c.in_err-answer.field-0.0 c.from_residual.ensures.1 _ (λ spent.
    let short = c.in_err-answer.ensures.out spent in
    omega (arith, so_far, next, short))

pub eval_each-returns-in-None-clause-taken : goal.eval_each-returns-in-None-clause-taken
eval_each-returns-in-None-clause-taken t c =
    let r = c.args.around.now.request.now in
    let a = around_view c.args.around.now in
    let ts = c.args.trees.now in
    let i = c.loop-tree.tree-index in
    let d = c.tree-item.result in
    let so_far = c.loop-tree.invariant.1 in
    let next = each_next r a ts i d c.loop-tree-test.true c.tree-item.is in
    let answer : None ≡ placed r a (tree_view d) = rw c.in-None.is at c.in_ok-answer.ensures.found in
    let ends = after_none (placed r a (tree_view d)) (λ _. steps_each r a (trees_view (drop (i + 1) ts))) answer in
    omega (arith, so_far, next, ends, c.in_ok-answer.ensures.taken)

pub eval_each-loop-tree-preserved : goal.eval_each-loop-tree-preserved
eval_each-loop-tree-preserved t c =
    let r = c.args.around.now.request.now in
    let a = around_view c.args.around.now in
    let ts = c.args.trees.now in
    let i = c.loop-tree.tree-index in
    let d = c.tree-item.result in
    let so_far = c.loop-tree.invariant.1 in
    let next = each_next r a ts i d c.loop-tree-test.true c.tree-item.is in
    let rest = placed_each r a (trees_view (drop (i + 1) ts)) in
    let olds = c.loop-tree.answers.items in
    let answer : Some (placed_view c.in-Some.answer) ≡ placed r a (tree_view d) =
    rw c.in-Some.is at c.in_ok-answer.ensures.found in
    let goes = after_some (placed_view c.in-Some.answer) (placed r a (tree_view d))
    (λ _. steps_each r a (trees_view (drop (i + 1) ts))) answer in
    rw c.in_ok-push-in-Some.ensures.items (
      c.loop-tree.invariant.0
          ∙ (ap (behind (map placed_view olds)) (next_tree ts i d r a c.loop-tree-test.true c.tree-item.is
          ∙ ap (λ o. placed_before o rest) (sym answer))
          ∙ one_more_operand olds c.in-Some.answer rest),
      omega (arith, so_far, next, goes, c.in_ok-answer.ensures.taken),
    )

pub eval_each-returns-clause-taken : goal.eval_each-returns-clause-taken
eval_each-returns-clause-taken t c =
    let r = c.args.around.now.request.now in
    let a = around_view c.args.around.now in
    let ts = c.args.trees.now in
    let i = c.loop-tree.tree-index in
    let so_far = c.loop-tree.invariant.1 in
    let none = ap (λ l. steps_each r a (trees_view l)) (drop_all i ts c.loop-tree-test.false) in
    omega (arith, so_far, none)

pub eval_entries-loop-entry-init : goal.eval_entries-loop-entry-init
eval_entries-loop-entry-init t c =
    rw c.new-answers.ensures.items (sym (behind_nothing _), omega arith)

pub eval_entries-returns-in_err-key-clause-out : goal.eval_entries-returns-in_err-key-clause-out
eval_entries-returns-in_err-key-clause-out t c =
    let r = c.args.around.now.request.now in
    let a = around_view c.args.around.now in
    let es = c.args.entries.now in
    let i = c.loop-entry.entry-index in
    let d = c.entry-item.result in
    let so_far = c.loop-entry.invariant.1 in
    let next = entries_next r a es i d c.loop-entry-test.true c.entry-item.is in
    exit_steps c.from_residual.result c.in_err-key.field-0.0 c.from_residual.ensures.1 _ (λ spent.
    let short = c.in_err-key.ensures.out spent in
    omega (arith, so_far, next, short))

pub eval_entries-returns-in-None-clause-taken : goal.eval_entries-returns-in-None-clause-taken
eval_entries-returns-in-None-clause-taken t c =
    let r = c.args.around.now.request.now in
    let a = around_view c.args.around.now in
    let es = c.args.entries.now in
    let i = c.loop-entry.entry-index in
    let d = c.entry-item.result in
    let so_far = c.loop-entry.invariant.1 in
    let next = entries_next r a es i d c.loop-entry-test.true c.entry-item.is in
    let key : None ≡ placed r a (tree_view d.key) = rw c.in-None.is at c.in_ok-key.ensures.found in
    let ends = after_none (placed r a (tree_view d.key))
    (λ _. steps r a (tree_view d.value) + after (placed r a (tree_view d.value)) (λ _.
    steps_entries r a (tree_entries_view (drop (i + 1) es)))) key in
    omega (arith, so_far, next, ends, c.in_ok-key.ensures.taken)

pub eval_entries-returns-in_err-value-clause-out : goal.eval_entries-returns-in_err-value-clause-out
eval_entries-returns-in_err-value-clause-out t c =
    let r = c.args.around.now.request.now in
    let a = around_view c.args.around.now in
    let es = c.args.entries.now in
    let i = c.loop-entry.entry-index in
    let d = c.entry-item.result in
    let so_far = c.loop-entry.invariant.1 in
    let next = entries_next r a es i d c.loop-entry-test.true c.entry-item.is in
    let key : Some (placed_view c.in-Some.key) ≡ placed r a (tree_view d.key) =
    rw c.in-Some.is at c.in_ok-key.ensures.found in
    let goes = after_some (placed_view c.in-Some.key) (placed r a (tree_view d.key))
    (λ _. steps r a (tree_view d.value) + after (placed r a (tree_view d.value)) (λ _.
    steps_entries r a (tree_entries_view (drop (i + 1) es)))) key in
    exit_steps c.from_residual-in_err-value.result c.in_err-value.field-0.0 c.from_residual-in_err-value.ensures.1 _ (λ spent.
    let short = c.in_err-value.ensures.out spent in
    omega (arith, so_far, next, goes, short, c.in_ok-key.ensures.taken))

pub eval_entries-returns-in-None-2-clause-taken : goal.eval_entries-returns-in-None-2-clause-taken
eval_entries-returns-in-None-2-clause-taken t c =
    let r = c.args.around.now.request.now in
    let a = around_view c.args.around.now in
    let es = c.args.entries.now in
    let i = c.loop-entry.entry-index in
    let d = c.entry-item.result in
    let so_far = c.loop-entry.invariant.1 in
    let next = entries_next r a es i d c.loop-entry-test.true c.entry-item.is in
    let key : Some (placed_view c.in-Some.key) ≡ placed r a (tree_view d.key) =
    rw c.in-Some.is at c.in_ok-key.ensures.found in
    let goes = after_some (placed_view c.in-Some.key) (placed r a (tree_view d.key))
    (λ _. steps r a (tree_view d.value) + after (placed r a (tree_view d.value)) (λ _.
    steps_entries r a (tree_entries_view (drop (i + 1) es)))) key in
    let val : None ≡ placed r a (tree_view d.value) = rw c.in-None-2.is at c.in_ok-value.ensures.found in
    let ends = after_none (placed r a (tree_view d.value)) (λ _. steps_entries r a (tree_entries_view (drop (i + 1) es))) val in
    omega (arith, so_far, next, goes, ends, c.in_ok-key.ensures.taken, c.in_ok-value.ensures.taken)

pub eval_entries-returns-clause-taken : goal.eval_entries-returns-clause-taken
eval_entries-returns-clause-taken t c =
    let r = c.args.around.now.request.now in
    let a = around_view c.args.around.now in
    let es = c.args.entries.now in
    let i = c.loop-entry.entry-index in
    let so_far = c.loop-entry.invariant.1 in
    let none = ap (λ l. steps_entries r a (tree_entries_view l)) (drop_all i es c.loop-entry-test.false) in
    omega (arith, so_far, none)

pub eval_each-returns-clause-found : goal.eval_each-returns-clause-found
eval_each-returns-clause-found t c =
    let r = c.args.around.now.request.now in
    let a = around_view c.args.around.now in
    let ts = c.args.trees.now in
    let i = c.loop-tree.tree-index in
    let olds = map placed_view c.loop-tree.answers.items in
    sym (c.loop-tree.invariant.0
    ∙ (ap (λ l. behind olds (placed_each r a (trees_view l))) (drop_all i ts c.loop-tree-test.false) ∙ behind_end olds))

pub eval_each-returns-in-None-clause-found : goal.eval_each-returns-in-None-clause-found
eval_each-returns-in-None-clause-found t c =
    let r = c.args.around.now.request.now in
    let a = around_view c.args.around.now in
    let ts = c.args.trees.now in
    let i = c.loop-tree.tree-index in
    let olds = map placed_view c.loop-tree.answers.items in
    let d = c.tree-item.result in
    let rest = placed_each r a (trees_view (drop (i + 1) ts)) in
    let answer : None ≡ placed r a (tree_view d) = rw c.in-None.is at c.in_ok-answer.ensures.found in
    sym (c.loop-tree.invariant.0 ∙ ap (behind olds) (next_tree ts i d r a c.loop-tree-test.true c.tree-item.is
    ∙ ap (λ o. placed_before o rest) (sym answer)))

pub eval_entries-returns-clause-found : goal.eval_entries-returns-clause-found
eval_entries-returns-clause-found t c =
    let r = c.args.around.now.request.now in
    let a = around_view c.args.around.now in
    let es = c.args.entries.now in
    let i = c.loop-entry.entry-index in
    let olds = map placed_view c.loop-entry.answers.items in
    sym (c.loop-entry.invariant.0
    ∙ (ap (λ l. behind olds (placed_entries r a (tree_entries_view l))) (drop_all i es c.loop-entry-test.false) ∙ behind_end olds))

pub eval_entries-returns-in-None-clause-found : goal.eval_entries-returns-in-None-clause-found
eval_entries-returns-in-None-clause-found t c =
    let r = c.args.around.now.request.now in
    let a = around_view c.args.around.now in
    let es = c.args.entries.now in
    let i = c.loop-entry.entry-index in
    let olds = map placed_view c.loop-entry.answers.items in
    let d = c.entry-item.result in
    let rest = placed_entries r a (tree_entries_view (drop (i + 1) es)) in
    let next = next_entry es i d r a c.loop-entry-test.true c.entry-item.is in
    let key : None ≡ placed r a (tree_view d.key) = rw c.in-None.is at c.in_ok-key.ensures.found in
    sym (c.loop-entry.invariant.0 ∙ ap (behind olds) (next
    ∙ ap (λ o. placed_before o (placed_before (placed r a (tree_view d.value)) rest)) (sym key)))

pub eval_entries-returns-in-None-2-clause-found : goal.eval_entries-returns-in-None-2-clause-found
eval_entries-returns-in-None-2-clause-found t c =
    let r = c.args.around.now.request.now in
    let a = around_view c.args.around.now in
    let es = c.args.entries.now in
    let i = c.loop-entry.entry-index in
    let olds = map placed_view c.loop-entry.answers.items in
    let d = c.entry-item.result in
    let rest = placed_entries r a (tree_entries_view (drop (i + 1) es)) in
    let next = next_entry es i d r a c.loop-entry-test.true c.entry-item.is in
    let key : Some (placed_view c.in-Some.key) ≡ placed r a (tree_view d.key) =
    rw c.in-Some.is at c.in_ok-key.ensures.found in
    let val : None ≡ placed r a (tree_view d.value) = rw c.in-None-2.is at c.in_ok-value.ensures.found in
    sym (c.loop-entry.invariant.0 ∙ ap (behind olds) (next
    ∙ (ap (λ o. placed_before o (placed_before (placed r a (tree_view d.value)) rest)) (sym key)
    ∙ ap (λ o. placed_before (Some (placed_view c.in-Some.key)) (placed_before o rest)) (sym val))))

-- ---- steps of comprehensions

pub eval_loop-returns-in_err-eval-clause-out : goal.eval_loop-returns-in_err-eval-clause-out
eval_loop-returns-in_err-eval-clause-out t c =
    let r = c.args.around.now.request.now in
    let a = around_view c.args.around.now in
    let p = loop_view c.args.parts.now in
    let least = loop_least r a p in
    exit_steps c.from_residual.result c.in_err-eval.field-0.0 c.from_residual.ensures.1 _ (λ spent.
    let short = c.in_err-eval.ensures.out spent in
    omega (arith, least, short))

pub eval_loop-returns-in-None-clause-taken : goal.eval_loop-returns-in-None-clause-taken
eval_loop-returns-in-None-clause-taken t c =
    let r = c.args.around.now.request.now in
    let a = around_view c.args.around.now in
    let p = loop_view c.args.parts.now in
    let range : None ≡ placed r a p.iter_range = rw c.in-None.is at c.in_ok-eval.ensures.found in
    let whole = loop_nothing r a p range in
    omega (arith, whole, c.in_ok-eval.ensures.taken)

pub eval_loop-returns-in-Err-clause-taken : goal.eval_loop-returns-in-Err-clause-taken
eval_loop-returns-in-Err-clause-taken t c =
    let r = c.args.around.now.request.now in
    let a = around_view c.args.around.now in
    let p = loop_view c.args.parts.now in
    let range : Some (placed_view c.in-Some.range) ≡ placed r a p.iter_range = rw c.in-Some.is at c.in_ok-eval.ensures.found in
    let x = answer_view c.in-Some.range.answer in
    let none : None ≡ turns_over (variables_of p.iter_var2) x = rw c.in-Err.is refl in
    let whole = loop_still r a p (placed_view c.in-Some.range) range none in
    omega (arith, whole, c.in_ok-eval.ensures.taken)

pub eval_loop-returns-in_default-clause-taken : goal.eval_loop-returns-in_default-clause-taken
eval_loop-returns-in_default-clause-taken t c =
    let r = c.args.around.now.request.now in
    let a = around_view c.args.around.now in
    let p = loop_view c.args.parts.now in
    let range : Some (placed_view c.in-Some.range) ≡ placed r a p.iter_range = rw c.in-Some.is at c.in_ok-eval.ensures.found in
    let x = answer_view c.in-Some.range.answer in
    let gone : None ≡ turns_of (variables_of p.iter_var2) (value_view c.in-Ok.value) =
    rw (c.in_default.is, c.variables_of.ensures) at c.in_ok-turns-in-Ok.ensures in
    let none : None ≡ turns_over (variables_of p.iter_var2) x = rw c.in-Ok.is gone in
    let whole = loop_still r a p (placed_view c.in-Some.range) range none in
    omega (arith, whole, c.in_ok-eval.ensures.taken)

pub eval_loop-returns-in_err-eval-2-clause-out : goal.eval_loop-returns-in_err-eval-2-clause-out
eval_loop-returns-in_err-eval-2-clause-out t c =
    let r = c.args.around.now.request.now in
    let a = around_view c.args.around.now in
    let p = loop_view c.args.parts.now in
    let range : Some (placed_view c.in-Some.range) ≡ placed r a p.iter_range = rw c.in-Some.is at c.in_ok-eval.ensures.found in
    let x = answer_view c.in-Some.range.answer in
    let each = map turn_view c.in-Some-turns.turns.items in
    let made : Some each ≡ turns_of (variables_of p.iter_var2) (value_view c.in-Ok.value) =
    rw (c.in-Some-turns.is, c.variables_of.ensures) at c.in_ok-turns-in-Ok.ensures in
    let goes : Some each ≡ turns_over (variables_of p.iter_var2) x = rw c.in-Ok.is made in
    let whole = loop_turns r a p (placed_view c.in-Some.range) each range goes in
    let one = c.in_ok-eval.ensures.taken in
    exit_steps c.from_residual-in_err-eval-2.result c.in_err-eval-2.field-0.0 c.from_residual-in_err-eval-2.ensures.1 _ (λ spent.
    let short = c.in_err-eval-2.ensures.out spent in
    omega (arith, whole, one, short))

pub eval_loop-returns-in-None-2-clause-taken : goal.eval_loop-returns-in-None-2-clause-taken
eval_loop-returns-in-None-2-clause-taken t c =
    let r = c.args.around.now.request.now in
    let a = around_view c.args.around.now in
    let p = loop_view c.args.parts.now in
    let range : Some (placed_view c.in-Some.range) ≡ placed r a p.iter_range = rw c.in-Some.is at c.in_ok-eval.ensures.found in
    let x = answer_view c.in-Some.range.answer in
    let each = map turn_view c.in-Some-turns.turns.items in
    let made : Some each ≡ turns_of (variables_of p.iter_var2) (value_view c.in-Ok.value) =
    rw (c.in-Some-turns.is, c.variables_of.ensures) at c.in_ok-turns-in-Ok.ensures in
    let goes : Some each ≡ turns_over (variables_of p.iter_var2) x = rw c.in-Ok.is made in
    let whole = loop_turns r a p (placed_view c.in-Some.range) each range goes in
    let one = c.in_ok-eval.ensures.taken in
    let init : None ≡ placed r a p.accu_init = rw c.in-None-2.is at c.in_ok-eval-2.ensures.found in
    let ends = after_none (placed r a p.accu_init) (turns_steps p r a 0 each) init in
    omega (arith, whole, one, ends, c.in_ok-eval-2.ensures.taken)

pub eval_loop-returns-clause-taken : goal.eval_loop-returns-clause-taken
eval_loop-returns-clause-taken t c =
    let r = c.args.around.now.request.now in
    let a = around_view c.args.around.now in
    let p = loop_view c.args.parts.now in
    let range : Some (placed_view c.in-Some.range) ≡ placed r a p.iter_range = rw c.in-Some.is at c.in_ok-eval.ensures.found in
    let x = answer_view c.in-Some.range.answer in
    let each = map turn_view c.in-Some-turns.turns.items in
    let made : Some each ≡ turns_of (variables_of p.iter_var2) (value_view c.in-Ok.value) =
    rw (c.in-Some-turns.is, c.variables_of.ensures) at c.in_ok-turns-in-Ok.ensures in
    let goes : Some each ≡ turns_over (variables_of p.iter_var2) x = rw c.in-Ok.is made in
    let whole = loop_turns r a p (placed_view c.in-Some.range) each range goes in
    let one = c.in_ok-eval.ensures.taken in
    let init : Some (placed_view c.in-Some-2.init) ≡ placed r a p.accu_init =
    rw c.in-Some-2.is at c.in_ok-eval-2.ensures.found in
    let on = after_some (placed_view c.in-Some-2.init) (placed r a p.accu_init) (turns_steps p r a 0 each) init in
    let two = c.in_ok-eval-2.ensures.taken in
    MatchResult-weaker c.eval_turns.result (rw c.deref.ensures.value at c.eval_turns.ensures.taken)
    (λ _ taken. omega (arith, whole, one, two, on, taken)) (λ _ _. tt)

pub eval_loop-returns-clause-out : goal.eval_loop-returns-clause-out
eval_loop-returns-clause-out t c =
    let r = c.args.around.now.request.now in
    let a = around_view c.args.around.now in
    let p = loop_view c.args.parts.now in
    let range : Some (placed_view c.in-Some.range) ≡ placed r a p.iter_range = rw c.in-Some.is at c.in_ok-eval.ensures.found in
    let x = answer_view c.in-Some.range.answer in
    let each = map turn_view c.in-Some-turns.turns.items in
    let made : Some each ≡ turns_of (variables_of p.iter_var2) (value_view c.in-Ok.value) =
    rw (c.in-Some-turns.is, c.variables_of.ensures) at c.in_ok-turns-in-Ok.ensures in
    let goes : Some each ≡ turns_over (variables_of p.iter_var2) x = rw c.in-Ok.is made in
    let whole = loop_turns r a p (placed_view c.in-Some.range) each range goes in
    let one = c.in_ok-eval.ensures.taken in
    let init : Some (placed_view c.in-Some-2.init) ≡ placed r a p.accu_init =
    rw c.in-Some-2.is at c.in_ok-eval-2.ensures.found in
    let on = after_some (placed_view c.in-Some-2.init) (placed r a p.accu_init) (turns_steps p r a 0 each) init in
    let two = c.in_ok-eval-2.ensures.taken in
    MatchResult-weaker c.eval_turns.result (rw c.deref.ensures.value at c.eval_turns.ensures.out) (λ _ _. tt)
    (λ e out spent. let short = out spent in omega (arith, whole, one, two, on, short))

pub eval_turns-loop-number-init : goal.eval_turns-loop-number-init
eval_turns-loop-number-init t c =
    (refl, omega arith)

pub eval_turns-returns-in_err-next-clause-out : goal.eval_turns-returns-in_err-next-clause-out
eval_turns-returns-in_err-next-clause-out t c =
    let r = c.args.around.now.request.now in
    let a = around_view c.args.around.now in
    let p = loop_view c.args.parts.now in
    let each = c.args.each.now in
    let i = c.loop-number.number in
    let g = placed_view c.loop-number.gathered in
    let d = c.index-each-number.result in
    let within : i < length each = omega (arith, c.loop-number-test.true) in
    let nexts = turns_steps p r a (i + 1) (map turn_view (drop (i + 1) each)) in
    let ended = steps r (in_result p.accu_var g a) p.result in
    let so_far = c.loop-number.invariant.1 in
    let first = turns_next r a p each i d g within c.index-each-number.is in
    exit_steps c.from_residual-in_err-next.result c.in_err-next.field-0.0 c.from_residual-in_err-next.ensures.1 _ (λ spent.
    let out = c.in_err-next.ensures.out spent in
    let all = rw (c.deref.ensures.value, c.in_ok-turns.ensures, c.deref-in-loop-number.ensures.value, c.in_ok-known.ensures) at out in
    let short : c.loop-number.left < turn_steps p r (turn_around p a i (turn_view d) g) nexts ended = all nexts ended in
    omega (arith, first, so_far, short))

pub eval_turns-loop-number-preserved : goal.eval_turns-loop-number-preserved
eval_turns-loop-number-preserved t c =
    let r = c.args.around.now.request.now in
    let a = around_view c.args.around.now in
    let p = loop_view c.args.parts.now in
    let each = c.args.each.now in
    let i = c.loop-number.number in
    let g = placed_view c.loop-number.gathered in
    let d = c.index-each-number.result in
    let within : i < length each = omega (arith, c.loop-number-test.true) in
    let nexts = turns_steps p r a (i + 1) (map turn_view (drop (i + 1) each)) in
    let ended = steps r (in_result p.accu_var g a) p.result in
    let so_far = c.loop-number.invariant.1 in
    let first = turns_next r a p each i d g within c.index-each-number.is in
    let next = turns p r a (i + 1) (map turn_view (drop (i + 1) each)) in
    let end = placed r (in_result p.accu_var g a) p.result in
    let turn = next_turn p r a each i d g within c.index-each-number.is in
    let taken = rw (c.in-Next.is, c.deref.ensures.value, c.in_ok-turns.ensures, c.deref-in-loop-number.ensures.value, c.in_ok-known.ensures) at c.in_ok-next.ensures.taken in
    let went : c.loop-number.left + nexts (placed_view c.in-Next.next)
    ≡ turn_steps p r (turn_around p a i (turn_view d) g) nexts ended + c.eval_turn.new.left = taken nexts ended in
    let found = rw (c.in-Next.is, c.deref.ensures.value, c.in_ok-turns.ensures, c.deref-in-loop-number.ensures.value, c.in_ok-known.ensures) at c.in_ok-next.ensures.found in
    (c.loop-number.invariant.0 ∙ (turn ∙ found next end), omega (arith, first, so_far, went))

pub eval_turns-returns-in-Fails-clause-found : goal.eval_turns-returns-in-Fails-clause-found
eval_turns-returns-in-Fails-clause-found t c =
    let r = c.args.around.now.request.now in
    let a = around_view c.args.around.now in
    let p = loop_view c.args.parts.now in
    let each = c.args.each.now in
    let i = c.loop-number.number in
    let g = placed_view c.loop-number.gathered in
    let d = c.index-each-number.result in
    let within : i < length each = omega (arith, c.loop-number-test.true) in
    let next = turns p r a (i + 1) (map turn_view (drop (i + 1) each)) in
    let end = placed r (in_result p.accu_var g a) p.result in
    let turn = next_turn p r a each i d g within c.index-each-number.is in
    let found = rw (c.in-Fails.is, c.deref.ensures.value, c.in_ok-turns.ensures, c.deref-in-loop-number.ensures.value, c.in_ok-known.ensures) at c.in_ok-next.ensures.found in
    sym (c.loop-number.invariant.0 ∙ (turn ∙ found next end))

pub eval_turns-returns-in-Fails-clause-taken : goal.eval_turns-returns-in-Fails-clause-taken
eval_turns-returns-in-Fails-clause-taken t c =
    let r = c.args.around.now.request.now in
    let a = around_view c.args.around.now in
    let p = loop_view c.args.parts.now in
    let each = c.args.each.now in
    let i = c.loop-number.number in
    let g = placed_view c.loop-number.gathered in
    let d = c.index-each-number.result in
    let within : i < length each = omega (arith, c.loop-number-test.true) in
    let nexts = turns_steps p r a (i + 1) (map turn_view (drop (i + 1) each)) in
    let ended = steps r (in_result p.accu_var g a) p.result in
    let so_far = c.loop-number.invariant.1 in
    let first = turns_next r a p each i d g within c.index-each-number.is in
    let taken = rw (c.in-Fails.is, c.deref.ensures.value, c.in_ok-turns.ensures, c.deref-in-loop-number.ensures.value, c.in_ok-known.ensures) at c.in_ok-next.ensures.taken in
    let went : c.loop-number.left + 0
    ≡ turn_steps p r (turn_around p a i (turn_view d) g) nexts ended + c.eval_turn.new.left = taken nexts ended in
    omega (arith, first, so_far, went)

pub eval_turns-returns-in-Nothing-clause-found : goal.eval_turns-returns-in-Nothing-clause-found
eval_turns-returns-in-Nothing-clause-found t c =
    let r = c.args.around.now.request.now in
    let a = around_view c.args.around.now in
    let p = loop_view c.args.parts.now in
    let each = c.args.each.now in
    let i = c.loop-number.number in
    let g = placed_view c.loop-number.gathered in
    let d = c.index-each-number.result in
    let within : i < length each = omega (arith, c.loop-number-test.true) in
    let next = turns p r a (i + 1) (map turn_view (drop (i + 1) each)) in
    let end = placed r (in_result p.accu_var g a) p.result in
    let turn = next_turn p r a each i d g within c.index-each-number.is in
    let found = rw (c.in-Nothing.is, c.deref.ensures.value, c.in_ok-turns.ensures, c.deref-in-loop-number.ensures.value, c.in_ok-known.ensures) at c.in_ok-next.ensures.found in
    sym (c.loop-number.invariant.0 ∙ (turn ∙ found next end))

pub eval_turns-returns-in-Nothing-clause-taken : goal.eval_turns-returns-in-Nothing-clause-taken
eval_turns-returns-in-Nothing-clause-taken t c =
    let r = c.args.around.now.request.now in
    let a = around_view c.args.around.now in
    let p = loop_view c.args.parts.now in
    let each = c.args.each.now in
    let i = c.loop-number.number in
    let g = placed_view c.loop-number.gathered in
    let d = c.index-each-number.result in
    let within : i < length each = omega (arith, c.loop-number-test.true) in
    let nexts = turns_steps p r a (i + 1) (map turn_view (drop (i + 1) each)) in
    let ended = steps r (in_result p.accu_var g a) p.result in
    let so_far = c.loop-number.invariant.1 in
    let first = turns_next r a p each i d g within c.index-each-number.is in
    let taken = rw (c.in-Nothing.is, c.deref.ensures.value, c.in_ok-turns.ensures, c.deref-in-loop-number.ensures.value, c.in_ok-known.ensures) at c.in_ok-next.ensures.taken in
    let went : c.loop-number.left + 0
    ≡ turn_steps p r (turn_around p a i (turn_view d) g) nexts ended + c.eval_turn.new.left = taken nexts ended in
    omega (arith, first, so_far, went)

pub eval_turns-returns-in-Ends-clause-found : goal.eval_turns-returns-in-Ends-clause-found
eval_turns-returns-in-Ends-clause-found t c =
    let r = c.args.around.now.request.now in
    let a = around_view c.args.around.now in
    let p = loop_view c.args.parts.now in
    let each = c.args.each.now in
    let i = c.loop-number.number in
    let g = placed_view c.loop-number.gathered in
    let d = c.index-each-number.result in
    let within : i < length each = omega (arith, c.loop-number-test.true) in
    let next = turns p r a (i + 1) (map turn_view (drop (i + 1) each)) in
    let end = placed r (in_result p.accu_var g a) p.result in
    let turn = next_turn p r a each i d g within c.index-each-number.is in
    let found = rw (c.in-Ends.is, c.deref.ensures.value, c.in_ok-turns.ensures, c.deref-in-loop-number.ensures.value, c.in_ok-known.ensures) at c.in_ok-next.ensures.found in
    MatchResult-weaker c.eval_result.result c.eval_result.ensures.found
    (λ _ told. told ∙ sym (c.loop-number.invariant.0 ∙ (turn ∙ found next end))) (λ _ _. tt)

pub eval_turns-returns-in-Ends-clause-taken : goal.eval_turns-returns-in-Ends-clause-taken
eval_turns-returns-in-Ends-clause-taken t c =
    let r = c.args.around.now.request.now in
    let a = around_view c.args.around.now in
    let p = loop_view c.args.parts.now in
    let each = c.args.each.now in
    let i = c.loop-number.number in
    let g = placed_view c.loop-number.gathered in
    let d = c.index-each-number.result in
    let within : i < length each = omega (arith, c.loop-number-test.true) in
    let nexts = turns_steps p r a (i + 1) (map turn_view (drop (i + 1) each)) in
    let ended = steps r (in_result p.accu_var g a) p.result in
    let so_far = c.loop-number.invariant.1 in
    let first = turns_next r a p each i d g within c.index-each-number.is in
    let taken = rw (c.in-Ends.is, c.deref.ensures.value, c.in_ok-turns.ensures, c.deref-in-loop-number.ensures.value, c.in_ok-known.ensures) at c.in_ok-next.ensures.taken in
    let went : c.loop-number.left + ended
    ≡ turn_steps p r (turn_around p a i (turn_view d) g) nexts ended + c.eval_turn.new.left = taken nexts ended in
    MatchResult-weaker c.eval_result.result c.eval_result.ensures.taken
    (λ _ rest. omega (arith, first, so_far, went, rest)) (λ _ _. tt)

pub eval_turns-returns-in-Ends-clause-out : goal.eval_turns-returns-in-Ends-clause-out
eval_turns-returns-in-Ends-clause-out t c =
    let r = c.args.around.now.request.now in
    let a = around_view c.args.around.now in
    let p = loop_view c.args.parts.now in
    let each = c.args.each.now in
    let i = c.loop-number.number in
    let g = placed_view c.loop-number.gathered in
    let d = c.index-each-number.result in
    let within : i < length each = omega (arith, c.loop-number-test.true) in
    let nexts = turns_steps p r a (i + 1) (map turn_view (drop (i + 1) each)) in
    let ended = steps r (in_result p.accu_var g a) p.result in
    let so_far = c.loop-number.invariant.1 in
    let first = turns_next r a p each i d g within c.index-each-number.is in
    let taken = rw (c.in-Ends.is, c.deref.ensures.value, c.in_ok-turns.ensures, c.deref-in-loop-number.ensures.value, c.in_ok-known.ensures) at c.in_ok-next.ensures.taken in
    let went : c.loop-number.left + ended
    ≡ turn_steps p r (turn_around p a i (turn_view d) g) nexts ended + c.eval_turn.new.left = taken nexts ended in
    MatchResult-weaker c.eval_result.result c.eval_result.ensures.out (λ _ _. tt)
    (λ e out spent. let short = out spent in omega (arith, first, so_far, went, short))

pub eval_turns-returns-clause-found : goal.eval_turns-returns-clause-found
eval_turns-returns-clause-found t c =
    let r = c.args.around.now.request.now in
    let a = around_view c.args.around.now in
    let p = loop_view c.args.parts.now in
    let each = c.args.each.now in
    let i = c.loop-number.number in
    let g = placed_view c.loop-number.gathered in
    let past : length each ≤ i = omega (arith, c.loop-number-test.false) in
    let none = ap (λ l. turns p r a i (map turn_view l) g) (drop_all i each past) in
    MatchResult-weaker c.eval_result-2.result c.eval_result-2.ensures.found
    (λ _ told. told ∙ sym (c.loop-number.invariant.0 ∙ none)) (λ _ _. tt)

pub eval_turns-returns-clause-taken : goal.eval_turns-returns-clause-taken
eval_turns-returns-clause-taken t c =
    let r = c.args.around.now.request.now in
    let a = around_view c.args.around.now in
    let p = loop_view c.args.parts.now in
    let each = c.args.each.now in
    let i = c.loop-number.number in
    let g = placed_view c.loop-number.gathered in
    let past : length each ≤ i = omega (arith, c.loop-number-test.false) in
    let so_far = c.loop-number.invariant.1 in
    let none = ap (λ l. turns_steps p r a i (map turn_view l) g) (drop_all i each past) in
    MatchResult-weaker c.eval_result-2.result c.eval_result-2.ensures.taken
    (λ _ taken. omega (arith, so_far, none, taken)) (λ _ _. tt)

pub eval_turns-returns-clause-out : goal.eval_turns-returns-clause-out
eval_turns-returns-clause-out t c =
    let r = c.args.around.now.request.now in
    let a = around_view c.args.around.now in
    let p = loop_view c.args.parts.now in
    let each = c.args.each.now in
    let i = c.loop-number.number in
    let g = placed_view c.loop-number.gathered in
    let past : length each ≤ i = omega (arith, c.loop-number-test.false) in
    let so_far = c.loop-number.invariant.1 in
    let none = ap (λ l. turns_steps p r a i (map turn_view l) g) (drop_all i each past) in
    MatchResult-weaker c.eval_result-2.result c.eval_result-2.ensures.out (λ _ _. tt)
    (λ e out spent. let short = out spent in omega (arith, so_far, none, short))

pub eval_result-returns-clause-taken : goal.eval_result-returns-clause-taken
eval_result-returns-clause-taken t c =
    rw (c.deref.ensures.value, c.in_ok-known.ensures) at c.eval.ensures.taken

pub eval_result-returns-clause-out : goal.eval_result-returns-clause-out
eval_result-returns-clause-out t c =
    rw (c.deref.ensures.value, c.in_ok-known.ensures) at c.eval.ensures.out

pub eval_turn-returns-in_err-eval-clause-out : goal.eval_turn-returns-in_err-eval-clause-out
eval_turn-returns-in_err-eval-clause-out t c =
    let r = c.args.around.now.request.now in
    let a = around_view c.args.around.now in
    let p = loop_view c.args.parts.now in
    exit_steps c.from_residual.result c.in_err-eval.field-0.0 c.from_residual.ensures.1 _ (λ spent next ended.
    let short = c.in_err-eval.ensures.out spent in
    omega (arith, short))

pub eval_turn-returns-in-None-clause-taken : goal.eval_turn-returns-in-None-clause-taken
eval_turn-returns-in-None-clause-taken t c =
    let r = c.args.around.now.request.now in
    let a = around_view c.args.around.now in
    let p = loop_view c.args.parts.now in
    let asked = placed r a p.loop_condition in
    let stepped = placed r a p.loop_step in
    λ next ended.
    let none : None ≡ asked = rw c.in-None.is at c.in_ok-eval.ensures.found in
    let stops : after_condition asked (steps r a p.loop_step + after stepped next) ended ≡ 0 =
    condition_is None asked none (steps r a p.loop_step + after stepped next) ended in
    omega (arith, stops, c.in_ok-eval.ensures.taken)

pub eval_turn-returns-in_err-next-in-Goes-clause-out : goal.eval_turn-returns-in_err-next-in-Goes-clause-out
eval_turn-returns-in_err-next-in-Goes-clause-out t c =
    let r = c.args.around.now.request.now in
    let a = around_view c.args.around.now in
    let p = loop_view c.args.parts.now in
    let asked = placed r a p.loop_condition in
    let stepped = placed r a p.loop_step in
    let x = answer_view c.in-Some.condition.answer in
    let place = (placed_view c.in-Some.condition).1 in
    let some : Some (x, place) ≡ asked = rw c.in-Some.is at c.in_ok-eval.ensures.found in
    let yes = way_goes x c.in-Goes.ensures in
    exit_steps c.from_residual-in_err-next-in-Goes.result c.in_err-next-in-Goes.field-0.0
    c.from_residual-in_err-next-in-Goes.ensures.1 _ (λ spent next ended.
    let going = steps r a p.loop_step + after stepped next in
    let goes : after_condition asked going ended ≡ going =
    condition_is (Some (x, place)) asked some going ended ∙ ap (λ y. after_condition (Some (y, place)) going ended) yes in
    let short = c.in_err-next-in-Goes.ensures.out spent in
    omega (arith, goes, short, c.in_ok-eval.ensures.taken))

pub eval_turn-returns-in-Some-2-clause-found : goal.eval_turn-returns-in-Some-2-clause-found
eval_turn-returns-in-Some-2-clause-found t c =
    let r = c.args.around.now.request.now in
    let a = around_view c.args.around.now in
    let p = loop_view c.args.parts.now in
    let asked = placed r a p.loop_condition in
    let stepped = placed r a p.loop_step in
    let x = answer_view c.in-Some.condition.answer in
    let place = (placed_view c.in-Some.condition).1 in
    let some : Some (x, place) ≡ asked = rw c.in-Some.is at c.in_ok-eval.ensures.found in
    let yes = way_goes x c.in-Goes.ensures in
    let next_is : Some (placed_view c.in-Some-2.next) ≡ stepped = rw c.in-Some-2.is at c.in_ok-next-in-Goes.ensures.found in
    λ next ended. turn_is (Some (x, place)) asked stepped some next ended
    ∙ (ap (λ y. placed_turn (Some (y, place)) stepped next ended) yes
    ∙ ap (λ s. placed_turn (Some (value (bool true), place)) s next ended) (sym next_is))

pub eval_turn-returns-in-Some-2-clause-taken : goal.eval_turn-returns-in-Some-2-clause-taken
eval_turn-returns-in-Some-2-clause-taken t c =
    let r = c.args.around.now.request.now in
    let a = around_view c.args.around.now in
    let p = loop_view c.args.parts.now in
    let asked = placed r a p.loop_condition in
    let stepped = placed r a p.loop_step in
    let x = answer_view c.in-Some.condition.answer in
    let place = (placed_view c.in-Some.condition).1 in
    let some : Some (x, place) ≡ asked = rw c.in-Some.is at c.in_ok-eval.ensures.found in
    let yes = way_goes x c.in-Goes.ensures in
    let next_is : Some (placed_view c.in-Some-2.next) ≡ stepped = rw c.in-Some-2.is at c.in_ok-next-in-Goes.ensures.found in
    λ next ended.
    let going = steps r a p.loop_step + after stepped next in
    let goes : after_condition asked going ended ≡ going =
    condition_is (Some (x, place)) asked some going ended ∙ ap (λ y. after_condition (Some (y, place)) going ended) yes in
    let on = after_some (placed_view c.in-Some-2.next) stepped next next_is in
    omega (arith, goes, on, c.in_ok-eval.ensures.taken, c.in_ok-next-in-Goes.ensures.taken)

pub eval_turn-returns-in-None-2-clause-found : goal.eval_turn-returns-in-None-2-clause-found
eval_turn-returns-in-None-2-clause-found t c =
    let r = c.args.around.now.request.now in
    let a = around_view c.args.around.now in
    let p = loop_view c.args.parts.now in
    let asked = placed r a p.loop_condition in
    let stepped = placed r a p.loop_step in
    let x = answer_view c.in-Some.condition.answer in
    let place = (placed_view c.in-Some.condition).1 in
    let some : Some (x, place) ≡ asked = rw c.in-Some.is at c.in_ok-eval.ensures.found in
    let yes = way_goes x c.in-Goes.ensures in
    let none : None ≡ stepped = rw c.in-None-2.is at c.in_ok-next-in-Goes.ensures.found in
    λ next ended. turn_is (Some (x, place)) asked stepped some next ended
    ∙ (ap (λ y. placed_turn (Some (y, place)) stepped next ended) yes
    ∙ ap (λ s. placed_turn (Some (value (bool true), place)) s next ended) (sym none))

pub eval_turn-returns-in-None-2-clause-taken : goal.eval_turn-returns-in-None-2-clause-taken
eval_turn-returns-in-None-2-clause-taken t c =
    let r = c.args.around.now.request.now in
    let a = around_view c.args.around.now in
    let p = loop_view c.args.parts.now in
    let asked = placed r a p.loop_condition in
    let stepped = placed r a p.loop_step in
    let x = answer_view c.in-Some.condition.answer in
    let place = (placed_view c.in-Some.condition).1 in
    let some : Some (x, place) ≡ asked = rw c.in-Some.is at c.in_ok-eval.ensures.found in
    let yes = way_goes x c.in-Goes.ensures in
    let none : None ≡ stepped = rw c.in-None-2.is at c.in_ok-next-in-Goes.ensures.found in
    λ next ended.
    let going = steps r a p.loop_step + after stepped next in
    let goes : after_condition asked going ended ≡ going =
    condition_is (Some (x, place)) asked some going ended ∙ ap (λ y. after_condition (Some (y, place)) going ended) yes in
    let ends = after_none stepped next none in
    omega (arith, goes, ends, c.in_ok-eval.ensures.taken, c.in_ok-next-in-Goes.ensures.taken)

pub eval_turn-returns-in-Ends-clause-found : goal.eval_turn-returns-in-Ends-clause-found
eval_turn-returns-in-Ends-clause-found t c =
    let r = c.args.around.now.request.now in
    let a = around_view c.args.around.now in
    let p = loop_view c.args.parts.now in
    let asked = placed r a p.loop_condition in
    let stepped = placed r a p.loop_step in
    let x = answer_view c.in-Some.condition.answer in
    let place = (placed_view c.in-Some.condition).1 in
    let some : Some (x, place) ≡ asked = rw c.in-Some.is at c.in_ok-eval.ensures.found in
    let no = way_ends x c.in-Ends.ensures in
    λ next ended. turn_is (Some (x, place)) asked stepped some next ended
    ∙ ap (λ y. placed_turn (Some (y, place)) stepped next ended) no

pub eval_turn-returns-in-Ends-clause-taken : goal.eval_turn-returns-in-Ends-clause-taken
eval_turn-returns-in-Ends-clause-taken t c =
    let r = c.args.around.now.request.now in
    let a = around_view c.args.around.now in
    let p = loop_view c.args.parts.now in
    let asked = placed r a p.loop_condition in
    let stepped = placed r a p.loop_step in
    let x = answer_view c.in-Some.condition.answer in
    let place = (placed_view c.in-Some.condition).1 in
    let some : Some (x, place) ≡ asked = rw c.in-Some.is at c.in_ok-eval.ensures.found in
    let no = way_ends x c.in-Ends.ensures in
    λ next ended.
    let going = steps r a p.loop_step + after stepped next in
    let ends : after_condition asked going ended ≡ ended =
    condition_is (Some (x, place)) asked some going ended ∙ ap (λ y. after_condition (Some (y, place)) going ended) no in
    omega (arith, ends, c.in_ok-eval.ensures.taken)

pub eval_turn-returns-in-Nothing-clause-found : goal.eval_turn-returns-in-Nothing-clause-found
eval_turn-returns-in-Nothing-clause-found t c =
    let r = c.args.around.now.request.now in
    let a = around_view c.args.around.now in
    let p = loop_view c.args.parts.now in
    let asked = placed r a p.loop_condition in
    let stepped = placed r a p.loop_step in
    let x = answer_view c.in-Some.condition.answer in
    let place = (placed_view c.in-Some.condition).1 in
    let some : Some (x, place) ≡ asked = rw c.in-Some.is at c.in_ok-eval.ensures.found in
    λ next ended. turn_is (Some (x, place)) asked stepped some next ended
    ∙ turn_nothing x place c.in-Nothing.ensures stepped next ended

pub eval_turn-returns-in-Nothing-clause-taken : goal.eval_turn-returns-in-Nothing-clause-taken
eval_turn-returns-in-Nothing-clause-taken t c =
    let r = c.args.around.now.request.now in
    let a = around_view c.args.around.now in
    let p = loop_view c.args.parts.now in
    let asked = placed r a p.loop_condition in
    let stepped = placed r a p.loop_step in
    let x = answer_view c.in-Some.condition.answer in
    let place = (placed_view c.in-Some.condition).1 in
    let some : Some (x, place) ≡ asked = rw c.in-Some.is at c.in_ok-eval.ensures.found in
    λ next ended.
    let going = steps r a p.loop_step + after stepped next in
    let stops : after_condition asked going ended ≡ 0 =
    condition_is (Some (x, place)) asked some going ended ∙ way_nothing x place c.in-Nothing.ensures going ended in
    omega (arith, stops, c.in_ok-eval.ensures.taken)

pub eval_turn-returns-in-Fails-clause-found : goal.eval_turn-returns-in-Fails-clause-found
eval_turn-returns-in-Fails-clause-found t c =
    let r = c.args.around.now.request.now in
    let a = around_view c.args.around.now in
    let p = loop_view c.args.parts.now in
    let asked = placed r a p.loop_condition in
    let stepped = placed r a p.loop_step in
    let x = answer_view c.in-Some.condition.answer in
    let place = (placed_view c.in-Some.condition).1 in
    let some : Some (x, place) ≡ asked = rw c.in-Some.is at c.in_ok-eval.ensures.found in
    λ next ended. turn_is (Some (x, place)) asked stepped some next ended
    ∙ turn_fails x place c.in-Fails.ensures stepped next ended

pub eval_turn-returns-in-Fails-clause-taken : goal.eval_turn-returns-in-Fails-clause-taken
eval_turn-returns-in-Fails-clause-taken t c =
    let r = c.args.around.now.request.now in
    let a = around_view c.args.around.now in
    let p = loop_view c.args.parts.now in
    let asked = placed r a p.loop_condition in
    let stepped = placed r a p.loop_step in
    let x = answer_view c.in-Some.condition.answer in
    let place = (placed_view c.in-Some.condition).1 in
    let some : Some (x, place) ≡ asked = rw c.in-Some.is at c.in_ok-eval.ensures.found in
    λ next ended.
    let going = steps r a p.loop_step + after stepped next in
    let stops : after_condition asked going ended ≡ 0 =
    condition_is (Some (x, place)) asked some going ended ∙ way_fails x place c.in-Fails.ensures going ended in
    omega (arith, stops, c.in_ok-eval.ensures.taken)
