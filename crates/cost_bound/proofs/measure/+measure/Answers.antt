use Rattle.std.proofs.Common.{false, true, ◌+◌, ◌-◌, ◌≡◌, ◌∙◌, ◌∷◌, ap, drop, refl, sym, arith}
use Rattle.std.proofs.lemmas.List.{drop_all, drop_more}
use Rattle.std.proofs.lemmas.Result.{IfOk-weaker}
use Rattle.cel_types.specs.Elaborated.{kinds}
use Rattle.cel_types.specs.View.{expr_view}
use Rattle.cel_types.specs.private.ExprViews.{exprs_view, parts_view}
use Rattle.cel_value.specs.Types.{type_view}
use Rattle.cel_costs.specs.Costs.{costs_of, join_all, size_of, sizes_of}
use Rattle.cost_bound.specs.private.Measuring.{next_in, scope_in, turn_in, turn_visits_in}
use Rattle.cost_bound.specs.private.ScopeView.{scope_view}
use Rattle.cost_bound.specs.private.SizeView.{size_view}
use Rattle.cost_bound.proofs.Calls.{others_of}
use Rattle.cost_bound.proofs.Capped.{paid, paid_all, short, short_all}
use Rattle.cost_bound.proofs.Choices.{three_of}
use Rattle.cost_bound.proofs.ExprViews.{view_loop}
use Rattle.cost_bound.proofs.JoinedParts.{join_flat, join_next}
use Rattle.cost_bound.proofs.Operands.{both, one_found, one_short, sole, two_found, two_short}
use Rattle.cost_bound.proofs.Places.{costs_from, place_before, visits_from}
use Rattle.cost_bound.proofs.Steps.{as_many, cost_count, exit_charge, exit_more, last_more, loop_costs, loop_seen, loop_size}
use Rattle.cost_bound.proofs.SizeViews.{view_flat}
use Rattle.cost_bound.proofs.Turns.{grown_next, grown_still, still_paid, still_short, turns_next, visits_next, visits_still}
use Rattle.cost_bound.proofs.measure.+measure.Goals as goal

pub measure_node-returns-in-Loop-clause-found : goal.measure_node-returns-in-Loop-clause-found
measure_node-returns-in-Loop-clause-found t c =
    let seen = ap expr_view c.in-Loop.is ∙ view_loop c.in-Loop.cel_type c.in-Loop.parts in
    rw seen (rw c.deref-in-Loop.ensures at c.measure_loop.ensures.found (type_view c.in-Loop.cel_type))

pub measure_node-returns-in-Loop-clause-fault : goal.measure_node-returns-in-Loop-clause-fault
measure_node-returns-in-Loop-clause-fault t c =
    let seen = ap expr_view c.in-Loop.is ∙ view_loop c.in-Loop.cel_type c.in-Loop.parts in
    rw seen (rw c.deref-in-Loop.ensures at c.measure_loop.ensures.fault (type_view c.in-Loop.cel_type))

pub measure_list-loop-item-init : goal.measure_list-loop-item-init
measure_list-loop-item-init t c = rw view_flat (refl, omega arith, omega arith)

pub measure_list-loop-item-preserved : goal.measure_list-loop-item-preserved
measure_list-loop-item-preserved t c =
    let i = c.loop-item.item-index in
    let item = c.item-item.result in
    let l = c.args.at.now.around.limits.now in
    let scope = scope_in c.args.at.now in
    let before = c.loop-item.invariant in
    let found = c.in_ok-found.ensures.found in
    let rest : drop i c.args.items.now ≡ item ∷ drop (i + 1) c.args.items.now =
    drop_more c.args.items.now i item c.loop-item-test.true ∙ ap (λ x. x ∷ drop (i + 1) c.args.items.now) (sym c.item-item.is) in
    let all = rw rest at before in (
      join_next (size_view c.loop-item.joined) (size_view c.in_ok-joined.joined) (size_of (expr_view item) l scope)
          (join_all (sizes_of (exprs_view c.args.items.now) l scope))
          (sizes_of (exprs_view (drop (i + 1) c.args.items.now)) l scope) (rw found.0 at c.in_ok-joined.ensures) all.0,
      omega (arith, all.1, found.1),
      omega (arith, all.2, found.2),
    )

pub measure_list-returns-clause-found : goal.measure_list-returns-clause-found
measure_list-returns-clause-found t c =
    let all = rw (drop_all c.loop-item.item-index c.args.items.now c.loop-item-test.false) at c.loop-item.invariant in
    let counted = cost_count c.args.items.now c.args.at.now.around.limits.now (scope_in c.args.at.now) in
    let many = as_many (exprs_view c.args.items.now) c.args.at.now.around.limits.now (scope_in c.args.at.now) in
    let left = c.in_ok-left.ensures.found in (
      c.in_ok-size.ensures _ (sym many ∙ counted) (sym (join_flat (size_view c.loop-item.joined)) ∙ all.0),
      omega (arith, all.1, counted, left.0),
      omega (arith, all.2, left.1),
    )

pub measure_list-returns-in_err-left-clause-fault : goal.measure_list-returns-in_err-left-clause-fault
measure_list-returns-in_err-left-clause-fault t c =
    let all = rw (drop_all c.loop-item.item-index c.args.items.now c.loop-item-test.false) at c.loop-item.invariant in
    let counted = cost_count c.args.items.now c.args.at.now.around.limits.now (scope_in c.args.at.now) in
    let exit = c.from_residual-in_err-left in
    exit_charge _ _ _ _ c.args.left exit.result _ exit.ensures.1 c.in_err-left.ensures.fault
    (λ more. omega (arith, more, all.1, counted))

pub measure_map-loop-place-preserved : goal.measure_map-loop-place-preserved
measure_map-loop-place-preserved t c =
    let before = c.loop-place.invariant in
    let found = c.in_ok-found.ensures.found in
    let front = place_before c.args.pairs.now c.loop-place.place c.index-pairs-place.result c.index-pairs-place.is
    c.loop-place-test.true before.0 in
    let more = c.in_ok-entries.ensures (sizes_of (exprs_view (drop c.loop-place.place c.args.pairs.now))
    c.args.at.now.around.limits.now (scope_in c.args.at.now)) before.1 in
    let entries = rw found.0 at more in
    rw front (
      omega (arith, before.0),
      entries,
      omega (arith, before.2, found.1),
      omega (arith, before.3, found.2),
    )

pub measure_map-returns-in_err-found-clause-fault : goal.measure_map-returns-in_err-found-clause-fault
measure_map-returns-in_err-found-clause-fault t c =
    let l = c.args.at.now.around.limits.now in
    let scope = scope_in c.args.at.now in
    let before = c.loop-place.invariant in
    let front = place_before c.args.pairs.now c.loop-place.place c.index-pairs-place.result c.index-pairs-place.is
    c.loop-place-test.true before.0 in
    let all = costs_from c.args.pairs.now (c.loop-place.place - 1) l scope in
    let costs = rw front at all in
    let each = visits_from c.args.pairs.now (c.loop-place.place - 1) l scope in
    let seen = rw front at each in
    let exit = c.from_residual in
    exit_more _ _ c.loop-place.rest _ _ c.args.left exit.result _ exit.ensures.1 c.in_err-found.ensures.fault
    (λ more. omega (arith, more, before.2, costs))
    (λ more. omega (arith, more, before.3, seen))

pub measure_map-returns-clause-found : goal.measure_map-returns-clause-found
measure_map-returns-clause-found t c =
    let none : c.loop-place.place ≡ 0 = omega arith in
    let all = rw none at c.loop-place.invariant in
    let counted = cost_count c.args.pairs.now c.args.at.now.around.limits.now (scope_in c.args.at.now) in
    let many = as_many (exprs_view c.args.pairs.now) c.args.at.now.around.limits.now (scope_in c.args.at.now) in
    let sizes = sizes_of (exprs_view c.args.pairs.now) c.args.at.now.around.limits.now (scope_in c.args.at.now) in
    let keys = c.key_count-keys.ensures sizes (sym many ∙ counted) in
    let left = c.in_ok-left.ensures.found in (
      c.in_ok-size.ensures sizes all.1 keys,
      paid_all _ _ _ _ _ all.2 (paid _ _ _ _ c.pay.ensures.fits (c.part.ensures sizes all.1 keys) left.0),
      omega (arith, all.3, left.1),
    )

pub measure_map-returns-in_err-left-clause-fault : goal.measure_map-returns-in_err-left-clause-fault
measure_map-returns-in_err-left-clause-fault t c =
    let none : c.loop-place.place ≡ 0 = omega arith in
    let all = rw none at c.loop-place.invariant in
    let counted = cost_count c.args.pairs.now c.args.at.now.around.limits.now (scope_in c.args.at.now) in
    let many = as_many (exprs_view c.args.pairs.now) c.args.at.now.around.limits.now (scope_in c.args.at.now) in
    let sizes = sizes_of (exprs_view c.args.pairs.now) c.args.at.now.around.limits.now (scope_in c.args.at.now) in
    let keys = c.key_count-keys.ensures sizes (sym many ∙ counted) in
    let exit = c.from_residual-in_err-left in
    exit_charge _ _ _ _ c.args.left exit.result _ exit.ensures.1 c.in_err-left.ensures.fault
    (λ more. short_all _ _ _ _ all.2 (short _ _ _ (c.part.ensures sizes all.1 keys) more))

pub measure_call-returns-in-1-clause-found : goal.measure_call-returns-in-1-clause-found
measure_call-returns-in-1-clause-found t c =
    rw (sole c.args.operands.now c.index-operands-0.result c.in-1.is c.index-operands-0.is) c.measure_single.ensures.found

pub measure_call-returns-in-1-clause-fault : goal.measure_call-returns-in-1-clause-fault
measure_call-returns-in-1-clause-fault t c =
    rw (sole c.args.operands.now c.index-operands-0.result c.in-1.is c.index-operands-0.is) c.measure_single.ensures.fault

pub measure_call-returns-in_default-2-clause-found : goal.measure_call-returns-in_default-2-clause-found
measure_call-returns-in_default-2-clause-found t c =
    let l = c.args.at.now.around.limits.now in
    let scope = scope_in c.args.at.now in
    let es = exprs_view c.args.operands.now in
    let counted = cost_count c.args.operands.now l scope in
    let call = others_of c.args.overload (kinds es) (costs_of es l scope) (sizes_of es l scope) (as_many es l scope)
    (λ one. absurd (omega (arith, one, counted))) (λ two. absurd (omega (arith, two, counted)))
    (λ is three. absurd (let g : false ≡ true = sym c.if-is_choice.false
    ∙ c.is_choice.ensures.1 (is, sym counted ∙ three) in cc)) in
    rw (call.0, call.1) c.measure_others.ensures.found

pub measure_call-returns-in_default-2-clause-fault : goal.measure_call-returns-in_default-2-clause-fault
measure_call-returns-in_default-2-clause-fault t c =
    let l = c.args.at.now.around.limits.now in
    let scope = scope_in c.args.at.now in
    let es = exprs_view c.args.operands.now in
    let counted = cost_count c.args.operands.now l scope in
    let call = others_of c.args.overload (kinds es) (costs_of es l scope) (sizes_of es l scope) (as_many es l scope)
    (λ one. absurd (omega (arith, one, counted))) (λ two. absurd (omega (arith, two, counted)))
    (λ is three. absurd (let g : false ≡ true = sym c.if-is_choice.false
    ∙ c.is_choice.ensures.1 (is, sym counted ∙ three) in cc)) in
    rw call.1 c.measure_others.ensures.fault

pub measure_single-returns-clause-found : goal.measure_single-returns-clause-found
measure_single-returns-clause-found t c =
    let found = c.in_ok-found.ensures.found in
    one_found c.args.overload c.args.at.now.around.limits.now (scope_in c.args.at.now) c.args.left c.in_ok-found.found.left
    c.call_of_one.result (expr_view c.args.only.now) (size_view c.in_ok-found.found.size) found.0 found.1 found.2
    c.call_of_one.ensures.found

pub measure_single-returns-clause-fault : goal.measure_single-returns-clause-fault
measure_single-returns-clause-fault t c =
    let found = c.in_ok-found.ensures.found in
    one_short c.args.overload c.args.at.now.around.limits.now (scope_in c.args.at.now) c.args.left c.in_ok-found.found.left
    c.call_of_one.result (expr_view c.args.only.now) (size_view c.in_ok-found.found.size) found.0 found.1 found.2
    c.call_of_one.ensures.fault

pub measure_pair-returns-clause-found : goal.measure_pair-returns-clause-found
measure_pair-returns-clause-found t c =
    let one = c.in_ok-one.ensures.found in
    let other = c.in_ok-other.ensures.found in
    rw (both c.args.operands.now c.index-operands-0.result c.index-operands-1.result c.requires.two c.index-operands-0.is
    c.index-operands-1.is) (two_found c.args.overload c.args.at.now.around.limits.now (scope_in c.args.at.now) c.args.left
    c.in_ok-other.other.left c.call_of_two.result (expr_view c.index-operands-0.result) (expr_view c.index-operands-1.result)
    (size_view c.in_ok-one.one.size) (size_view c.in_ok-other.other.size) c.in_ok-one.one.left
    one.0 one.1 one.2 other.0 other.1 other.2 (c.call_of_two.ensures.found _))

pub measure_pair-returns-clause-fault : goal.measure_pair-returns-clause-fault
measure_pair-returns-clause-fault t c =
    let one = c.in_ok-one.ensures.found in
    let other = c.in_ok-other.ensures.found in
    rw (both c.args.operands.now c.index-operands-0.result c.index-operands-1.result c.requires.two c.index-operands-0.is
    c.index-operands-1.is) (two_short c.args.overload c.args.at.now.around.limits.now (scope_in c.args.at.now) c.args.left
    c.in_ok-other.other.left c.call_of_two.result (expr_view c.index-operands-0.result) (expr_view c.index-operands-1.result)
    (size_view c.in_ok-one.one.size) (size_view c.in_ok-other.other.size) c.in_ok-one.one.left
    one.0 one.1 one.2 other.0 other.1 other.2 (c.call_of_two.ensures.fault _))

pub measure_conditional-returns-clause-found : goal.measure_conditional-returns-clause-found
measure_conditional-returns-clause-found t c =
    let three = three_of c.args.operands.now c.condition-item.result c.first-item.result c.second-item.result
    c.args.at.now.around.limits.now (scope_in c.args.at.now) c.requires.three c.condition-item.is c.first-item.is
    c.second-item.is in
    let tested = c.in_ok-tested-in-len3.ensures.found in
    let before = c.in_ok-before-in-len3.ensures.found in
    let one = c.in_ok-one-in-len3.ensures.found in
    let other = c.in_ok-other-in-len3.ensures.found in
    let left = c.in_ok-left-in-len3.ensures.found in
    let joined = rw (one.0, other.0) at c.in_ok-size-in-len3.ensures in (
      joined ∙ sym three.sizes,
      three.costs _ _ _ _ _ _ _ tested.1 before.0 one.1 other.1 c.min.ensures left.0,
      omega (arith, three.seen, tested.2, before.1, one.2, other.2, left.1),
    )

pub measure_conditional-returns-in_err-left-in-len3-clause-fault : goal.measure_conditional-returns-in_err-left-in-len3-clause-fault
measure_conditional-returns-in_err-left-in-len3-clause-fault t c =
    let three = three_of c.args.operands.now c.condition-item.result c.first-item.result c.second-item.result
    c.args.at.now.around.limits.now (scope_in c.args.at.now) c.requires.three c.condition-item.is c.first-item.is
    c.second-item.is in
    let tested = c.in_ok-tested-in-len3.ensures.found in
    let before = c.in_ok-before-in-len3.ensures.found in
    let one = c.in_ok-one-in-len3.ensures.found in
    let other = c.in_ok-other-in-len3.ensures.found in
    let exit = c.from_residual-in_err-left-in-len3 in
    exit_charge _ _ _ _ c.args.left exit.result _ exit.ensures.1 c.in_err-left-in-len3.ensures.fault
    (λ more. three.short _ _ _ _ _ _ tested.1 before.0 one.1 other.1 c.min.ensures more)

pub measure_turns-loop-others-preserved : goal.measure_turns-loop-others-preserved
measure_turns-loop-others-preserved t c =
    let next = next_in (parts_view c.args.parts.now) c.args.turns.now in
    let cost = turn_in (parts_view c.args.parts.now) c.args.turns.now in
    let look = turn_visits_in (parts_view c.args.parts.now) c.args.turns.now in
    let before = c.loop-others.invariant in
    let turn = c.in_ok-turn.ensures.found in
    let some = c.loop-others-test.true in (
      grown_next next cost _ _ _ _ some turn.0 before.0,
      turns_next next cost _ _ _ _ _ _ _ some turn.0 before.1 turn.1,
      visits_next next look _ _ _ _ _ _ _ some turn.0
          (λ is. absurd (let g : false ≡ true = sym c.if-same.false ∙ c.same.ensures.1 is in cc)) before.2 turn.2,
    )

pub measure_turns-returns-in_err-left-clause-fault : goal.measure_turns-returns-in_err-left-clause-fault
measure_turns-returns-in_err-left-clause-fault t c =
    let exit = c.from_residual-in_err-left in
    let next = next_in (parts_view c.args.parts.now) c.args.turns.now in
    let cost = turn_in (parts_view c.args.parts.now) c.args.turns.now in
    let before = c.loop-others.invariant in
    let turn = c.in_ok-turn.ensures.found in
    let some = c.loop-others-test.true in
    let still = c.same.ensures.0 c.if-same.true in
    exit_charge _ _ _ _ c.args.begun.left exit.result _ exit.ensures.1 c.in_err-left.ensures.fault
    (λ more. still_short next cost _ _ _ _ _ _ _ some turn.0 still before.1 turn.1 more)

pub measure_turns-returns-then-same-clause-found : goal.measure_turns-returns-then-same-clause-found
measure_turns-returns-then-same-clause-found t c =
    let next = next_in (parts_view c.args.parts.now) c.args.turns.now in
    let cost = turn_in (parts_view c.args.parts.now) c.args.turns.now in
    let look = turn_visits_in (parts_view c.args.parts.now) c.args.turns.now in
    let before = c.loop-others.invariant in
    let turn = c.in_ok-turn.ensures.found in
    let some = c.loop-others-test.true in
    let still = c.same.ensures.0 c.if-same.true in
    let left = c.in_ok-left.ensures.found in
    let seen = visits_still next look _ _ _ _ _ _ _ some turn.0 still before.2 turn.2 in (
      sym (grown_still next cost c.loop-others.others _ (sym turn.0 ∙ still)) ∙ before.0,
      still_paid next cost _ _ _ _ _ _ _ _ some turn.0 still before.1 turn.1 left.0,
      omega (arith, seen, left.1),
    )

pub measure_loop-returns-clause-found : goal.measure_loop-returns-clause-found
measure_loop-returns-clause-found t c = λ kind.
    rw (c.deref.ensures.value, c.in_ok-locals.ensures) at c.measure_parts.ensures.found kind

pub measure_loop-returns-clause-fault : goal.measure_loop-returns-clause-fault
measure_loop-returns-clause-fault t c = λ kind.
    rw (c.deref.ensures.value, c.in_ok-locals.ensures) at c.measure_parts.ensures.fault kind

pub measure_parts-returns-clause-found : goal.measure_parts-returns-clause-found
measure_parts-returns-clause-found t c = λ kind.
    let range = c.in_ok-range.ensures.found in
    let init = c.in_ok-init.ensures.found in
    let sized = c.in_ok-begun.ensures.found.0 ∙ init.0 in
    let accumulator = c.in_ok-accumulator.ensures.found in
    let costs = loop_costs (parts_view c.args.parts.now) kind c.args.around.limits.now (scope_view c.args.around.locals.now)
    _ _ _ _ _ range.0 c.most-count.ensures.most c.in_ok-found.ensures sized accumulator.0 in
    let seen = loop_seen (parts_view c.args.parts.now) c.args.around.limits.now (scope_view c.args.around.locals.now)
    _ _ _ _ _ range.0 c.most-count.ensures.most c.in_ok-found.ensures sized accumulator.0 in
    IfOk-weaker c.measure-3.result _ _ (λ m h. (
      h.0 ∙ loop_size (parts_view c.args.parts.now) kind c.args.around.limits.now (scope_view c.args.around.locals.now)
          _ _ _ _ _ range.0 c.most-count.ensures.most c.in_ok-found.ensures sized accumulator.0,
      omega (
        arith,
        costs,
        range.1,
        c.most.ensures.most,
        c.most-count.ensures.most,
        c.in_ok-opened.ensures.found.0,
        init.1,
        c.in_ok-begun.ensures.found.1,
        accumulator.1,
        c.in_ok-closed.ensures.found.0,
        h.1,
      ),
      omega (
        arith,
        seen,
        range.2,
        c.in_ok-opened.ensures.found.1,
        init.2,
        c.in_ok-begun.ensures.found.2,
        accumulator.2,
        c.in_ok-closed.ensures.found.1,
        h.2,
      ),
    )) c.measure-3.ensures.found

pub measure_parts-returns-in_err-accumulator-clause-fault : goal.measure_parts-returns-in_err-accumulator-clause-fault
measure_parts-returns-in_err-accumulator-clause-fault t c = λ kind.
    let exit = c.from_residual-in_err-accumulator in
    let range = c.in_ok-range.ensures.found in
    let init = c.in_ok-init.ensures.found in
    let sized = c.in_ok-begun.ensures.found.0 ∙ init.0 in
    let costs = loop_costs (parts_view c.args.parts.now) kind c.args.around.limits.now (scope_view c.args.around.locals.now)
    _ _ _ _ _ range.0 c.most-count.ensures.most c.in_ok-found.ensures sized refl in
    let seen = loop_seen (parts_view c.args.parts.now) c.args.around.limits.now (scope_view c.args.around.locals.now)
    _ _ _ _ _ range.0 c.most-count.ensures.most c.in_ok-found.ensures sized refl in
    exit_more _ _ c.in_ok-begun.begun.left _ _ c.args.left exit.result _ exit.ensures.1 c.in_err-accumulator.ensures.fault
    (λ more. omega (
      arith,
      costs,
      range.1,
      c.most.ensures.most,
      c.most-count.ensures.most,
      c.in_ok-opened.ensures.found.0,
      init.1,
      c.in_ok-begun.ensures.found.1,
      more,
    ))
    (λ more. omega (
      arith,
      seen,
      range.2,
      c.in_ok-opened.ensures.found.1,
      init.2,
      c.in_ok-begun.ensures.found.2,
      more,
    ))

pub measure_parts-returns-in_err-closed-clause-fault : goal.measure_parts-returns-in_err-closed-clause-fault
measure_parts-returns-in_err-closed-clause-fault t c = λ kind.
    let exit = c.from_residual-in_err-closed in
    let range = c.in_ok-range.ensures.found in
    let init = c.in_ok-init.ensures.found in
    let sized = c.in_ok-begun.ensures.found.0 ∙ init.0 in
    let accumulator = c.in_ok-accumulator.ensures.found in
    let costs = loop_costs (parts_view c.args.parts.now) kind c.args.around.limits.now (scope_view c.args.around.locals.now)
    _ _ _ _ _ range.0 c.most-count.ensures.most c.in_ok-found.ensures sized accumulator.0 in
    exit_charge _ _ _ _ c.args.left exit.result _ exit.ensures.1 c.in_err-closed.ensures.fault
    (λ more. omega (
      arith,
      costs,
      range.1,
      c.most.ensures.most,
      c.most-count.ensures.most,
      c.in_ok-opened.ensures.found.0,
      init.1,
      c.in_ok-begun.ensures.found.1,
      accumulator.1,
      more,
    ))

pub measure_parts-returns-clause-fault : goal.measure_parts-returns-clause-fault
measure_parts-returns-clause-fault t c = λ kind.
    let range = c.in_ok-range.ensures.found in
    let init = c.in_ok-init.ensures.found in
    let sized = c.in_ok-begun.ensures.found.0 ∙ init.0 in
    let accumulator = c.in_ok-accumulator.ensures.found in
    let costs = loop_costs (parts_view c.args.parts.now) kind c.args.around.limits.now (scope_view c.args.around.locals.now)
    _ _ _ _ _ range.0 c.most-count.ensures.most c.in_ok-found.ensures sized accumulator.0 in
    let seen = loop_seen (parts_view c.args.parts.now) c.args.around.limits.now (scope_view c.args.around.locals.now)
    _ _ _ _ _ range.0 c.most-count.ensures.most c.in_ok-found.ensures sized accumulator.0 in
    last_more _ _ c.in_ok-closed.closed _ _ c.args.left c.measure-3.result
    (λ more. omega (
      arith,
      costs,
      range.1,
      c.most.ensures.most,
      c.most-count.ensures.most,
      c.in_ok-opened.ensures.found.0,
      init.1,
      c.in_ok-begun.ensures.found.1,
      accumulator.1,
      c.in_ok-closed.ensures.found.0,
      more,
    ))
    (λ more. omega (
      arith,
      seen,
      range.2,
      c.in_ok-opened.ensures.found.1,
      init.2,
      c.in_ok-begun.ensures.found.2,
      accumulator.2,
      c.in_ok-closed.ensures.found.1,
      more,
    ))
    c.measure-3.ensures.fault
