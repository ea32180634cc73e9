use Rattle.std.proofs.Common.{◌≡◌, ◌-◌, rules, refl, arith, length}
use Rattle.std.proofs.lemmas.Result.{MatchResult-weaker}
use Rattle.cel_value.specs.Texts.{text_view}
use Rattle.cel_value.specs.Types.{type_view}
use Rattle.cel_types.specs.Elaborated.{no_typed, typed, typed_field, typed_has, typed_list, typed_map}
use Rattle.cel_types.specs.View.{expr_view, loop_of}
use Rattle.cel_types.specs.private.ExprViews.{exprs_view, parts_view}
use Rattle.cel_types.specs.declared.typed.TypedExpr as exprs
use Rattle.cel_compile.specs.private.Lengths.{Measures, MeasuresAll}
use Rattle.cel_compile.proofs.Measured.{all_measured, choice_measured, counts_as, junction_measured, loop_measured, measures_on, none_measured, one_more, own, plain_measured}
use Rattle.cel_compile.proofs.Operands.{three_operands, two_operands}
use Rattle.cel_compile.proofs.lengths.+measure.Goals as goal

pub measure-returns-in_ok-measure-in-Field : goal.measure-returns-in_ok-measure-in-Field
measure-returns-in_ok-measure-in-Field t c =
    let seen : expr_view c.args.expr.now ≡ typed_field (type_view c.in-Field.cel_type) (expr_view c.in-Field.map.value) (text_view c.in-Field.name.now) = rw (c.in-Field.is) (search (rules, exprs.the_lemmas)) in
    let inner : Measures c.args.lengths.now.items c.measure.new.lengths.items c.in_ok-measure-in-Field.field-0 (expr_view c.in-Field.map.value) = rw (← c.deref.ensures) (c.in_ok-measure-in-Field.ensures.long) in
    record { long = rw seen (one_more c.sum.result inner c.sum.ensures) }

pub measure-returns-in_ok-measure-in-HasField : goal.measure-returns-in_ok-measure-in-HasField
measure-returns-in_ok-measure-in-HasField t c =
    let seen : expr_view c.args.expr.now ≡ typed_has (type_view c.in-HasField.cel_type) (expr_view c.in-HasField.map.value) (text_view c.in-HasField.name.now) = rw (c.in-HasField.is) (search (rules, exprs.the_lemmas)) in
    let inner : Measures c.args.lengths.now.items c.measure-in-HasField.new.lengths.items c.in_ok-measure-in-HasField.field-0 (expr_view c.in-HasField.map.value) = rw (← c.deref-in-HasField.ensures) (c.in_ok-measure-in-HasField.ensures.long) in
    record { long = rw seen (one_more c.sum-in-HasField.result inner c.sum-in-HasField.ensures) }

pub measure-returns-in_ok-measure_all-in-List : goal.measure-returns-in_ok-measure_all-in-List
measure-returns-in_ok-measure_all-in-List t c =
    let seen : expr_view c.args.expr.now ≡ typed_list (type_view c.in-List.cel_type) (exprs_view c.in-List.elements.items) = rw (c.in-List.is) (search (rules, exprs.the_lemmas)) in
    let inner : MeasuresAll c.args.lengths.now.items c.measure_all.new.lengths.items c.in_ok-measure_all-in-List.field-0 (exprs_view c.in-List.elements.items) = rw (← c.deref-in-List.ensures.value) (c.in_ok-measure_all-in-List.ensures.long) in
    record { long = rw seen (one_more c.sum-in-List.result inner c.sum-in-List.ensures) }

pub measure-returns-in_ok-measure_all-in-Map : goal.measure-returns-in_ok-measure_all-in-Map
measure-returns-in_ok-measure_all-in-Map t c =
    let seen : expr_view c.args.expr.now ≡ typed_map (type_view c.in-Map.cel_type) (exprs_view c.in-Map.pairs.items) = rw (c.in-Map.is) (search (rules, exprs.the_lemmas)) in
    let inner : MeasuresAll c.args.lengths.now.items c.measure_all-in-Map.new.lengths.items c.in_ok-measure_all-in-Map.field-0 (exprs_view c.in-Map.pairs.items) = rw (← c.deref-in-Map.ensures.value) (c.in_ok-measure_all-in-Map.ensures.long) in
    record { long = rw seen (one_more c.sum-in-Map.result inner c.sum-in-Map.ensures) }

pub measure-returns-in-Loop : goal.measure-returns-in-Loop
measure-returns-in-Loop t c =
    let seen : expr_view c.args.expr.now ≡ loop_of (type_view c.in-Loop.cel_type) (parts_view c.in-Loop.parts.value) = rw (c.in-Loop.is) (search (rules, exprs.the_lemmas)) in
    record {
      long = MatchResult-weaker c.measure_loop.result c.measure_loop.ensures.long (λ n long.
          let inner : Measures c.args.lengths.now.items c.measure_loop.new.lengths.items n (loop_of (type_view c.in-Loop.cel_type) (parts_view c.in-Loop.parts.value)) =
          rw (← c.deref-in-Loop.ensures) (long (type_view c.in-Loop.cel_type)) in
          rw seen inner) (λ e h. h);
    }

pub measure_all-loop-measured-init : goal.measure_all-loop-measured-init
measure_all-loop-measured-init t c = none_measured c.args.exprs.now c.args.lengths.now.items

pub measure_all-loop-measured-preserved : goal.measure_all-loop-measured-preserved
measure_all-loop-measured-preserved t c =
    measures_on c.args.exprs.now c.loop-measured.measured (length c.args.exprs.now - c.loop-measured.measured - 1) c.index-exprs-exprs.result c.args.lengths.now.items
    c.loop-measured.lengths.items c.measure.new.lengths.items c.loop-measured.count c.in_ok-own.own c.sum-count.result c.loop-measured-test.true refl
    c.loop-measured.invariant (rw (← c.index-exprs-exprs.is) (c.in_ok-own.ensures.long)) c.sum-count.ensures

pub measure_all-returns : goal.measure_all-returns
measure_all-returns t c = record {
  long = all_measured c.args.exprs.now c.loop-measured.measured c.loop-measured.count c.args.lengths.now.items c.loop-measured.lengths.items
      (omega (arith, c.loop-measured-test.false)) c.loop-measured.invariant;
}

pub measure_call-returns : goal.measure_call-returns
measure_call-returns t c = record {
  long = λ kind. plain_measured c.is_junction.result c.is_choice.result kind c.args.overload c.args.operands.now c.args.lengths.now.items c.measure_all.new.lengths.items _ c.sum.result
      c.is_junction.ensures c.if-is_junction.false c.is_choice.ensures c.if-is_choice.false c.in_ok-measure_all.ensures.long
      (c.sum.ensures _ 1 c.in_ok-measure_all.ensures.long.counts (own 1));
}

pub measure_choice-returns : goal.measure_choice-returns
measure_choice-returns t c =
    let ops : exprs_view c.args.operands.now ≡ typed (expr_view c.index-operands-0.result) (typed (expr_view c.index-operands-1.result) (typed (expr_view c.index-operands-2.result) no_typed)) =
    three_operands c.args.operands.now c.index-operands-0.result c.index-operands-1.result c.index-operands-2.result _ _ _ (omega (arith, c.requires)) (omega (arith, c.requires)) c.index-operands-0.is c.index-operands-1.is c.index-operands-2.is in
    let some = c.sum-whole.ensures _ 2 (c.sum-2.ensures _ _ (c.sum.ensures _ _ c.in_ok-tested.ensures.long.counts c.in_ok-chosen.ensures.long.counts) c.in_ok-last.ensures.long.counts) (own 2) in
    record {
      long = λ kind. rw ops (choice_measured (expr_view c.index-operands-0.result) (expr_view c.index-operands-1.result) (expr_view c.index-operands-2.result) c.args.lengths.now.items c.measure.new.lengths.items c.measure-2.new.lengths.items c.measure-3.new.lengths.items c.push.new.self.items
          c.in_ok-tested.tested c.in_ok-chosen.chosen c.in_ok-last.last c.sum-whole.result kind c.in_ok-last.ensures.long c.in_ok-chosen.ensures.long c.in_ok-tested.ensures.long
          (counts_as c.sum-whole.result _ _ some (omega arith)) c.in_ok-push.ensures.items);
    }

pub measure_junction-returns : goal.measure_junction-returns
measure_junction-returns t c =
    let ops : exprs_view c.args.operands.now ≡ typed (expr_view c.index-operands-0.result) (typed (expr_view c.index-operands-1.result) no_typed) =
    two_operands c.args.operands.now c.index-operands-0.result c.index-operands-1.result _ _ (omega (arith, c.requires.two)) (omega (arith, c.requires.two)) c.index-operands-0.is c.index-operands-1.is in
    let some = c.sum-whole.ensures _ 2 (c.sum.ensures _ _ c.in_ok-first.ensures.long.counts c.in_ok-last.ensures.long.counts) (own 2) in
    record {
      long = λ kind. rw ops (junction_measured (expr_view c.index-operands-0.result) (expr_view c.index-operands-1.result) c.args.lengths.now.items c.measure.new.lengths.items c.measure-2.new.lengths.items c.push.new.self.items
          c.in_ok-first.first c.in_ok-last.last c.sum-whole.result kind c.args.overload c.requires.junction c.in_ok-last.ensures.long c.in_ok-first.ensures.long
          (counts_as c.sum-whole.result _ _ some (omega arith)) c.in_ok-push.ensures.items);
    }

pub measure_loop-returns : goal.measure_loop-returns
measure_loop-returns t c =
    let turn = c.sum-turn.ensures _ 4 (c.sum.ensures _ _ c.in_ok-condition.ensures.long.counts c.in_ok-step.ensures.long.counts) (own 4) in
    let some = c.sum-whole.ensures _ 2 (c.sum-4.ensures _ _ (c.sum-2.ensures _ _ c.in_ok-range.ensures.long.counts c.in_ok-init.ensures.long.counts) (c.sum-3.ensures _ _ turn c.in_ok-last.ensures.long.counts)) (own 2) in
    record {
      long = λ kind. loop_measured kind c.args.parts.now.variables (expr_view c.args.parts.now.range) (expr_view c.args.parts.now.init) (expr_view c.args.parts.now.condition) (expr_view c.args.parts.now.step) (expr_view c.args.parts.now.result)
          c.args.lengths.now.items c.measure.new.lengths.items c.measure-2.new.lengths.items c.measure-3.new.lengths.items c.measure-4.new.lengths.items c.measure-5.new.lengths.items c.push.new.self.items
          c.in_ok-last.last c.in_ok-step.step c.in_ok-condition.condition c.in_ok-init.init c.in_ok-range.range c.sum-whole.result
          c.in_ok-last.ensures.long c.in_ok-step.ensures.long c.in_ok-condition.ensures.long c.in_ok-init.ensures.long c.in_ok-range.ensures.long
          (counts_as c.sum-whole.result _ _ some (omega arith)) c.in_ok-push.ensures.items;
    }
