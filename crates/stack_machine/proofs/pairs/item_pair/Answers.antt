use Rattle.std.proofs.Common.{◌≡◌, ◌+◌, pos, get_or, zero, sym, ap, ap₂, ◌∙◌, Some, arith}
use Rattle.std.specs.Option.{option_map}
use Rattle.cel_value.specs.Values.{value}
use Rattle.cel_value.specs.View.{value_view, values_view}
use Rattle.cel_value.proofs.Views.{count_items}
use Rattle.cel_ops.specs.Arithmetic.{int_answer}
use Rattle.cel_ops.proofs.Pairs.{item_pair_at, numbered_past}
use Rattle.stack_machine.specs.private.Pairs.{pair_answers}
use Rattle.stack_machine.proofs.pairs.item_pair.Goals as goal

pub returns-then-index-items : goal.returns-then-index-items
returns-then-index-items c =
    let e : zero + c.args.index ≡ c.args.index = omega arith in
    ap Some (ap₂ (λ x y. (x, y)) c.hold_index.ensures
    (c.in_ok-item.ensures ∙ ap (λ v. value (value_view v)) c.index-items-index.is))
    ∙ ap (option_map pair_answers)
    (sym (item_pair_at zero c.args.items.now c.args.index c.index-items-index.result c.if-index-items.true
    ∙ ap (λ m. Some (int_answer (pos m), value_view (get_or c.args.items.now c.args.index c.index-items-index.result))) e))

pub returns : goal.returns
returns c =
    let count = count_items c.args.items.now in
    ap (option_map pair_answers)
    (sym (numbered_past zero (values_view c.args.items.now) c.args.index (omega (arith, count, c.if-index-items.false))))
