use Rattle.std.proofs.Common.{sym, ap, ap₂, ◌∙◌, Some, arith}
use Rattle.std.specs.Option.{option_map}
use Rattle.cel_value.specs.Values.{text, value}
use Rattle.cel_value.specs.Texts.{points_of, text_view}
use Rattle.cel_value.specs.View.{pairs_view}
use Rattle.cel_value.proofs.Views.{count_pairs}
use Rattle.cel_ops.proofs.Pairs.{text_pair_at, keyed_past}
use Rattle.stack_machine.specs.private.Pairs.{pair_answers}
use Rattle.stack_machine.proofs.Walking.{count_keys}
use Rattle.stack_machine.proofs.pairs.text_pair.Goals as goal

pub returns-then-index-pairs : goal.returns-then-index-pairs
returns-then-index-pairs c =
    ap₂ (λ m n. Some (value (text (points_of m)), value (text (points_of n))))
    c.in_ok-clone.ensures.cases c.in_ok-clone-2.ensures.cases
    ∙ ap (option_map pair_answers)
    (sym (text_pair_at c.args.pairs.now c.args.index c.index-pairs-index.result c.if-index-pairs.true
    ∙ ap (λ h. Some (value (text (text_view h.0)), text (text_view h.1))) (sym c.index-pairs-index.is)))

pub returns : goal.returns
returns c =
    let count = count_keys (pairs_view c.args.pairs.now) ∙ count_pairs c.args.pairs.now in
    ap (option_map pair_answers)
    (sym (keyed_past (pairs_view c.args.pairs.now) c.args.index (omega (arith, count, c.if-index-pairs.false))))
