use Rattle.std.proofs.Common.{sym, ap, ap₂, ◌∙◌, Some, arith}
use Rattle.std.specs.Option.{option_map}
use Rattle.cel_value.specs.Values.{value, value_of_key}
use Rattle.cel_value.specs.View.{entries_view, key_view, value_view}
use Rattle.cel_value.proofs.Views.{count_entries}
use Rattle.cel_ops.proofs.Pairs.{entry_pair_at, keyed_past}
use Rattle.stack_machine.specs.private.Pairs.{pair_answers}
use Rattle.stack_machine.proofs.Walking.{count_keys}
use Rattle.stack_machine.proofs.pairs.entry_pair.Goals as goal

pub returns-then-index-entries : goal.returns-then-index-entries
returns-then-index-entries c =
    ap Some (ap₂ (λ x y. (x, y))
    (c.of_value-key.ensures ∙ ap value (c.from.ensures ∙ ap value_of_key c.in_ok-copy.ensures))
    c.in_ok-value.ensures)
    ∙ ap (option_map pair_answers)
    (sym (entry_pair_at c.args.entries.now c.args.index c.index-entries-index.result c.if-index-entries.true
    ∙ ap (λ e. Some (value (value_of_key (key_view e.0)), value_view e.1)) (sym c.index-entries-index.is)))

pub returns : goal.returns
returns c =
    let count = count_keys (entries_view c.args.entries.now) ∙ count_entries c.args.entries.now in
    ap (option_map pair_answers)
    (sym (keyed_past (entries_view c.args.entries.now) c.args.index (omega (arith, count, c.if-index-entries.false))))
