use Rattle.std.proofs.Common.{sym, ap, ◌∙◌, Some}
use Rattle.cel_value.specs.Values.{value_of_key}
use Rattle.cel_value.proofs.Walking.{entry_key_at, entry_key_past}
use Rattle.cel_value.proofs.map.entry_key.Goals as goal

pub returns-then-index-entries : goal.returns-then-index-entries
returns-then-index-entries c = sym
    (entry_key_past c.args.entries.now c.args.index c.if-index-entries.true)

pub returns : goal.returns
returns c =
    ap Some (c.from.ensures ∙ ap value_of_key c.in_ok-copy.ensures)
    ∙ sym (entry_key_at c.args.entries.now c.args.index c.index-entries-index.result
    c.if-index-entries.false)
