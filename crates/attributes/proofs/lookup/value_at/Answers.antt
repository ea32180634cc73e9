-- A header that has the name is the one that is looked for.
use Rattle.std.proofs.Common.{Some, sym, ap, ◌∙◌}
use Rattle.attributes.specs.private.Parts.{entry_in}
use Rattle.attributes.proofs.Searching.{found_at}
use Rattle.attributes.proofs.TextOrder.{same_from_test}
use Rattle.attributes.proofs.lookup.value_at.Goals as goal

pub returns-then-eq : goal.returns-then-eq
returns-then-eq c =
    let there = c.in_ok-field.ensures.lookup in
    ap Some c.text_at-then-eq.ensures
    ∙ found_at (entry_in c.args.text.now) c.args.name.now c.args.fields.now c.args.place
    c.in_ok-field.field.now c.requires.ascending there.3.0 there.1
    (sym c.text_at.ensures ∙ same_from_test _ _ (sym c.eq.ensures ∙ c.if-eq.true))
