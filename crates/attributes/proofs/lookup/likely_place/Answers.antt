-- A header that has the name is at the place of the name.
use Rattle.std.proofs.Common.{◌∙◌, sym}
use Rattle.attributes.specs.private.Parts.{entry_in}
use Rattle.attributes.proofs.Searching.{is_place_at}
use Rattle.attributes.proofs.TextOrder.{same_from_test}
use Rattle.attributes.proofs.lookup.likely_place.Goals as goal

pub returns-clause-place : goal.returns-clause-place
returns-clause-place c =
    let there = c.in-Some.ensures.lookup in
    is_place_at (entry_in c.args.text.now) c.args.name.now c.args.fields.now c.args.likely
    c.in-Some.field.now c.requires.ascending there.3.0 there.1
    (sym c.text_at.ensures ∙ same_from_test _ _ (sym c.eq.ensures ∙ c.if-eq.true))
