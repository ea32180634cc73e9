-- The first of the headers from the place on is after the name, so all are.
use Rattle.std.proofs.Common.{◌∙◌, sym, arith}
use Rattle.attributes.specs.private.Parts.{entry_in}
use Rattle.attributes.proofs.Gaps.{all_behind_place, greater_from_test}
use Rattle.attributes.proofs.TextOrder.{t_from_true}
use Rattle.attributes.proofs.lookup.all_behind.Goals as goal

pub returns : goal.returns
returns c test =
    let some = c.if-place-fields.false in
    let fits = c.requires.fits in
    all_behind_place (entry_in c.args.text.now) c.args.fields.now c.args.place _
    c.args.name.now c.requires.kept.ascending (omega (arith, some, fits))
    (sym c.compare_name.ensures ∙ greater_from_test _ (t_from_true _ (sym c.is_gt.ensures ∙ test)))
