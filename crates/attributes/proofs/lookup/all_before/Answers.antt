-- The last of the headers before the place is before the name, so all are.
use Rattle.std.proofs.Common.{◌-◌, ◌∙◌, sym, arith}
use Rattle.attributes.specs.private.Parts.{entry_in}
use Rattle.attributes.proofs.Gaps.{all_before_place}
use Rattle.attributes.proofs.TextOrder.{less_from_test, t_from_true}
use Rattle.attributes.proofs.lookup.all_before.Goals as goal

pub returns : goal.returns
returns c test k d under =
    let some = c.if-place-eq0.false in
    let fits = c.requires.fits in
    all_before_place (entry_in c.args.text.now) c.args.fields.now (c.args.place - 1) _
    c.args.name.now c.requires.kept.ascending (omega (arith, some, fits))
    (sym c.compare_name.ensures ∙ less_from_test _ (t_from_true _ (sym c.is_lt.ensures ∙ test)))
    k d (omega (arith, some, under))
