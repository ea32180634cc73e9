-- A name between two neighbours is not there.
use Rattle.attributes.specs.private.Parts.{entry_in}
use Rattle.attributes.proofs.Gaps.{absent_between}
use Rattle.attributes.proofs.lookup.is_gap.Goals as goal

pub returns : goal.returns
returns c test =
    absent_between (entry_in c.args.text.now) c.args.fields.now c.args.place c.args.name.now
    c.if-place-fields.false (c.all_before.ensures c.if-not-all_before.false)
    (c.all_behind.ensures test)
