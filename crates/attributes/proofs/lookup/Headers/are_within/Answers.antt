-- The lengths of the parts are those of the names and the values.
use Rattle.attributes.proofs.Spots.{short_entries}
use Rattle.attributes.proofs.lookup.Headers.are_within.Goals as goal

pub returns : goal.returns
returns c =
    let same = short_entries c.self.inside.text.items c.self.inside.fields.items c.args.name
    c.args.value c.self.invariant.parts in
    let test = rw c.as_slice.ensures.value at c.are_short.ensures in
    rw (← c.self.view_is) (λ yes. same.0 (test.0 yes), λ all. test.1 (same.1 all))
