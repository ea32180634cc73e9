-- The place of the name is that of a header whose value ends with these bytes.
use Rattle.std.proofs.Common.{◌<◌, ℕ, List, length, get_or}
use Rattle.std.proofs.lemmas.List.{get_or_default}
use Rattle.attributes.specs.declared.headers.Field.{Field}
use Rattle.attributes.proofs.Spots.{end_spot}
use Rattle.attributes.proofs.lookup.Headers.end_of.Goals as goal

pub returns : goal.returns
returns c =
    let t : List ℕ = c.self.inside.text.items in
    let fs : List Field = c.self.inside.fields.items in
    let none : Field = record {
      start = 0;
      name = record { from = 0; to = 0 };
      value = record { from = 0; to = 0 };
    } in
    let i : ℕ = c.in-Ok.index in
    let f : Field = get_or fs i none in
    let below : i < length fs = rw c.as_slice-fields.ensures.value at c.in-Ok.ensures.bound in
    let place = rw (c.as_slice.ensures.value, c.as_slice-fields.ensures.value) at
    c.in-Ok.ensures.place in
    λ front end split count text.
    rw (← c.self.view_is, c.end_at.ensures, c.as_slice-fields.ensures.value)
    (end_spot t fs i c.args.count f c.args.name.now place.0 front end c.self.invariant below
    (get_or_default fs i none f below) place.1 place.2 (rw (← c.self.view_is) at split) count text)
