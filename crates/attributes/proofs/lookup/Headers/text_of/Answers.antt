-- A part of a header's value is a part of the text.
use Rattle.std.proofs.Common.{◌<◌, ◌∙◌, ℕ, List, length, refl, arith}
use Rattle.std.proofs.lemmas.List.{length-map}
use Rattle.attributes.specs.declared.headers.Field.{Field}
use Rattle.attributes.specs.private.Parts.{IsSpot, entries_in, entry_in}
use Rattle.attributes.proofs.Spots.{field_at, spot_part}
use Rattle.attributes.proofs.lookup.Headers.text_of.Goals as goal

pub text_at-requires : goal.text_at-requires
text_at-requires c =
    let t : List ℕ = c.self.inside.text.items in
    let fs : List Field = c.self.inside.fields.items in
    let f : Field = c.index.result.now in
    let spot : IsSpot (entries_in t fs) c.args.spot = rw (← c.self.view_is) at c.requires in
    let long = length-map fs (entry_in t) in
    let fits = spot.below in
    let below : c.args.spot.index < length fs = omega (arith, fits, long) in
    let part = spot_part t fs c.args.spot.index f below c.index.ensures
    (field_at t fs c.args.spot.index f c.self.invariant.parts below c.index.ensures) c.args.spot refl
    spot in
    rw c.as_slice.ensures.value part.part

pub returns : goal.returns
returns c =
    let t : List ℕ = c.self.inside.text.items in
    let fs : List Field = c.self.inside.fields.items in
    let f : Field = c.index.result.now in
    let spot : IsSpot (entries_in t fs) c.args.spot = rw (← c.self.view_is) at c.requires in
    let long = length-map fs (entry_in t) in
    let fits = spot.below in
    let below : c.args.spot.index < length fs = omega (arith, fits, long) in
    let part = spot_part t fs c.args.spot.index f below c.index.ensures
    (field_at t fs c.args.spot.index f c.self.invariant.parts below c.index.ensures) c.args.spot refl
    spot in
    rw (← c.self.view_is) (rw c.as_slice.ensures.value at c.text_at.ensures ∙ part.same)
