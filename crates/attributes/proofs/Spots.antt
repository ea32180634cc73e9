-- Parts of the values of headers.
use Rattle.std.proofs.Common.{◌≡◌, ℕ, ◌+◌, ◌-◌, ◌<◌, ◌≤◌, ◌↔◌, All, List, [], ◌++◌, Some, length, drop, get_or, refl, sym, ap, ◌∙◌, arith, length-append}
use Rattle.std.proofs.lemmas.List.{drop_at, get_or-map, length-drop, length-map, length-take-le, take_rest}
use Rattle.std.proofs.lemmas.Option.{get_or_from_slice_get}
use Rattle.std.specs.List.{slice_get, slice_range}
use Rattle.std.specs.Str.{IsUtf8}
use Rattle.std.specs.FinMap.{find}
use Rattle.attributes.specs.Headers.{Entry, name_cmp}
use Rattle.attributes.specs.declared.headers.Field.{Field}
use Rattle.attributes.specs.declared.part.Part.{Part}
use Rattle.attributes.specs.declared.part.Spot.{Spot}
use Rattle.attributes.specs.private.Parts.{AreFields, AreKept, IsAt, IsField, IsPart, IsSpot, IsSpotOf, entries_in, entry_in, part_of, spot_of, value_in}
use Rattle.attributes.proofs.HeaderMaps.{all_views}
use Rattle.attributes.proofs.Parts.{slice_slice}

-- a header as it is kept is one of the text
pub field_at : (t : List ℕ) (fs : List Field) (i : ℕ) (f : Field) → AreFields t fs → i < length fs
    → f ≡ get_or fs i f → IsField t f
field_at t fs i f all below there = rw there (all i f below)

-- the bytes of a slice
pub length_slice : (t : List ℕ) (a b : ℕ) → a ≤ b → b ≤ length t
    → length (slice_range t a b) ≡ b - a
length_slice t a b ordered within =
    let rest = length-drop a t in
    length-take-le (b - a) (drop a t) (omega (arith, rest, ordered, within))

pub length_part : (t : List ℕ) (p : Part) → IsPart t p → length (part_of t p) ≡ p.to - p.from
length_part t p h = length_slice t p.from p.to h.ordered h.within

-- the lengths of parts are those of names and values
pub short_entries : (t : List ℕ) (fs : List Field) (n v : ℕ) → AreFields t fs
    → All (λ (f : Field). (f.name.to - f.name.from ≤ n) × (f.value.to - f.value.from ≤ v)) fs
    ↔ All (λ (e : Entry). (length e.0 ≤ n) × (length e.1 ≤ v)) (entries_in t fs)
short_entries t fs n v held =
    let same = all_views (entry_in t)
    (λ (e : Entry). (length e.0 ≤ n) × (length e.1 ≤ v)) fs in (
      λ h. same.1 (λ k d below.
          let one = h k d below in
          let field = held k d below in
          let name = length_part t (get_or fs k d).name field.name in
          let value = length_part t (get_or fs k d).value field.value in
          (rw name one.0, rw value one.1)),
      λ h k d below.
          let one = same.0 h k d below in
          let field = held k d below in
          let name = length_part t (get_or fs k d).name field.name in
          let value = length_part t (get_or fs k d).value field.value in
          (rw name at one.0, rw value at one.1),
    )

module _ (t : List ℕ) (fs : List Field) (i : ℕ) (f : Field) (below : i < length fs)
    (there : f ≡ get_or fs i f) where
  -- the value of a header as it is kept
  pub value_is : value_in (entries_in t fs) i ≡ part_of t f.value
  value_is =
      ap (λ (e : Entry). e.1)
      (get_or-map (entry_in t) fs i f ([], []) below ∙ ap (entry_in t) (sym there))

  -- a part of it is a part of the text
  pub spot_part : IsField t f → (s : Spot) → s.index ≡ i → IsSpot (entries_in t fs) s
      → IsAt t (record { from = f.value.from + s.from; to = f.value.from + s.to })
      (spot_of (entries_in t fs) s)
  spot_part held s here spot =
      let value : value_in (entries_in t fs) s.index ≡ part_of t f.value =
      ap (value_in (entries_in t fs)) here ∙ value_is in
      let long : length (value_in (entries_in t fs) s.index) ≡ f.value.to - f.value.from =
      ap length value ∙ length_part t f.value held.value in
      let outer = held.value.ordered in
      let fits = held.value.within in
      let inner = spot.ordered in
      let within = spot.within in
      let end : f.value.from + s.to ≤ f.value.to = omega (arith, long, outer, within) in
      let same : slice_range t (f.value.from + s.from) (f.value.from + s.to)
      ≡ spot_of (entries_in t fs) s =
      sym (ap (λ v. slice_range v s.from s.to) value
      ∙ slice_slice t f.value.from f.value.to s.from s.to outer inner end) in
      record {
        part = record {
          ordered = omega (arith, inner);
          within = omega (arith, end, fits);
          utf8 = rw same spot.utf8;
        };
        same = same;
      }

  -- the last bytes of it, so many of them
  pub spot_at_end : IsField t f → (front end : List ℕ) (n : ℕ) → n ≡ length end → IsUtf8 end
      → part_of t f.value ≡ front ++ end
      → IsSpotOf (entries_in t fs) (record {
        index = i;
        from = (f.value.to - f.value.from) - n;
        to = f.value.to - f.value.from;
      }) end
  spot_at_end held front end n count text whole =
      let value : value_in (entries_in t fs) i ≡ front ++ end = value_is ∙ whole in
      let long : length (front ++ end) ≡ f.value.to - f.value.from =
      ap length (sym whole) ∙ length_part t f.value held.value in
      let both = length-append front end in
      let starts : (f.value.to - f.value.from) - n ≡ length front =
      omega (arith, long, both, count) in
      let entries = length-map fs (entry_in t) in
      let same : slice_range (value_in (entries_in t fs) i) ((f.value.to - f.value.from) - n)
      (f.value.to - f.value.from) ≡ end =
      rw (value, starts, ← long)
      (take_rest (front ++ end) (length front) ∙ drop_at front end (length front) refl) in
      record {
        spot = record {
          below = omega (arith, entries, below);
          ordered = omega arith;
          within = rw value (omega (arith, long));
          utf8 = rw same text;
        };
        same = same;
      }

-- what an index of a header's name and value has
pub value_from_place : (es : List Entry) (i : ℕ) (name value : List ℕ)
    → slice_get es i ≡ Some (name, value) → value_in es i ≡ value
value_from_place es i name value there =
    ap (λ (e : Entry). e.1) (get_or_from_slice_get es i (name, value) ([], []) there)

-- the last bytes of the value of a name, so many of them
pub end_spot : (t : List ℕ) (fs : List Field) (i n : ℕ) (f : Field) (name value front end : List ℕ)
    → AreKept t fs → i < length fs → f ≡ get_or fs i f
    → slice_get (entries_in t fs) i ≡ Some (name, value)
    → find name_cmp name (entries_in t fs) ≡ Some value
    → find name_cmp name (entries_in t fs) ≡ Some (front ++ end) → n ≡ length end → IsUtf8 end
    → IsSpotOf (entries_in t fs) (record {
      index = i;
      from = (f.value.to - f.value.from) - n;
      to = f.value.to - f.value.from;
    }) end
end_spot t fs i n f name value front end kept below there at found split count text =
    let whole : Some value ≡ Some (front ++ end) = sym found ∙ split in
    let same : value ≡ front ++ end = cc (whole) in
    spot_at_end t fs i f below there (field_at t fs i f kept.parts below there) front end n count
    text (sym (value_is t fs i f below there)
    ∙ value_from_place (entries_in t fs) i name value at ∙ same)

-- a part of a spot is a spot
pub spot_inside : (es : List Entry) (s : Spot) (whole piece : List ℕ) (a c d : ℕ)
    → IsSpotOf es s whole → a ≡ s.from + c → c ≤ d → d ≤ length whole
    → slice_range whole c d ≡ piece → IsUtf8 piece
    → IsSpotOf es (record { index = s.index; from = a; to = s.from + d }) piece
spot_inside es s whole piece a c d h starts inner fits cut text =
    let value : List ℕ = value_in es s.index in
    let outer = h.spot.ordered in
    let within = h.spot.within in
    let long : length whole ≡ s.to - s.from =
    ap length (sym h.same) ∙ length_slice value s.from s.to outer within in
    let end : s.from + d ≤ s.to = omega (arith, long, fits, outer) in
    let same : slice_range value a (s.from + d) ≡ piece =
    ap (λ n. slice_range value n (s.from + d)) starts
    ∙ sym (slice_slice value s.from s.to c d outer inner end)
    ∙ ap (λ bytes. slice_range bytes c d) h.same ∙ cut in
    record {
      spot = record {
        below = h.spot.below;
        ordered = omega (arith, starts, inner);
        within = omega (arith, end, within);
        utf8 = rw same text;
      };
      same = same;
    }
