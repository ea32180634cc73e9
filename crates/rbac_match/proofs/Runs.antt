-- The longest end of some fields that all have one number, one field after the other, and that it is the
-- run of the last member where all fields are members of one oneof.
use Rattle.std.proofs.Common.{arith, ◌≡◌, ◌==◌, ◌≤◌, ◌<◌, ◌+◌, ◌-◌, ◌⊎◌, inl, inr, ℕ, Bool, true, false, List, [], ◌∷◌, ◌++◌, Option, Some, None, map, take, drop, get_or, length, length-append, option_map, slice_get, refl, sym, ap, subst, ◌∙◌}
use Rattle.std.specs.List.{filter, list_all}
use Rattle.std.proofs.lemmas.Bool.{and_parts}
use Rattle.std.proofs.lemmas.List.{drop_more, drop-append-le, drop-map, get_or-take, length-map, length-drop, length-take, map_more, take_all}
use Rattle.std.proofs.Math.ListN.{get_or-map}
use Rattle.std.proofs.Math.Seq.{drop-append_seam}
use Rattle.proto_wire.specs.Fields.{Wire, field_view}
use Rattle.proto_wire.specs.Keys.{AllKnown, is_known}
use Rattle.proto_wire.specs.Oneof.{last_number, member_run, trailing_run}
use Rattle.proto_wire.specs.Values.{last_of}
use Rattle.proto_wire.specs.declared.field.Field.{Field}
use Rattle.proto_wire.specs.declared.key.Key.{Key}
use Rattle.proto_wire.specs.private.Run.{run_with}
use Rattle.proto_wire.proofs.OneofLemmas.{run_more}

-- ---- where all fields are members

-- a test that all elements pass leaves out none
all_kept : (p : Wire → Bool) (fs : List Wire) → list_all p fs ≡ true → filter p fs ≡ fs
all_kept p [] all = refl
all_kept p (f ∷ fs) all =
    let both = and_parts (p f) (list_all p fs) all in
    rw both.0 (ap (λ gs. f ∷ gs) (all_kept p fs both.1))

-- the last member's run is their longest end of one number
pub run_of_members : (keys : List Key) (fs : List Wire) → AllKnown keys fs → member_run keys fs ≡ trailing_run fs
run_of_members keys fs known = ap trailing_run (all_kept (is_known keys) fs known)

-- the last of fields
last_at : (f : Field) (fields : List Field)
    → last_of (map field_view (f ∷ fields)) ≡ option_map field_view (slice_get (f ∷ fields) (length fields))
last_at f [] = refl
last_at f (g ∷ fields) = last_at g fields

last_field : (fields : List Field)
    → last_of (map field_view fields) ≡ option_map field_view (slice_get fields (length fields - 1))
last_field [] = refl
last_field (f ∷ fields) =
    let less : length (f ∷ fields) - 1 ≡ length fields = omega arith in rw less (last_at f fields)

-- the last member is the last field
pub number_of_last : (keys : List Key) (fields : List Field) → AllKnown keys (map field_view fields)
    → (found : Option Field) → found ≡ slice_get fields (length fields - 1)
    → last_number keys (map field_view fields) ≡ option_map (λ f. f.number) found
number_of_last keys fields known found is =
    ap (λ gs. option_map (λ f. f.number) (last_of gs)) (all_kept (is_known keys) (map field_view fields) known)
    ∙ ap (option_map (λ f. f.number)) (last_field fields ∙ ap (option_map field_view) (sym is)) ∙ by found
  where
    by : (o : Option Field) → option_map (λ f. f.number) (option_map field_view o) ≡ option_map (λ f. f.number) o
    by None = refl
    by (Some f) = refl

-- ---- one field after the other

-- the longest end of one number begins at this place, which is that of a field if there is one
pub record BeginsAt (start : ℕ) (fs : List Wire) : Type 0 where
  pub within : (start < length fs) ⊎ ((start ≡ 0) × (fs ≡ []))
  pub is : trailing_run fs ≡ drop start fs

module _ (fs : List Wire) (f d : Wire) (start : ℕ) (begins : BeginsAt start fs) where
  -- a field of the same number is in it
  pub goes_on : start < length fs → ((get_or fs start d).number == f.number) ≡ true → BeginsAt start (fs ++ f ∷ [])
  goes_on within same =
      let whole : drop start fs ≡ get_or fs start d ∷ drop (start + 1) fs = drop_more fs start d within in
      let le : start ≤ length fs = omega arith in
      let longer : drop start (fs ++ f ∷ []) ≡ drop start fs ++ f ∷ [] = drop-append-le start fs (f ∷ []) le in
      let run : trailing_run (fs ++ f ∷ []) ≡ run_with (get_or fs start d ∷ drop (start + 1) fs) f =
      run_more fs f ∙ ap (λ gs. run_with gs f) (begins.is ∙ whole) in
      let more : run_with (get_or fs start d ∷ drop (start + 1) fs) f ≡ (get_or fs start d ∷ drop (start + 1) fs) ++ f ∷ [] = rw same refl in
      record {
        within = inl (omega (arith, length-append fs (f ∷ [])));
        is = run ∙ more ∙ ap (λ gs. gs ++ f ∷ []) (sym whole) ∙ sym longer;
      }

  -- one of another begins it
  pub begins_anew : start < length fs → ((get_or fs start d).number == f.number) ≡ false
      → BeginsAt (length fs) (fs ++ f ∷ [])
  begins_anew within other =
      let whole : drop start fs ≡ get_or fs start d ∷ drop (start + 1) fs = drop_more fs start d within in
      let run : trailing_run (fs ++ f ∷ []) ≡ run_with (get_or fs start d ∷ drop (start + 1) fs) f =
      run_more fs f ∙ ap (λ gs. run_with gs f) (begins.is ∙ whole) in
      let more : run_with (get_or fs start d ∷ drop (start + 1) fs) f ≡ f ∷ [] = rw other refl in
      record {
        within = inl (omega (arith, length-append fs (f ∷ [])));
        is = run ∙ more ∙ sym (drop-append_seam fs (f ∷ []));
      }

-- ---- the same of the code's fields

module _ (fields : List Field) (i start : ℕ) (d : Field) (within : i < length fields)
    (begins : BeginsAt start (map field_view (take i fields))) where
  abbrev before : List Wire
  before = map field_view (take i fields)

  counted : length before ≡ i
  counted =
      let short = length-take i fields in
      let same = length-map (take i fields) field_view in omega (arith, short, same)

  number_at : start < length before → (get_or before start (field_view d)).number ≡ (get_or fields start d).number
  number_at there =
      let below : start < i = let same = counted in omega (arith, same, there) in
      ap (λ g. g.number) (get_or-map field_view (take i fields) start d)
      ∙ ap (λ g. g.number) (get_or-take i fields start d below)

  pub same_number : ((get_or fields start d).number == (get_or fields i d).number) ≡ true
      → BeginsAt start (map field_view (take (i + 1) fields))
  same_number same = rw (map_more field_view fields i d within) (elim begins.within [
    | inl there ↦ goes_on before (field_view (get_or fields i d)) (field_view d) start begins there
        (ap (λ n. n == (get_or fields i d).number) (number_at there) ∙ same)
    | inr (front, none) ↦ rw (none, front) (record { within = inl (omega arith); is = refl })
  ])

  pub another_number : ((get_or fields start d).number == (get_or fields i d).number) ≡ false
      → BeginsAt i (map field_view (take (i + 1) fields))
  another_number other = rw (map_more field_view fields i d within) (elim begins.within [
    | inl there ↦ subst (λ n. BeginsAt n (before ++ field_view (get_or fields i d) ∷ [])) counted
        (begins_anew before (field_view (get_or fields i d)) (field_view d) start begins there
        (ap (λ n. n == (get_or fields i d).number) (number_at there) ∙ other))
    | inr (front, none) ↦
        let first : i ≡ 0 = let same = counted in let empty = ap length none in omega (arith, same, empty) in
        rw (none, first) (record { within = inl (omega arith); is = refl })
  ])

-- from its place on it is all
pub from_place : (fields : List Field) (start : ℕ) → BeginsAt start (map field_view fields)
    → map field_view (take (length fields - start) (drop start fields)) ≡ trailing_run (map field_view fields)
from_place fields start begins =
    let all : take (length fields - start) (drop start fields) ≡ drop start fields =
    take_all (length fields - start) (drop start fields) (omega (arith, length-drop start fields)) in
    ap (map field_view) all ∙ sym (drop-map field_view start fields) ∙ sym begins.is
