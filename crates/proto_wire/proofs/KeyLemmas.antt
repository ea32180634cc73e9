-- Known fields and unknown ones: one or the other, never both.
use Rattle.std.proofs.Common.{◌≡◌, ◌⊎◌, ℕ, ◌+◌, ◌<◌, ◌&&◌, true, false, cond, List, [], ◌∷◌, None, Some, length, get_or, map, drop, refl, sym, ap, ◌∙◌}
use Rattle.std.specs.List.{list_all}
use Rattle.std.proofs.lemmas.Bool.{both_ways, cases_Bool}
use Rattle.std.proofs.lemmas.List.{at_drop_more}
use Rattle.proto_wire.specs.Fields.{Wire, field_view}
use Rattle.proto_wire.specs.Keys.{first_unknown, is_known, AllKnown, SomeUnknown}
use Rattle.proto_wire.specs.declared.field.Field.{Field}
use Rattle.proto_wire.specs.declared.key.Key.{Key}

-- all fields have a key, or some field has none
pub known_total : (keys : List Key) (fs : List Wire) → AllKnown keys fs ⊎ SomeUnknown keys fs
known_total keys fs = cases_Bool (list_all (is_known keys) fs)

-- never both
pub known_disjoint : (keys : List Key) (fs : List Wire) → AllKnown keys fs → SomeUnknown keys fs
    → ⊥
known_disjoint keys fs known unknown = both_ways (list_all (is_known keys) fs) unknown known

-- all fields have a key if none is the first that has none
pub known_from_none : (keys : List Key) (fs : List Wire) → first_unknown keys fs ≡ None
    → AllKnown keys fs
known_from_none keys [] none = refl
known_from_none keys (f ∷ fs) none =
    elim (is_known keys f) as (λ b. cond b (first_unknown keys fs) (Some f.number) ≡ None
    → (b && list_all (is_known keys) fs) ≡ true) [
      | true ↦ λ none. known_from_none keys fs none
      | false ↦ λ none. absurd cc
    ] none

-- some field has none if one is the first
pub unknown_from_some : (keys : List Key) (fs : List Wire) (n : ℕ) → first_unknown keys fs ≡ Some n
    → SomeUnknown keys fs
unknown_from_some keys [] n some = absurd cc
unknown_from_some keys (f ∷ fs) n some =
    elim (is_known keys f) as (λ b. cond b (first_unknown keys fs) (Some f.number) ≡ Some n
    → (b && list_all (is_known keys) fs) ≡ false) [
      | true ↦ λ some. unknown_from_some keys fs n some
      | false ↦ λ some. refl
    ] some

module _ (keys : List Key) (fields : List Field) (i : ℕ) (d : Field) (within : i < length fields) where
  -- one field further, where this one has a key
  pub known_next : is_known keys (field_view (get_or fields i d)) ≡ true
      → first_unknown keys (map field_view (drop (i + 1) fields))
      ≡ first_unknown keys (map field_view (drop i fields))
  known_next known =
      let rest = first_unknown keys (map field_view (drop (i + 1) fields)) in
      let more = at_drop_more (λ (xs : List Field). first_unknown keys (map field_view xs)) fields i d within in
      sym (more ∙ ap (λ b. cond b rest (Some (get_or fields i d).number)) known)

  -- this field is the first, where it has none
  pub unknown_here : is_known keys (field_view (get_or fields i d)) ≡ false
      → first_unknown keys (map field_view (drop i fields)) ≡ Some (get_or fields i d).number
  unknown_here unknown =
      let rest = first_unknown keys (map field_view (drop (i + 1) fields)) in
      let more = at_drop_more (λ (xs : List Field). first_unknown keys (map field_view xs)) fields i d within in
      more ∙ ap (λ b. cond b rest (Some (get_or fields i d).number)) unknown
