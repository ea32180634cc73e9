-- Small facts on lists and texts: what is in a list, and UTF-8 or not.
use Rattle.std.proofs.Common.{◌≡◌, ◌≢◌, refl, ℕ, zero, suc, ◌<◌, length, get_or, Bor, ◌⊎◌, inl, inr, List, [], ◌∷◌, Contains, arith}
use Rattle.std.specs.Str.{IsUtf8, is_utf8}
use Rattle.std.proofs.lemmas.Bool.{both_ways, cases_Bool}
use Rattle.std.proofs.lemmas.List.Elements.{Contains-append_left, Contains-append_right, Contains-append_cases, Contains-push_cases, Contains-push}
use Rattle.proto_wire.specs.Merge.{parts_view}
use Rattle.std.proofs.lemmas.Str.{IsUtf8-from_is_utf8, is_utf8-from_IsUtf8}

-- a list is empty or has a first element
pub nil_or_not : {A : Type 0} (xs : List A) → (xs ≡ []) ⊎ (xs ≢ [])
nil_or_not [] = inl refl
nil_or_not (x ∷ xs) = inr (λ e. cc)

-- the first of a list is in it
pub contains_first : {A : Type 0} (x : A) (xs : List A) → Contains (x ∷ xs) x
contains_first x xs = Contains-append_left (x ∷ []) xs x (Contains-push [] x)

-- what is in the rest of a list is in it
pub contains_later : {A : Type 0} (x y : A) (xs : List A) → Contains xs y → Contains (x ∷ xs) y
contains_later x y xs h = Contains-append_right (x ∷ []) xs y h

-- what is in a list is its first, or in its rest
pub contains_cases : {A : Type 0} (x y : A) (xs : List A) → Contains (x ∷ xs) y
    → (x ≡ y) ⊎ Contains xs y
contains_cases x y xs h =
    elim (Contains-append_cases (x ∷ []) xs y h) [
      | inl first ↦ elim (Contains-push_cases [] x y first) [
        | inl none ↦ absurd (omega arith)
        | inr same ↦ inl same
      ]
      | inr later ↦ inr later
    ]

-- bytes are UTF-8 or not
pub utf8_total : (bytes : List ℕ) → IsUtf8 bytes ⊎ ¬ (IsUtf8 bytes)
utf8_total bytes =
    elim (cases_Bool (is_utf8 bytes)) [
      | inl is ↦ inl (IsUtf8-from_is_utf8 bytes is)
      | inr other ↦ inr (λ utf8. both_ways (is_utf8 bytes) other (is_utf8-from_IsUtf8 bytes utf8))
    ]

-- a slice of a list is one of those that the list stands for
pub part_in : (slices : List (Bor (List ℕ))) (i : ℕ) (d : Bor (List ℕ)) → i < length slices
    → Contains (parts_view slices) (get_or slices i d).now
part_in [] i d within = absurd (omega (arith, within))
part_in (s ∷ slices) zero d within = contains_first s.now (parts_view slices)
part_in (s ∷ slices) (suc i) d within =
    contains_later s.now (get_or slices i d).now (parts_view slices)
    (part_in slices i d (omega (arith, within)))
