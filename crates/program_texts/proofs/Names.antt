-- Names of a list: one at a place, and none up to a place.
use Rattle.std.proofs.Common.{ℕ, zero, suc, ◌+◌, ◌<◌, ◌⊎◌, inl, inr, List, [], ◌∷◌, ◌++◌, length, map, take, get_or, arith}
use Rattle.std.proofs.lemmas.List.{map_more}
use Rattle.proto_wire.specs.Merge.{SomeOf}

-- the element at a place is one of the elements
pub some_at : {A B : Type 0} (P : B → Type 0) (view : A → B) (xs : List A) (i : ℕ) (d : A)
    → i < length xs → P (view (get_or xs i d)) → SomeOf P (map view xs)
some_at P view [] i d within p = absurd (omega arith)
some_at P view (x ∷ xs) zero d within p = inl p
some_at P view (x ∷ xs) (suc i) d within p = inr (some_at P view xs i d (omega arith) p)

-- one of two lists
some_append : {A : Type 0} (P : A → Type 0) (xs ys : List A) → SomeOf P (xs ++ ys)
    → SomeOf P xs ⊎ SomeOf P ys
some_append P [] ys p = inr p
some_append P (x ∷ xs) ys (inl p) = inl (inl p)
some_append P (x ∷ xs) ys (inr p) = elim (some_append P xs ys p) [
  | inl here ↦ inl (inr here)
  | inr there ↦ inr there
]

-- none of the elements so far, nor the next
pub none_more : {A B : Type 0} (P : B → Type 0) (view : A → B) (xs : List A) (i : ℕ) (d : A)
    → i < length xs → (SomeOf P (map view (take i xs)) → ⊥) → (P (view (get_or xs i d)) → ⊥)
    → SomeOf P (map view (take (i + 1) xs)) → ⊥
none_more P view xs i d within none not some =
    elim (some_append P (map view (take i xs)) (view (get_or xs i d) ∷ [])
    (rw (map_more view xs i d within) at some)) [
      | inl before ↦ none before
      | inr (inl last) ↦ not last
      | inr (inr bad) ↦ absurd bad
    ]
