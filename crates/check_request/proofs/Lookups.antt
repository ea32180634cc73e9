-- The value at the first key that passes, found entry by entry.
use Rattle.std.proofs.Common.{◌≡◌, ℕ, zero, suc, ◌+◌, ◌<◌, Bool, true, false, cond, Some, None, List, [], ◌∷◌, ◌++◌, length, map, take, get_or, refl, ◌∙◌, arith}
use Rattle.std.specs.Map.{lookup}
use Rattle.std.proofs.lemmas.List.{map_more}

module _ {K X : Type 0} (test : K → Bool) where
  -- behind entries of which none passes
  past : (es fs : List (K × X)) → lookup test es ≡ None → lookup test (es ++ fs) ≡ lookup test fs
  past [] fs none = refl
  past (e ∷ es) fs none = by (test e.0) refl none (past es fs)
    where
      by : (b : Bool) → test e.0 ≡ b → cond b (Some e.1) (lookup test es) ≡ None
          → (lookup test es ≡ None → lookup test (es ++ fs) ≡ lookup test fs)
          → lookup test ((e ∷ es) ++ fs) ≡ lookup test fs
      by true is found more = absurd cc
      by false is found more = rw is (more found)

  -- one entry more that does not pass
  pub lookup_more : {A : Type 0} (view : A → K × X) (xs : List A) (i : ℕ) (d : A) → i < length xs
      → lookup test (map view (take i xs)) ≡ None → test (view (get_or xs i d)).0 ≡ false
      → lookup test (map view (take (i + 1) xs)) ≡ None
  lookup_more view xs i d within none other =
      rw (map_more view xs i d within)
      (past (map view (take i xs)) (view (get_or xs i d) ∷ []) none ∙ (rw other refl))

  -- the first that passes
  pub lookup_at : {A : Type 0} (view : A → K × X) (xs : List A) (i : ℕ) (d : A) → i < length xs
      → lookup test (map view (take i xs)) ≡ None → test (view (get_or xs i d)).0 ≡ true
      → lookup test (map view xs) ≡ Some (view (get_or xs i d)).1
  lookup_at view [] i d within none passes = absurd (omega arith)
  lookup_at view (x ∷ xs) zero d within none passes = rw passes refl
  lookup_at view (x ∷ xs) (suc i) d within none passes =
      by (test (view x).0) refl none (λ found. lookup_at view xs i d (omega arith) found passes)
    where
      by : (b : Bool) → test (view x).0 ≡ b
          → cond b (Some (view x).1) (lookup test (map view (take i xs))) ≡ None
          → (lookup test (map view (take i xs)) ≡ None
          → lookup test (map view xs) ≡ Some (view (get_or xs i d)).1)
          → lookup test (map view (x ∷ xs)) ≡ Some (view (get_or xs i d)).1
      by true is found more = absurd cc
      by false is found more = rw is (more found)
