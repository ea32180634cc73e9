-- Maps from ids to payloads, as the code reads their values.
use Rattle.std.proofs.Common.{◌≡◌, ℕ, ℤ, ◌+◌, ◌<◌, T, take, get_or, length, true, false, cond, List, [], ◌∷◌, ◌++◌, Option, Some, None, IsSomeAnd, MatchOption, Bor, refl, sym, ap, subst, ◌∙◌}
use Rattle.std.specs.Cmp.{int_cmp_total}
use Rattle.std.specs.FinMap.{FinMap, find, get, insert, is_sorted, empty, entries, get-empty, get-entries, get-insert, int_cmp-IsAntisymmetric}
use Rattle.std.specs.Ordering.{int_cmp, eq_by_cmp}
use Rattle.proto_wire.specs.Maps.{Entry, int64, AreValues}
use Rattle.proto_wire.specs.Merge.{parts_view}
use Rattle.proto_wire.proofs.MapOrder.{tie, find_at}
use Rattle.smallvec.specs.SmallVec.{SmallVec}
use Rattle.std.proofs.lemmas.List.{take_more, map-append}
use Rattle.cel_read.specs.private.Named.{SomeValues, ids_view}

-- what the next entry of a list in order has stands at its id
pub found_next : (named : List (ℤ × SmallVec (Bor (List ℕ)))) (i : ℕ) (e : ℤ × SmallVec (Bor (List ℕ))) → e ≡ get_or named i e
    → i < length named → T (is_sorted int_cmp (ids_view named))
    → find int_cmp e.0 (ids_view named) ≡ Some (parts_view e.1.items)
found_next named i e at within sorted =
    let P : ℤ × SmallVec (Bor (List ℕ)) → Type 0 = λ x. find int_cmp x.0 (ids_view named) ≡ Some (parts_view x.1.items) in
    subst P (sym at) (find_at int_cmp int_cmp_total int_cmp-IsAntisymmetric (λ x. (x.0, parts_view x.1.items)) named i e sorted within)

-- ---- values

module _ {V : Type 0} (IsValue : List (List ℕ) → V → Type 0) where
  -- before the first
  pub no_values : (whole : List (Entry int64)) (values : FinMap int_cmp V) → values ≡ empty → SomeValues IsValue whole [] values
  no_values whole values is id = rw (is, get-empty {X = V} int_cmp id) refl

  not_pushed : (read : List (Entry int64)) (k q : ℤ) (parts : List (List ℕ)) → eq_by_cmp int_cmp q k ≡ false
      → find int_cmp q read ≡ None → find int_cmp q (read ++ (k, parts) ∷ []) ≡ None
  not_pushed [] k q parts apart = λ none. rw apart refl
  not_pushed (e ∷ read) k q parts apart = elim (eq_by_cmp int_cmp q e.0) as
      (λ b. cond b (Some e.1) (find int_cmp q read) ≡ None → cond b (Some e.1) (find int_cmp q (read ++ (k, parts) ∷ [])) ≡ None) [
        | true ↦ λ none. none
        | false ↦ λ none. not_pushed read k q parts apart none
      ]

  -- one value more
  pub some_more : (whole read : List (Entry int64)) (values : FinMap int_cmp V) (k : ℤ) (parts : List (List ℕ)) (v : V)
      → SomeValues IsValue whole read values → find int_cmp k whole ≡ Some parts → IsValue parts v
      → SomeValues IsValue whole (read ++ (k, parts) ∷ []) (insert values k v)
  some_more whole read values k parts v so_far at is id =
      rw (get-insert int_cmp_total values k v id)
      (elim (eq_by_cmp int_cmp id k) as (λ b. eq_by_cmp int_cmp id k ≡ b
      → MatchOption (cond b (Some v) (get values id)) (find int_cmp id (read ++ (k, parts) ∷ []) ≡ None)
      (λ w. IsSomeAnd (find int_cmp id whole) (λ ps. IsValue ps w))) [
        | true ↦ λ tied.
            let same : id ≡ k = tie int_cmp int_cmp_total int_cmp-IsAntisymmetric id k tied in
            rw (ap (λ x. find int_cmp x whole) same ∙ at) is
        | false ↦ λ apart. elim (get values id) as (λ o.
            MatchOption o (find int_cmp id read ≡ None) (λ w. IsSomeAnd (find int_cmp id whole) (λ ps. IsValue ps w))
            → MatchOption o (find int_cmp id (read ++ (k, parts) ∷ []) ≡ None)
            (λ w. IsSomeAnd (find int_cmp id whole) (λ ps. IsValue ps w))) [
              | None ↦ λ none. not_pushed read k id parts apart none
              | Some w ↦ λ h. h
            ] (so_far id)
      ] refl)

  -- the value of the next entry of a list in order
  pub some_next : (named : List (ℤ × SmallVec (Bor (List ℕ)))) (i : ℕ) (e : ℤ × SmallVec (Bor (List ℕ)))
      (values : FinMap int_cmp V) (v : V) → e ≡ get_or named i e → i < length named → T (is_sorted int_cmp (ids_view named))
      → SomeValues IsValue (ids_view named) (ids_view (take i named)) values → IsValue (parts_view e.1.items) v
      → SomeValues IsValue (ids_view named) (ids_view (take (i + 1) named)) (insert values e.0 v)
  some_next named i e values v at within sorted so_far is =
      let read : ids_view (take (i + 1) named) ≡ ids_view (take i named) ++ (e.0, parts_view e.1.items) ∷ [] =
      ap ids_view (take_more named i e within ∙ ap (λ x. take i named ++ x ∷ []) (sym at))
      ∙ map-append (λ x. (x.0, parts_view x.1.items)) (take i named) (e ∷ []) in
      rw read (some_more (ids_view named) (ids_view (take i named)) values e.0 (parts_view e.1.items) v so_far
      (found_next named i e at within sorted) is)

  value_at : (found : Option (List (List ℕ))) (value : Option V)
      → MatchOption value (found ≡ None) (λ v. IsSomeAnd found (λ parts. IsValue parts v))
      → MatchOption found (value ≡ None) (λ parts. IsSomeAnd value (IsValue parts))
  value_at None None h = refl
  value_at None (Some v) h = absurd h
  value_at (Some parts) None h = let clash : Some parts ≡ None = h in absurd cc
  value_at (Some parts) (Some v) h = h

  -- after the last
  pub all_values : (named : FinMap int_cmp (List (List ℕ))) (values : FinMap int_cmp V)
      → SomeValues IsValue (entries named) (entries named) values → AreValues int64 IsValue named values
  all_values named values are id =
      rw (get-entries named id) (value_at (find int_cmp id (entries named)) (get values id) (are id))
