-- What a stable sort by name leaves of fields.
use Rattle.std.proofs.Common.{◌≡◌, ℕ, ◌+◌, Bool, true, false, cond, List, [], ◌∷◌, ◌⊎◌, inl, inr, map, filter, refl, sym, ◌∙◌, ap, arith, All, suc, Result, Ok, Err, OnOk}
use Rattle.std.specs.Str.{bytes_eq}
use Rattle.std.specs.Ordering.{is_lt}
use Rattle.std.specs.List.Sorted.{IsSortedBy, IsStableBy, IsSortedByClosure, IsStableByClosure, IsPermutation, ties}
use Rattle.std.specs.Cmp.{IsStrictWeakOrder}
use Rattle.std.specs.Fn.{Called, ComparesAs}
use Rattle.std.specs.declared.cmp.Ordering.{Ordering}
use Rattle.std.proofs.lemmas.Cmp.{nat_list_cmp_total}
use Rattle.std.proofs.lemmas.Fn.{always_returns_same}
use denote.Param.Members.{Mut}
use denote.Ref.{Bor}
use Rattle.std.proofs.lemmas.List.Elements.{filter_agree, All-cons, All-nil}
use Rattle.std.proofs.lemmas.List.Sorted.{All-permutation, ranks_by}
use Rattle.attributes.specs.Headers.{Entry, name_cmp, values_of}
use Rattle.attributes.specs.private.Headers.{AreSorted}
use Rattle.attributes.proofs.TextOrder.{same_from_test, neither_is_same}

-- the order of fields by name
abbrev name_lt : {X : Type 0} → (X → Entry) → X → X → Bool
name_lt view x y = is_lt (name_cmp (view x).0 (view y).0)

-- sorted as `sort_by` says it
are_sorted_from_sort : {X : Type 0} (view : X → Entry) (xs : List X) → IsSortedBy (name_lt view) xs
    → AreSorted (map view xs)
are_sorted_from_sort view [] h = tt
are_sorted_from_sort view (x ∷ []) h = tt
are_sorted_from_sort view (x ∷ y ∷ xs) h =
    let first : name_lt view y x ≡ false = h 0 x (omega arith) (omega arith) in (
      λ before. cc (first, before),
      are_sorted_from_sort view (y ∷ xs) (λ k d low high.
          let next : suc k + 1 ≡ suc (k + 1) =
          omega arith in rw next at (h (suc k) d (omega arith) (omega arith))),
    )

-- a list whose elements all fail a test keeps none of them
filter_none : {X : Type 0} (p : X → Bool) (xs : List X) → All (λ x. p x ≡ false) xs
    → filter p xs ≡ []
filter_none p [] h = refl
filter_none p (x ∷ xs) h =
    let here : p x ≡ false = h 0 x (omega arith) in
    rw here (filter_none p xs (λ k d below. h (suc k) d (omega arith)))

-- the values of a name, by the fields themselves
abbrev has_name : {X : Type 0} → (X → Entry) → List ℕ → X → Bool
has_name view name x = bytes_eq (view x).0 name

values_of_fields : {X : Type 0} (view : X → Entry) (name : List ℕ) (xs : List X)
    → values_of name (map view xs) ≡ map (λ (x : X). (view x).1) (filter (has_name view name) xs)
values_of_fields view name [] = refl
values_of_fields {X} view name (x ∷ xs) =
    elim (has_name view name x) as
    (λ b. map (λ (e : Entry). e.1)
    (cond b (view x ∷ filter (λ e. bytes_eq e.0 name) (map view xs))
    (filter (λ e. bytes_eq e.0 name) (map view xs)))
    ≡ map (λ (y : X). (view y).1)
    (cond b (x ∷ filter (has_name view name) xs) (filter (has_name view name) xs))) [
      | true ↦ ap (λ vs. (view x).1 ∷ vs) (values_of_fields view name xs)
      | false ↦ values_of_fields view name xs
    ]

-- some field has the name, or none has it
named_or_not : {X : Type 0} (view : X → Entry) (name : List ℕ) (xs : List X)
    → ((x : X) × (has_name view name x ≡ true)) ⊎ All (λ x. has_name view name x ≡ false) xs
named_or_not view name [] = inr (All-nil (λ y. has_name view name y ≡ false))
named_or_not {X} view name (x ∷ xs) = elim (named_or_not view name xs) [
  | inl found ↦ inl found
  | inr none ↦ elim (has_name view name x) as (λ b. has_name view name x ≡ b
      → ((y : X) × (has_name view name y ≡ true)) ⊎ All (λ y. has_name view name y ≡ false) (x ∷ xs)) [
        | true ↦ λ e. inl (x, e)
        | false ↦ λ e. inr (All-cons (λ y. has_name view name y ≡ false) x xs e none)
      ] refl
]

-- a stable sort keeps the values of each name, in order
values_of_stable : {X : Type 0} (view : X → Entry) (name : List ℕ) (xs ys : List X)
    → IsPermutation xs ys → IsStableBy (name_lt view) xs ys
    → values_of name (map view ys) ≡ values_of name (map view xs)
values_of_stable {X} view name xs ys moved stable = values_of_fields view name ys
    ∙ ap (map (λ (x : X). (view x).1)) kept ∙ sym (values_of_fields view name xs)
  where
    kept : filter (has_name view name) ys ≡ filter (has_name view name) xs
    kept = elim (named_or_not view name xs) [
      | inl found ↦ same found
      | inr none ↦ filter_none (has_name view name) ys
          (All-permutation (λ x. has_name view name x ≡ false) xs ys moved none)
          ∙ sym (filter_none (has_name view name) xs none)
    ]
      where
        same : (x : X) × (has_name view name x ≡ true)
            → filter (has_name view name) ys ≡ filter (has_name view name) xs
        same found =
            let name_is : (view found.0).0 ≡ name =
            same_from_test (view found.0).0 name found.1 in
            let agree : (y : X) → has_name view name y ≡ ties (name_lt view) found.0 y =
            λ y. rw (← name_is)
            (sym (neither_is_same (view found.0).0 (view y).0)) in
            filter_agree (has_name view name) (ties (name_lt view) found.0) agree ys ∙ stable found.0
            ∙ sym (filter_agree (has_name view name) (ties (name_lt view) found.0) agree xs)

-- what the closure that `sort_by` is given answers
module _ {X : Type 0} (view : X → Entry)
    {F : Type 0} {g : Mut F (Bor X × (Bor X × Unit {0})) Ordering} {f : F}
    (answers : (a : Bor X × (Bor X × Unit {0})) (r : Ordering) (f' : F) → Called g f a r f'
    → (r ≡ name_cmp (view a.0.now).0 (view a.1.0.now).0) × (f' ≡ f)) where
  by_name : ComparesAs g (name_lt view) f
  by_name = always_returns_same g (λ a r. is_lt r ≡ name_lt view a.0.now a.1.0.now) f
      (λ a r f' k. (ap is_lt (answers a r f' k).0, (answers a r f' k).1))

  ranks : IsStrictWeakOrder (name_lt view)
  ranks = ranks_by nat_list_cmp_total (λ (x : X). (view x).0)

  pub are_sorted_from_clause : {E : Type 0} (r : Result (Unit {0}) E) (xs : List X)
      → OnOk r (IsSortedByClosure g f xs) → OnOk r (AreSorted (map view xs))
  are_sorted_from_clause (Ok u) xs up = are_sorted_from_sort view xs (up (name_lt view) ranks by_name)
  are_sorted_from_clause (Err e) xs up = tt

  pub values_of_from_clause : (name : List ℕ) (xs ys : List X) → IsPermutation xs ys
      → IsStableByClosure g f xs ys → values_of name (map view ys) ≡ values_of name (map view xs)
  values_of_from_clause name xs ys moved stable =
      values_of_stable view name xs ys moved (stable (name_lt view) ranks by_name)
