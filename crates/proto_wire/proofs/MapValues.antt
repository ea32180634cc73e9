-- The values of a map's payloads: each stands at its key, in the keys' order. A map of payloads has
-- values or a fault, never both, and one map of values at most, where that holds of one value.
use Rattle.std.proofs.Common.{◌≡◌, ℕ, ◌⊎◌, inl, inr, T, IsTrue, true, false, cond, ◌&&◌, List, [], ◌∷◌, ◌++◌, Option, Some, None, MatchOption, IsSomeAnd, refl, sym, ap, subst, ◌∙◌}
use Rattle.std.specs.Ordering.{eq_by_cmp, is_eq, is_lt}
use Rattle.std.specs.Cmp.{tied_itself}
use Rattle.std.specs.FinMap.{FinMap, get, find, is_sorted, entries, entries_sorted, from_entries, get-entries, get-from_entries, same_map}
use Rattle.std.specs.FinMap.Entries.{below_all}
use Rattle.proto_wire.specs.Maps.{KeyKind, KeyOf, key_cmp, Entry, AreValues, SomeValueFault}
use Rattle.proto_wire.specs.private.Maps.{Held}
use Rattle.proto_wire.specs.declared.refusal.Refusal.{Refusal}
use Rattle.proto_wire.proofs.MapLemmas.{key_cmp_total, key_cmp_antisymmetric}
use Rattle.proto_wire.proofs.MapOrder.{both_second, true_of, found_later}

module _ (kind : KeyKind) {V : Type 0} (IsValue : List (List ℕ) → V → Type 0) where
  -- what stands at a key
  pub held_find : (ns : List (Entry kind)) (vs : List (KeyOf kind × V)) → Held kind IsValue ns vs
      → (key : KeyOf kind)
      → MatchOption (find (key_cmp kind) key ns) (find (key_cmp kind) key vs ≡ None)
      (λ parts. IsSomeAnd (find (key_cmp kind) key vs) (IsValue parts))
  held_find [] vs held key = rw held refl
  held_find (n ∷ ns) vs (value, others, is, rest, made) key =
      rw made (elim (eq_by_cmp (key_cmp kind) key n.0) as
      (λ b. MatchOption (cond b (Some n.1) (find (key_cmp kind) key ns))
      (cond b (Some value) (find (key_cmp kind) key others) ≡ None)
      (λ parts. IsSomeAnd (cond b (Some value) (find (key_cmp kind) key others)) (IsValue parts))) [
        | true ↦ is
        | false ↦ held_find ns others rest key
      ])

  -- one value more
  pub held_push : (ns : List (Entry kind)) (vs : List (KeyOf kind × V)) (n : Entry kind) (value : V)
      → Held kind IsValue ns vs → IsValue n.1 value
      → Held kind IsValue (ns ++ n ∷ []) (vs ++ (n.0, value) ∷ [])
  held_push [] vs n value held is =
      (value, [], is, refl, ap (λ xs. xs ++ (n.0, value) ∷ []) held)
  held_push (m ∷ ns) vs n value (first, others, has, rest, made) is = (
    first,
    others ++ (n.0, value) ∷ [],
    has,
    held_push ns others n value rest is,
    ap (λ xs. xs ++ (n.0, value) ∷ []) made,
  )

  -- what is below all keys of the payloads is below all keys of the values
  below_held : (key : KeyOf kind) (ns : List (Entry kind)) (vs : List (KeyOf kind × V))
      → Held kind IsValue ns vs
      → below_all (key_cmp kind) key ns ≡ below_all (key_cmp kind) key vs
  below_held key [] vs held = rw held refl
  below_held key (n ∷ ns) vs (value, others, is, rest, made) =
      rw made (ap (λ b. is_lt (key_cmp kind key n.0) && b) (below_held key ns others rest))

  -- they are in the same order
  pub sorted_held : (ns : List (Entry kind)) (vs : List (KeyOf kind × V))
      → Held kind IsValue ns vs
      → is_sorted (key_cmp kind) ns ≡ is_sorted (key_cmp kind) vs
  sorted_held [] vs held = rw held refl
  sorted_held (n ∷ ns) vs (value, others, is, rest, made) =
      rw made (ap (λ b. b && is_sorted (key_cmp kind) ns) (below_held n.0 ns others rest)
      ∙ ap (λ b. below_all (key_cmp kind) n.0 others && b) (sorted_held ns others rest))

  module _ (named : FinMap (key_cmp kind) (List (List ℕ))) where
    -- the values of a map's payloads are in ascending order of keys
    pub held_ordered : (vs : List (KeyOf kind × V)) → Held kind IsValue (entries named) vs
        → IsTrue (is_sorted (key_cmp kind) vs)
    held_ordered vs held =
        true_of _ (subst T (sorted_held (entries named) vs held) (entries_sorted named))

    -- and they are the map's values
    pub held_are_values : (vs : List (KeyOf kind × V)) → Held kind IsValue (entries named) vs
        → AreValues kind IsValue named (from_entries vs)
    held_are_values vs held key =
        rw (get-entries named key, get-from_entries (key_cmp_total kind) vs key)
        (held_find (entries named) vs held key)

  -- ---- values or a fault

  module _ (ValueFault : List (List ℕ) → Refusal → Type 0)
      (value_total : (parts : List (List ℕ))
      → ((value : V) × IsValue parts value) ⊎ ((e : Refusal) × ValueFault parts e)) where
    held_total : (ns : List (Entry kind)) → T (is_sorted (key_cmp kind) ns)
        → ((vs : List (KeyOf kind × V)) × Held kind IsValue ns vs)
        ⊎ ((e : Refusal) × SomeValueFault kind ValueFault ns e)
    held_total [] sorted = inl ([], refl)
    held_total (n ∷ ns) sorted =
        elim (value_total n.1) [
          | inr bad ↦
              let tied = ap is_eq (tied_itself (key_cmp_total kind) n.0) in
              let at = ap (λ b. cond b (Some n.1) (find (key_cmp kind) n.0 ns)) tied in
              inr (bad.0, (n.0, n.1, at, bad.1))
          | inl value ↦ elim (held_total ns (both_second _ _ sorted)) [
            | inl others ↦ inl ((n.0, value.0) ∷ others.0, (value.0, others.0, value.1, others.1, refl))
            | inr (e, (key, parts, found, bad)) ↦
                let later =
                found_later (key_cmp kind) (key_cmp_total kind) (key_cmp_antisymmetric kind) n ns key
                parts sorted found in
                inr (e, (key, parts, later, bad))
          ]
        ]

    -- a map of payloads has values, or the payloads of a key have a fault
    pub values_total : (named : FinMap (key_cmp kind) (List (List ℕ)))
        → ((values : FinMap (key_cmp kind) V) × AreValues kind IsValue named values)
        ⊎ ((e : Refusal) × SomeValueFault kind ValueFault (entries named) e)
    values_total named =
        elim (held_total (entries named) (entries_sorted named)) [
          | inr bad ↦ inr bad
          | inl held ↦ inl (from_entries held.0, held_are_values named held.0 held.1)
        ]

  -- ---- never both

  module _ (ValueFault : List (List ℕ) → Refusal → Type 0)
      (value_disjoint : (parts : List (List ℕ)) (value : V) (e : Refusal) → IsValue parts value
      → ValueFault parts e → ⊥) where
    held_disjoint : (at : Option (List (List ℕ))) (held : Option V) (parts : List (List ℕ))
        (e : Refusal)
        → at ≡ Some parts
        → MatchOption at (held ≡ None) (λ given. IsSomeAnd held (IsValue given))
        → ValueFault parts e → ⊥
    held_disjoint None held parts e at is bad = let clash : None ≡ Some parts = at in cc
    held_disjoint (Some given) None parts e at is bad = is
    held_disjoint (Some given) (Some value) parts e at is bad =
        let same : given ≡ parts = cc in
        let P : List (List ℕ) → Type 0 = λ x. ValueFault x e in
        value_disjoint given value e is (subst P (sym same) bad)

    -- a map of payloads that has values has no fault
    pub values_disjoint : (named : FinMap (key_cmp kind) (List (List ℕ)))
        (values : FinMap (key_cmp kind) V) (e : Refusal)
        → AreValues kind IsValue named values → SomeValueFault kind ValueFault (entries named) e
        → ⊥
    values_disjoint named values e are (key, parts, found, bad) =
        held_disjoint (get named key) (get values key) parts e (get-entries named key ∙ found)
        (are key) bad

  -- ---- one map of values

  module _ (value_unique : (parts : List (List ℕ)) (a b : V) → IsValue parts a → IsValue parts b
      → a ≡ b) where
    held_unique : (at : Option (List (List ℕ))) (x y : Option V)
        → MatchOption at (x ≡ None) (λ parts. IsSomeAnd x (IsValue parts))
        → MatchOption at (y ≡ None) (λ parts. IsSomeAnd y (IsValue parts)) → x ≡ y
    held_unique None x y a b = a ∙ sym b
    held_unique (Some parts) None y a b = absurd a
    held_unique (Some parts) (Some p) None a b = absurd b
    held_unique (Some parts) (Some p) (Some q) a b = ap Some (value_unique parts p q a b)

    -- a map of payloads has one map of values
    pub values_unique : (named : FinMap (key_cmp kind) (List (List ℕ)))
        (m n : FinMap (key_cmp kind) V)
        → AreValues kind IsValue named m → AreValues kind IsValue named n → m ≡ n
    values_unique named m n a b =
        same_map (key_cmp_total kind) (key_cmp_antisymmetric kind) m n
        (λ key. held_unique (get named key) (get m key) (get n key) (a key) (b key))
