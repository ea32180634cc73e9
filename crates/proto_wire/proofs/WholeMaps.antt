-- Payloads are a map or have a fault, never both, and are one map at most, where that holds of one
-- value.
use Rattle.std.proofs.Common.{◌≡◌, ◌⊎◌, inl, inr, ℕ, List, subst}
use Rattle.std.specs.FinMap.{FinMap, entries}
use Rattle.proto_wire.specs.Maps.{KeyKind, key_cmp, Entry, map_of, AreValues, SomeValueFault, IsMap, MapFault, in_entry, in_faulty_entry, in_value}
use Rattle.proto_wire.specs.declared.refusal.Refusal.{Refusal}
use Rattle.proto_wire.proofs.MapLaws.{entries_total, entries_disjoint, entries_unique, entries_readable, readable_unique}
use Rattle.proto_wire.proofs.MapValues.{values_total, values_disjoint, values_unique}

module _ (kind : KeyKind) {V : Type 0} (IsValue : List (List ℕ) → V → Type 0)
    (ValueFault : List (List ℕ) → Refusal → Type 0) where
  pub map_total : ((parts : List (List ℕ)) → ((v : V) × IsValue parts v) ⊎ ((e : Refusal) × ValueFault parts e))
      → (parts : List (List ℕ))
      → ((values : FinMap (key_cmp kind) V) × IsMap kind IsValue parts values)
      ⊎ ((e : Refusal) × MapFault kind ValueFault parts e)
  map_total total parts = elim (entries_total kind parts) [
    | inr (e, bad) ↦ inr (e, in_entry bad)
    | inl (es, are) ↦ elim (values_total kind IsValue ValueFault total (map_of kind es)) [
      | inl (values, held) ↦ inl (values, (es, are, held))
      | inr (e, bad) ↦ inr (e, in_value es (entries_readable kind parts es are) bad)
    ]
  ]

  pub map_disjoint : ((parts : List (List ℕ)) (v : V) (e : Refusal) → IsValue parts v → ValueFault parts e → ⊥)
      → (parts : List (List ℕ)) (values : FinMap (key_cmp kind) V) (e : Refusal)
      → IsMap kind IsValue parts values → MapFault kind ValueFault parts e → ⊥
  map_disjoint disjoint parts values e (es, are, held) (in_entry bad) = entries_disjoint kind parts es e are bad
  map_disjoint disjoint parts values e (es, are, held) (in_faulty_entry part own reason here bad whole there fault) =
      entries_disjoint kind parts es reason are (part, here, bad)
  map_disjoint disjoint parts values e (es, are, held) (in_value read reads bad) =
      let same : read ≡ es = readable_unique kind parts es read are reads in
      let P : List (Entry kind) → Type 0 = λ ds. SomeValueFault kind ValueFault (entries (map_of kind ds)) e in
      values_disjoint kind IsValue ValueFault disjoint (map_of kind es) values e held (subst P same bad)

module _ (kind : KeyKind) {V : Type 0} (IsValue : List (List ℕ) → V → Type 0) where
  pub map_unique : ((parts : List (List ℕ)) (v w : V) → IsValue parts v → IsValue parts w → v ≡ w)
      → (parts : List (List ℕ)) (m n : FinMap (key_cmp kind) V)
      → IsMap kind IsValue parts m → IsMap kind IsValue parts n → m ≡ n
  map_unique unique parts m n (es, are, held) (ds, also, held') =
      let same : ds ≡ es = entries_unique kind parts ds es also are in
      let P : List (Entry kind) → Type 0 = λ xs. AreValues kind IsValue (map_of kind xs) n in
      values_unique kind IsValue unique (map_of kind es) m n held (subst P same held')
