-- An optional message is one or has a fault, never both, and is one at most, where that holds of its payloads.
use Rattle.std.proofs.Common.{◌≡◌, ◌≢◌, ℕ, ◌⊎◌, inl, inr, Option, Some, None, List, [], ◌∷◌, refl, ap, ◌∙◌}
use Rattle.std.specs.Borrow.{Bor}
use Rattle.std.specs.Prelude.{Result, IfErr, IsErrAnd}
use Rattle.proto_wire.specs.Fields.{Wire}
use Rattle.proto_wire.specs.Merge.{parts_view}
use Rattle.proto_wire.specs.Reading.{IsOptional, OptionalFault}
use Rattle.proto_wire.specs.Refusal.{MemoryOr}
use Rattle.proto_wire.specs.Values.{payloads}
use Rattle.proto_wire.specs.declared.refusal.Refusal.{Refusal}
use Rattle.proto_wire.proofs.Basics.{nil_or_not}
use Rattle.proto_wire.proofs.Exits.{exit_memory_or}

-- ---- what is known of a message

-- payloads are it, or have a fault
abbrev pub IsTotal : {M : Type 0} → (List (List ℕ) → M → Type 0) → (List (List ℕ) → Refusal → Type 0) → Type 0
IsTotal {M} Is F = (parts : List (List ℕ)) → ((m : M) × Is parts m) ⊎ ((e : Refusal) × F parts e)

-- they never are both
abbrev pub IsDisjoint : {M : Type 0} → (List (List ℕ) → M → Type 0) → (List (List ℕ) → Refusal → Type 0) → Type 0
IsDisjoint {M} Is F = (parts : List (List ℕ)) (m : M) (e : Refusal) → Is parts m → F parts e → ⊥

-- they are one at most
abbrev pub IsUnique : {M : Type 0} → (List (List ℕ) → M → Type 0) → Type 0
IsUnique {M} Is = (parts : List (List ℕ)) (m n : M) → Is parts m → Is parts n → m ≡ n

-- ---- optional messages

pub optional_total : {M : Type 0} (Is : List (List ℕ) → M → Type 0) (F : List (List ℕ) → Refusal → Type 0)
    → IsTotal Is F → (k : ℕ) (fs : List Wire)
    → ((o : Option M) × IsOptional Is k fs o) ⊎ ((e : Refusal) × OptionalFault F k fs e)
optional_total Is F total k fs = elim (nil_or_not (payloads k fs)) [
  | inl none ↦ inl (None, none)
  | inr some ↦ elim (total (payloads k fs)) [
    | inl (m, is) ↦ inl (Some m, (some, is))
    | inr (e, bad) ↦ inr (e, (some, bad))
  ]
]

pub optional_disjoint : {M : Type 0} (Is : List (List ℕ) → M → Type 0)
    (F : List (List ℕ) → Refusal → Type 0)
    → IsDisjoint Is F → (k : ℕ) (fs : List Wire) (o : Option M) (e : Refusal)
    → IsOptional Is k fs o → OptionalFault F k fs e → ⊥
optional_disjoint Is F disjoint k fs None e none (some, bad) = some none
optional_disjoint Is F disjoint k fs (Some m) e (some, is) (some', bad) =
    disjoint (payloads k fs) m e is bad

pub optional_unique : {M : Type 0} (Is : List (List ℕ) → M → Type 0) → IsUnique Is → (k : ℕ)
    (fs : List Wire) (o p : Option M)
    → IsOptional Is k fs o → IsOptional Is k fs p → o ≡ p
optional_unique Is unique k fs None None none none' = refl
optional_unique Is unique k fs None (Some n) none (some, is) = absurd (some none)
optional_unique Is unique k fs (Some m) None (some, is) none = absurd (some none)
optional_unique Is unique k fs (Some m) (Some n) (some, is) (some', is') =
    ap Some (unique (payloads k fs) m n is is')

-- slices of which none has bytes are none
parts_none : (slices : List (Bor (List ℕ))) → parts_view slices ≡ [] → slices ≡ []
parts_none [] none = refl
parts_none (s ∷ slices) none = absurd cc

-- at a `?` on the reader of a message that is there
pub exit_optional : (F : List (List ℕ) → Refusal → Type 0) (k : ℕ) (fs : List Wire)
    (slices : List (Bor (List ℕ))) → parts_view slices ≡ payloads k fs → slices ≢ [] → {T : Type 0}
    (r : Result T Refusal) (e : Refusal) → IsErrAnd r (λ y. y ≡ e) → MemoryOr (F (parts_view slices)) e
    → IfErr r (MemoryOr (OptionalFault F k fs))
exit_optional F k fs slices same some r e left fault =
    let fault' : MemoryOr (F (payloads k fs)) e = rw (← same) fault in
    exit_memory_or (F (payloads k fs)) (OptionalFault F k fs) r e left fault'
    (λ d bad. ((λ none. some (parts_none slices (same ∙ none))), bad))
