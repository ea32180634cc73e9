-- Payloads are a message that says something or have a fault, never both, and say one thing at most, where that holds of
-- their fields.
use Rattle.std.proofs.Common.{◌≡◌, ◌⊎◌, inl, inr, ℕ, List, Option, Some, None, MatchOption, refl, subst}
use Rattle.std.specs.Map.{keys_of}
use Rattle.proto_wire.specs.Fields.{Wire}
use Rattle.proto_wire.specs.Oneof.{member_run, last_number, member_in}
use Rattle.proto_wire.specs.declared.key.Key.{Key}
use Rattle.proto_wire.specs.declared.refusal.Refusal.{Refusal}
use Rattle.proto_wire.specs.declared.refusal.Refusal.TheVariants.{Missing, Unsupported}
use Rattle.proto_wire.proofs.Messages.{message_total, message_disjoint}
use Rattle.proto_wire.proofs.Unique.{merges_unique}
use Rattle.proto_wire.specs.Reading.{Reads, ReadFault, in_fields, lacking, in_values, OneofSays, Never, OneofFault, IsUnsupported, LacksMember}
use Rattle.proto_wire.specs.private.Values.{ValuesFault}
use Rattle.proto_wire.proofs.Readers.{values_fault}

module _ {T : Type 0} (keys : List Key) (Says : List Wire → T → Type 0) where
  pub reads_unique : ((fs : List Wire) (x y : T) → Says fs x → Says fs y → x ≡ y)
      → (parts : List (List ℕ)) (x y : T) → Reads keys Says parts x → Reads keys Says parts y → x ≡ y
  reads_unique unique parts x y a b =
      let P : List Wire → Type 0 = λ fs. Says fs y in
      unique a.0 x y a.2 (subst P (merges_unique parts b.0 a.0 b.1.0 a.1.0) b.2)

  module _ (Lacks : List Wire → Type 0) (Wrong : List Wire → Refusal → Type 0) where
    pub reads_total : ((fs : List Wire) → ((x : T) × Says fs x) ⊎ ((e : Refusal) × ValuesFault Lacks Wrong fs e))
        → (parts : List (List ℕ))
        → ((x : T) × Reads keys Says parts x) ⊎ ((e : Refusal) × ReadFault keys Lacks Wrong parts e)
    reads_total total parts = elim (message_total keys parts) [
      | inr bad ↦ inr (bad.0, in_fields bad.1)
      | inl (fs, message) ↦ elim (total fs) [
        | inl says ↦ inl (says.0, (fs, message, says.1))
        | inr bad ↦ inr (bad.0, values_fault keys Lacks Wrong parts fs message bad.0 bad.1)
      ]
    ]

    pub reads_disjoint : ((fs : List Wire) (x : T) (e : Refusal) → Says fs x → ValuesFault Lacks Wrong fs e → ⊥)
        → (parts : List (List ℕ)) (x : T) (e : Refusal) → Reads keys Says parts x
        → ReadFault keys Lacks Wrong parts e → ⊥
    reads_disjoint disjoint parts x e (fs, message, says) (in_fields bad) =
        message_disjoint keys parts fs e message bad
    reads_disjoint disjoint parts x e (fs, message, says) (lacking gs also lacks is) =
        let P : List Wire → Type 0 = Lacks in
        disjoint fs x e says (inl (subst P (merges_unique parts gs fs also.0 message.0) lacks, is))
    reads_disjoint disjoint parts x e (fs, message, says) (in_values gs also wrong) =
        let P : List Wire → Type 0 = λ hs. Wrong hs e in
        disjoint fs x e says (inr (subst P (merges_unique parts gs fs also message.0) wrong))

-- ---- oneofs without which nothing is said

module _ {M T : Type 0} (table : List (Key × Option M)) (Says : M → ℕ → List Wire → T → Type 0) where
  -- a member says one thing, and so does the oneof
  pub oneof_unique : (Without : T → Type 0) → ((x y : T) → Without x → Without y → x ≡ y)
      → ((m : M) (n : ℕ) (run : List Wire) (x y : T) → Says m n run x → Says m n run y → x ≡ y)
      → (fs : List Wire) (x y : T) → OneofSays table Without Says fs x → OneofSays table Without Says fs y → x ≡ y
  oneof_unique Without alone unique fs x y = elim (last_number (keys_of table) fs) as (λ o.
      MatchOption o (Without x) (λ n. MatchOption (member_in table n) (Without x) (λ m. Says m n (member_run (keys_of table) fs) x))
      → MatchOption o (Without y) (λ n. MatchOption (member_in table n) (Without y) (λ m. Says m n (member_run (keys_of table) fs) y))
      → x ≡ y) [
        | None ↦ λ a b. alone x y a b
        | Some n ↦ elim (member_in table n) as (λ o.
            MatchOption o (Without x) (λ m. Says m n (member_run (keys_of table) fs) x)
            → MatchOption o (Without y) (λ m. Says m n (member_run (keys_of table) fs) y) → x ≡ y) [
              | None ↦ λ a b. alone x y a b
              | Some m ↦ λ a b. unique m n (member_run (keys_of table) fs) x y a b
            ]
      ]

  module _ (Fails : M → ℕ → List Wire → Refusal → Type 0) where
    -- a member says something or has a fault, and so does the oneof
    pub oneof_total : ((m : M) (n : ℕ) (run : List Wire) → ((x : T) × Says m n run x) ⊎ ((e : Refusal) × Fails m n run e))
        → (fs : List Wire)
        → ((x : T) × OneofSays table Never Says fs x)
        ⊎ ((e : Refusal) × ValuesFault (LacksMember table) (OneofFault table IsUnsupported Fails) fs e)
    oneof_total total fs = elim (last_number (keys_of table) fs) as (λ o.
        ((x : T) × MatchOption o ⊥ (λ n. MatchOption (member_in table n) ⊥ (λ m. Says m n (member_run (keys_of table) fs) x)))
        ⊎ ((e : Refusal) × (((o ≡ None) × (e ≡ Missing)) ⊎ MatchOption o ⊥ (λ n. MatchOption (member_in table n) (e ≡ Unsupported)
        (λ m. Fails m n (member_run (keys_of table) fs) e))))) [
          | None ↦ inr (Missing, inl (refl, refl))
          | Some n ↦ elim (member_in table n) as (λ p.
              ((x : T) × MatchOption p ⊥ (λ m. Says m n (member_run (keys_of table) fs) x))
              ⊎ ((e : Refusal) × (((Some n ≡ None) × (e ≡ Missing)) ⊎ MatchOption p (e ≡ Unsupported)
              (λ m. Fails m n (member_run (keys_of table) fs) e)))) [
                | None ↦ inr (Unsupported, inr refl)
                | Some m ↦ elim (total m n (member_run (keys_of table) fs)) [
                  | inl good ↦ inl good
                  | inr bad ↦ inr (bad.0, inr bad.1)
                ]
              ]
        ]

    -- a member is not both, and neither is the oneof
    pub oneof_disjoint : ((m : M) (n : ℕ) (run : List Wire) (x : T) (e : Refusal) → Says m n run x → Fails m n run e → ⊥)
        → (fs : List Wire) (x : T) (e : Refusal) → OneofSays table Never Says fs x
        → ValuesFault (LacksMember table) (OneofFault table IsUnsupported Fails) fs e → ⊥
    oneof_disjoint disjoint fs x e = elim (last_number (keys_of table) fs) as (λ o.
        MatchOption o ⊥ (λ n. MatchOption (member_in table n) ⊥ (λ m. Says m n (member_run (keys_of table) fs) x))
        → ((o ≡ None) × (e ≡ Missing)) ⊎ MatchOption o ⊥ (λ n. MatchOption (member_in table n) (e ≡ Unsupported)
        (λ m. Fails m n (member_run (keys_of table) fs) e)) → ⊥) [
          | None ↦ λ says bad. says
          | Some n ↦ elim (member_in table n) as (λ p.
              MatchOption p ⊥ (λ m. Says m n (member_run (keys_of table) fs) x)
              → ((Some n ≡ None) × (e ≡ Missing)) ⊎ MatchOption p (e ≡ Unsupported)
              (λ m. Fails m n (member_run (keys_of table) fs) e) → ⊥) [
                | None ↦ λ says bad. says
                | Some m ↦ λ says bad. elim bad [
                  | inl (none, is) ↦ let clash : Some n ≡ None = none in absurd cc
                  | inr fails ↦ disjoint m n (member_run (keys_of table) fs) x e says fails
                ]
              ]
        ]
