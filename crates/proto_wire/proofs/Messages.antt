-- Payloads are a message whose fields are all known or have a fault, never both, and they are one
-- message at most.
use Rattle.std.proofs.Common.{◌≡◌, ℕ, true, false, ◌&&◌, ◌⊎◌, inl, inr, List, [], ◌∷◌, ◌++◌, None, Some, refl, sym, ap, ◌∙◌}
use Rattle.std.specs.Prelude.{Result, IfErr, IsErrAnd, IsSomeAnd}
use Rattle.std.specs.List.{list_all}
use Rattle.std.proofs.lemmas.Bool.{and_parts}
use Rattle.std.proofs.lemmas.List.Folds.{list_all-append}
use Rattle.std.proofs.lemmas.Result.{err_from_is_err_and}
use Rattle.proto_wire.specs.Fields.{Wire}
use Rattle.proto_wire.specs.Keys.{first_unknown, is_known, AllKnown, SomeUnknown}
use Rattle.proto_wire.specs.Merge.{Merges}
use Rattle.proto_wire.specs.Messages.{HasUnknown, IsMessage, MessageFault, PartsFault, not_whole, not_known}
use Rattle.proto_wire.specs.Places.{Path, IsAt, MessagePlace, path_of, path_at, whole_message, unknown_field}
use Rattle.proto_wire.specs.Refusal.{MemoryOr}
use Rattle.proto_wire.specs.declared.placed.Fault.{Fault}
use Rattle.proto_wire.specs.declared.refusal.Refusal.{Refusal}
use Rattle.proto_wire.specs.declared.refusal.Refusal.TheVariants.{BadWire, Memory, UnknownField}
use Rattle.proto_wire.specs.declared.key.Key.{Key}
use Rattle.proto_wire.proofs.Unique.{fields_unique, merges_unique, merges_disjoint, merges_total}
use Rattle.proto_wire.proofs.KeyLemmas.{known_total, known_disjoint}

module _ (keys : List Key) where
  -- an unknown field of two lists is one of the first or of the second
  unknown_of_two : (fs gs : List Wire) → SomeUnknown keys (fs ++ gs)
      → SomeUnknown keys fs ⊎ SomeUnknown keys gs
  unknown_of_two fs gs unknown =
      elim (known_total keys fs) [
        | inr first ↦ inl first
        | inl all ↦
            let joined = list_all-append (is_known keys) fs gs in
            let both : (list_all (is_known keys) fs && list_all (is_known keys) gs) ≡ false =
            sym joined ∙ unknown in
            inr (rw all at both)
      ]

  -- an unknown field of a message is one of some payload
  pub merged_unknown : (parts : List (List ℕ)) (fs : List Wire) → Merges parts fs
      → SomeUnknown keys fs → HasUnknown keys parts
  merged_unknown [] fs merged unknown = known_disjoint keys [] refl (rw merged at unknown)
  merged_unknown (part ∷ parts) fs (own, others, fields, rest, whole) unknown =
      elim (unknown_of_two own others (rw whole at unknown)) [
        | inl first ↦ inl (own, fields, first)
        | inr later ↦ inr (merged_unknown parts others rest later)
      ]

  -- a message whose fields are all known has no payload with another
  merged_known : (parts : List (List ℕ)) (fs : List Wire) → Merges parts fs → AllKnown keys fs
      → HasUnknown keys parts
      → ⊥
  merged_known [] fs merged known none = none
  merged_known (part ∷ parts) fs (own, others, fields, rest, whole) known unknown =
      let joined = list_all-append (is_known keys) own others in
      let whole_known : list_all (is_known keys) (own ++ others) ≡ true = rw whole at known in
      let both = and_parts (list_all (is_known keys) own) (list_all (is_known keys) others)
      (sym joined ∙ whole_known) in
      elim unknown [
        | inl (gs, also, first) ↦
            known_disjoint keys own both.0 (rw (fields_unique part gs own also fields) at first)
        | inr later ↦ merged_known parts others rest both.1 later
      ]

  -- a message or a fault
  pub message_total : (parts : List (List ℕ))
      → ((fs : List Wire) × IsMessage keys parts fs) ⊎ ((e : Refusal) × MessageFault keys parts e)
  message_total parts =
      elim (merges_total parts) [
        | inr breaks ↦ inr (BadWire, not_whole breaks refl)
        | inl merged ↦ elim (known_total keys merged.0) [
          | inr unknown ↦
              inr (UnknownField, not_known (merged_unknown parts merged.0 merged.1 unknown) refl)
          | inl known ↦ inl (merged.0, (merged.1, known))
        ]
      ]

  -- never both
  pub message_disjoint : (parts : List (List ℕ)) (fs : List Wire) (e : Refusal)
      → IsMessage keys parts fs → MessageFault keys parts e → ⊥
  message_disjoint parts fs e (merged, known) (not_whole breaks is) =
      merges_disjoint parts fs merged breaks
  message_disjoint parts fs e (merged, known) (not_known unknown is) =
      merged_known parts fs merged known unknown

  -- one message at most
  pub message_unique : (parts : List (List ℕ)) (fs gs : List Wire) → IsMessage keys parts fs
      → IsMessage keys parts gs → fs ≡ gs
  message_unique parts fs gs a b = merges_unique parts fs gs a.0 b.0

-- fields that are not whole name no field
not_unknown : (parts : List (List ℕ)) (e : Refusal) → MemoryOr (PartsFault parts) e → e ≡ UnknownField → ⊥
not_unknown parts e (inl memory) unknown =
    let clash : ◌≡◌ {A = Refusal} Memory UnknownField = sym memory ∙ unknown in absurd cc
not_unknown parts e (inr fault) unknown =
    let clash : ◌≡◌ {A = Refusal} BadWire UnknownField = sym fault.1 ∙ unknown in absurd cc

-- their fault is the message's
pub parts_place : (keys : List Key) (parts : List (List ℕ)) {T : Type 0} (r : Result T Fault) (e : Refusal)
    → IsErrAnd r (IsAt 0 e) → MemoryOr (PartsFault parts) e → IfErr r (MessagePlace keys parts)
parts_place keys parts r e left fault =
    let p = err_from_is_err_and r left in
    rw (p.1) (whole_message (λ unknown. not_unknown parts e fault (sym p.2.0 ∙ unknown)) p.2.1)

-- the place of a message's fault has no steps
pub no_steps : (keys : List Key) (parts : List (List ℕ)) (fault : Fault) → MessagePlace keys parts fault
    → (path_of fault.place).steps ≡ []
no_steps keys parts fault (whole_message other here) = ap (λ (path : Path). path.steps) here
no_steps keys parts fault (unknown_field fs merges is named) =
    elim (first_unknown keys fs) as (λ o. IsSomeAnd o (λ n. path_of fault.place ≡ path_at n)
    → (path_of fault.place).steps ≡ []) [
      | None ↦ λ none. absurd none
      | Some n ↦ λ at. ap (λ (path : Path). path.steps) at
    ] named
