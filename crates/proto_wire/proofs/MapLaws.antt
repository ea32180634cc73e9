-- Payloads are the entries of a map or one of them has a fault, never both, and in one way at most.
use Rattle.std.proofs.Common.{◌≡◌, ℕ, ◌<◌, ◌⊎◌, inl, inr, List, [], ◌∷◌, arith, refl, sym, ap, subst, ◌∙◌}
use Rattle.proto_wire.specs.Fields.{Wire}
use Rattle.proto_wire.specs.Values.{payloads, bytes_at}
use Rattle.proto_wire.specs.Maps.{KeyKind, text, int64, Entry, entry_field, key_at, entry_keys, KeyReads, IsEntry, AreEntries, EntryFault, entry_fields, entry_key, SomeEntryFault, Readable}
use Rattle.proto_wire.specs.declared.refusal.Refusal.{Refusal}
use Rattle.proto_wire.specs.declared.refusal.Refusal.TheVariants.{BadText}
use Rattle.proto_wire.proofs.Basics.{contains_first, contains_later, contains_cases, utf8_total}
use Rattle.proto_wire.proofs.Unique.{merges_unique}
use Rattle.proto_wire.proofs.Messages.{message_total, message_disjoint}

-- a key reads or not
key_total : (kind : KeyKind) (fs : List Wire) → KeyReads kind fs ⊎ ¬ (KeyReads kind fs)
key_total text fs = utf8_total (bytes_at entry_field.key fs)
key_total int64 fs = inl tt

module _ (kind : KeyKind) where
  -- a payload is an entry or has a fault
  pub entry_total : (part : List ℕ)
      → ((entry : Entry kind) × IsEntry kind part entry)
      ⊎ ((e : Refusal) × EntryFault kind part e)
  entry_total part =
      elim (message_total (entry_keys kind) (part ∷ [])) [
        | inr bad ↦ inr (bad.0, entry_fields bad.1)
        | inl message ↦ elim (key_total kind message.0) [
          | inl reads ↦
              inl (
                (key_at kind message.0, payloads entry_field.value message.0),
                (message.0, message.1, reads, refl),
              )
          | inr bad ↦ inr (BadText, entry_key message.0 message.1.0 bad refl)
        ]
      ]

  -- payloads are entries, or one has a fault
  pub entries_total : (parts : List (List ℕ))
      → ((es : List (Entry kind)) × AreEntries kind parts es)
      ⊎ ((e : Refusal) × SomeEntryFault kind parts e)
  entries_total [] = inl ([], tt)
  entries_total (part ∷ parts) =
      elim (entry_total part) [
        | inr bad ↦ inr (bad.0, (part, contains_first part parts, bad.1))
        | inl entry ↦ elim (entries_total parts) [
          | inl others ↦ inl (entry.0 ∷ others.0, (entry.1, others.1))
          | inr (e, (other, here, bad)) ↦
              inr (e, (other, contains_later part other parts here, bad))
        ]
      ]

  -- an entry has no fault
  pub entry_disjoint : (part : List ℕ) (entry : Entry kind) (e : Refusal) → IsEntry kind part entry
      → EntryFault kind part e → ⊥
  entry_disjoint part entry e (fs, message, reads, is) (entry_fields bad) =
      message_disjoint (entry_keys kind) (part ∷ []) fs e message bad
  entry_disjoint part entry e (fs, message, reads, is) (entry_key gs also bad at) =
      bad (subst (KeyReads kind) (merges_unique (part ∷ []) fs gs message.0 also) reads)

  -- a payload is one entry
  pub entry_unique : (part : List ℕ) (a b : Entry kind) → IsEntry kind part a → IsEntry kind part b
      → a ≡ b
  entry_unique part a b (fs, message, reads, is) (gs, also, reads', is') =
      let same : fs ≡ gs = merges_unique (part ∷ []) fs gs message.0 also.0 in
      let made : List Wire → Entry kind = λ xs. (key_at kind xs, payloads entry_field.value xs) in
      is ∙ ap made same ∙ sym is'

  -- entries have no fault
  pub entries_disjoint : (parts : List (List ℕ)) (es : List (Entry kind)) (e : Refusal)
      → AreEntries kind parts es → SomeEntryFault kind parts e → ⊥
  entries_disjoint [] es e are (part, here, bad) =
      let lt : here.0 < 0 = here.1 in
      absurd (omega arith)
  entries_disjoint (p ∷ parts) [] e are (part, here, bad) = are
  entries_disjoint (p ∷ parts) (x ∷ es) e are (part, here, bad) =
      elim (contains_cases p part parts here) [
        | inl same ↦
            let P : List ℕ → Type 0 = λ q. EntryFault kind q e in
            entry_disjoint p x e are.0 (subst P (sym same) bad)
        | inr later ↦ entries_disjoint parts es e are.1 (part, later, bad)
      ]

  -- where each payload is an entry, those are the entries that are readable
  pub entries_readable : (parts : List (List ℕ)) (es : List (Entry kind))
      → AreEntries kind parts es → Readable kind parts es
  entries_readable [] [] are = refl
  entries_readable [] (x ∷ es) are = absurd are
  entries_readable (p ∷ parts) [] are = absurd are
  entries_readable (p ∷ parts) (x ∷ es) are =
      inl (x, es, are.0, entries_readable parts es are.1, refl)

  -- and no others are
  pub readable_unique : (parts : List (List ℕ)) (es ds : List (Entry kind))
      → AreEntries kind parts es → Readable kind parts ds → ds ≡ es
  readable_unique [] [] ds are reads = reads
  readable_unique [] (x ∷ es) ds are reads = absurd are
  readable_unique (p ∷ parts) [] ds are reads = absurd are
  readable_unique (p ∷ parts) (x ∷ es) ds are (inl (entry, others, is, rest, made)) =
      let first : entry ≡ x = entry_unique p entry x is are.0 in
      let later : others ≡ es = readable_unique parts es others are.1 rest in
      let whole : ds ≡ entry ∷ others = made in
      cc
  readable_unique (p ∷ parts) (x ∷ es) ds are (inr (e, bad, rest)) =
      absurd (entry_disjoint p x e are.0 bad)

  -- payloads are one list of entries
  pub entries_unique : (parts : List (List ℕ)) (es ds : List (Entry kind))
      → AreEntries kind parts es → AreEntries kind parts ds → es ≡ ds
  entries_unique parts es ds a b = readable_unique parts ds es b (entries_readable parts es a)
