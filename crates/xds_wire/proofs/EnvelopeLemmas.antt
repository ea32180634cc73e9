-- Payloads are an envelope or have a fault, never both, and they are one at most, where that holds of its fields.
use Rattle.std.proofs.Common.{◌≡◌, ℕ, ◌⊎◌, inl, inr, List, [], ◌∷◌, refl, sym, ap₂, subst, ◌∙◌}
use Rattle.std.specs.Prelude.{IsUtf8}
use Rattle.std.specs.List.{AllZip, AllByRecursion}
use Rattle.proto_wire.specs.Fields.{Wire}
use Rattle.proto_wire.specs.Values.{payloads, bytes_at, Utf8Fault, StringFault}
use Rattle.proto_wire.specs.declared.refusal.Refusal.{Refusal}
use Rattle.proto_wire.specs.declared.refusal.Refusal.TheVariants.{BadWire, BadText}
use Rattle.proto_wire.proofs.Unique.{merges_unique, merges_disjoint, merges_total}
use Rattle.proto_wire.proofs.Basics.{utf8_total}
use Rattle.proto_wire.proofs.OptionalLaws.{IsTotal, IsDisjoint, IsUnique}
use Rattle.proto_wire.specs.Merge.{SomeOf}
use Rattle.xds_wire.specs.Envelope.{IsEnvelope, EnvelopeFault, not_whole, in_fields, IsString, AreStrings, StringsFault, AreRepeated, RepeatedFault}

-- ---- strings

pub string_total : (k : ℕ) (fs : List Wire)
    → ((t : List ℕ) × IsString k fs t) ⊎ ((e : Refusal) × StringFault k fs e)
string_total k fs = elim (utf8_total (bytes_at k fs)) [
  | inl utf8 ↦ inl (bytes_at k fs, (refl, utf8))
  | inr other ↦ inr (BadText, (other, refl))
]

pub string_disjoint : (k : ℕ) (fs : List Wire) (t : List ℕ) (e : Refusal) → IsString k fs t
    → StringFault k fs e → ⊥
string_disjoint k fs t e (is, utf8) (other, bad) = other (subst IsUtf8 is utf8)

pub string_unique : (k : ℕ) (fs : List Wire) (t u : List ℕ) → IsString k fs t → IsString k fs u → t ≡ u
string_unique k fs t u (is, utf8) (is', utf8') = is ∙ sym is'

-- ---- repeated strings

each_string_total : (xs : List (List ℕ))
    → AllByRecursion IsUtf8 xs ⊎ ((e : Refusal) × SomeOf (λ bytes. Utf8Fault bytes e) xs)
each_string_total [] = inl tt
each_string_total (x ∷ xs) = elim (utf8_total x) [
  | inr other ↦ inr (BadText, inl (other, refl))
  | inl utf8 ↦ elim (each_string_total xs) [
    | inr (e, later) ↦ inr (e, inr later)
    | inl all ↦ inl (utf8, all)
  ]
]

each_string_disjoint : (xs : List (List ℕ)) (e : Refusal) → AllByRecursion IsUtf8 xs
    → SomeOf (λ bytes. Utf8Fault bytes e) xs → ⊥
each_string_disjoint [] e all some = some
each_string_disjoint (x ∷ xs) e (utf8, all) (inl bad) = bad.0 utf8
each_string_disjoint (x ∷ xs) e (utf8, all) (inr later) = each_string_disjoint xs e all later

pub strings_total : (k : ℕ) (fs : List Wire)
    → ((ts : List (List ℕ)) × AreStrings k fs ts) ⊎ ((e : Refusal) × StringsFault k fs e)
strings_total k fs = elim (each_string_total (payloads k fs)) [
  | inl all ↦ inl (payloads k fs, (refl, all))
  | inr fault ↦ inr fault
]

pub strings_disjoint : (k : ℕ) (fs : List Wire) (ts : List (List ℕ)) (e : Refusal)
    → AreStrings k fs ts → StringsFault k fs e → ⊥
strings_disjoint k fs ts e (is, all) some =
    each_string_disjoint (payloads k fs) e (subst (AllByRecursion IsUtf8) is all) some

pub strings_unique : (k : ℕ) (fs : List Wire) (ts us : List (List ℕ)) → AreStrings k fs ts
    → AreStrings k fs us → ts ≡ us
strings_unique k fs ts us (is, all) (is', all') = is ∙ sym is'

-- ---- envelopes

pub envelope_total : {M : Type 0} (Table : List Wire → M → Type 0) (F : List Wire → Refusal → Type 0)
    → ((fs : List Wire) → ((m : M) × Table fs m) ⊎ ((e : Refusal) × F fs e))
    → IsTotal (IsEnvelope Table) (EnvelopeFault F)
envelope_total Table F table parts = elim (merges_total parts) [
  | inr breaks ↦ inr (BadWire, not_whole (breaks, refl))
  | inl (fs, merged) ↦ elim (table fs) [
    | inl (m, is) ↦ inl (m, (fs, merged, is))
    | inr (e, bad) ↦ inr (e, in_fields fs merged bad)
  ]
]

pub envelope_disjoint : {M : Type 0} (Table : List Wire → M → Type 0) (F : List Wire → Refusal → Type 0)
    → ((fs : List Wire) (m : M) (e : Refusal) → Table fs m → F fs e → ⊥)
    → IsDisjoint (IsEnvelope Table) (EnvelopeFault F)
envelope_disjoint Table F table parts m e (fs, merged, is) (not_whole bad) =
    merges_disjoint parts fs merged bad.0
envelope_disjoint Table F table parts m e (fs, merged, is) (in_fields gs also bad) =
    table fs m e is (subst (λ xs. F xs e) (merges_unique parts gs fs also merged) bad)

pub envelope_unique : {M : Type 0} (Table : List Wire → M → Type 0)
    → ((fs : List Wire) (m n : M) → Table fs m → Table fs n → m ≡ n) → IsUnique (IsEnvelope Table)
envelope_unique Table table parts m n (fs, merged, is) (gs, also, is') =
    table fs m n is (subst (λ xs. Table xs n) (merges_unique parts gs fs also merged) is')

-- ---- repeated messages

each_total : {M : Type 0} (Is : List (List ℕ) → M → Type 0) (F : List (List ℕ) → Refusal → Type 0)
    → IsTotal Is F → (parts : List (List ℕ))
    → ((ms : List M) × AllZip (λ part m. Is (part ∷ []) m) parts ms)
    ⊎ ((e : Refusal) × SomeOf (λ part. F (part ∷ []) e) parts)
each_total Is F total [] = inl ([], tt)
each_total Is F total (p ∷ parts) = elim (total (p ∷ [])) [
  | inr (e, bad) ↦ inr (e, inl bad)
  | inl (m, is) ↦ elim (each_total Is F total parts) [
    | inr (e, later) ↦ inr (e, inr later)
    | inl (ms, all) ↦ inl (m ∷ ms, (is, all))
  ]
]

each_disjoint : {M : Type 0} (Is : List (List ℕ) → M → Type 0) (F : List (List ℕ) → Refusal → Type 0)
    → IsDisjoint Is F → (parts : List (List ℕ)) (ms : List M) (e : Refusal)
    → AllZip (λ part m. Is (part ∷ []) m) parts ms → SomeOf (λ part. F (part ∷ []) e) parts → ⊥
each_disjoint Is F disjoint [] ms e all some = some
each_disjoint Is F disjoint (p ∷ parts) [] e all some = all
each_disjoint Is F disjoint (p ∷ parts) (m ∷ ms) e (is, all) (inl bad) = disjoint (p ∷ []) m e is bad
each_disjoint Is F disjoint (p ∷ parts) (m ∷ ms) e (is, all) (inr later) =
    each_disjoint Is F disjoint parts ms e all later

each_unique : {M : Type 0} (Is : List (List ℕ) → M → Type 0) → IsUnique Is → (parts : List (List ℕ))
    (ms ns : List M)
    → AllZip (λ part m. Is (part ∷ []) m) parts ms → AllZip (λ part m. Is (part ∷ []) m) parts ns
    → ms ≡ ns
each_unique Is unique [] [] [] a b = refl
each_unique Is unique [] [] (n ∷ ns) a b = absurd b
each_unique Is unique [] (m ∷ ms) ns a b = absurd a
each_unique Is unique (p ∷ parts) [] ns a b = absurd a
each_unique Is unique (p ∷ parts) (m ∷ ms) [] a b = absurd b
each_unique {M} Is unique (p ∷ parts) (m ∷ ms) (n ∷ ns) (is, a) (is', b) =
    ap₂ (λ (x : M) (xs : List M). x ∷ xs) (unique (p ∷ []) m n is is')
    (each_unique Is unique parts ms ns a b)

pub repeated_total : {M : Type 0} (Is : List (List ℕ) → M → Type 0)
    (F : List (List ℕ) → Refusal → Type 0)
    → IsTotal Is F → (k : ℕ) (fs : List Wire)
    → ((ms : List M) × AreRepeated Is k fs ms) ⊎ ((e : Refusal) × RepeatedFault F k fs e)
repeated_total Is F total k fs = each_total Is F total (payloads k fs)

pub repeated_disjoint : {M : Type 0} (Is : List (List ℕ) → M → Type 0)
    (F : List (List ℕ) → Refusal → Type 0)
    → IsDisjoint Is F → (k : ℕ) (fs : List Wire) (ms : List M) (e : Refusal)
    → AreRepeated Is k fs ms → RepeatedFault F k fs e → ⊥
repeated_disjoint Is F disjoint k fs ms e = each_disjoint Is F disjoint (payloads k fs) ms e

pub repeated_unique : {M : Type 0} (Is : List (List ℕ) → M → Type 0) → IsUnique Is → (k : ℕ)
    (fs : List Wire) (ms ns : List M)
    → AreRepeated Is k fs ms → AreRepeated Is k fs ns → ms ≡ ns
repeated_unique Is unique k fs ms ns = each_unique Is unique (payloads k fs) ms ns
