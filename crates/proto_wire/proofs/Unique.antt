-- Lists of fields on lists alone: one reading, one fault, never both, and always one of the two;
-- the same in several payloads.
use Rattle.std.proofs.Common.{◌≡◌, ◌≢◌, ℕ, zero, suc, ◌+◌, ◌<◌, ◌≤◌, ◌⊎◌, List, [], ◌∷◌, ◌++◌, length, refl, sym, ap, ap₂, ◌∙◌, arith, inl, inr, append_assoc, take, get_or, Bor}
use Rattle.std.specs.List.{concat}
use Rattle.std.proofs.lemmas.List.{append-nil, map_more}
use Rattle.proto_wire.specs.Fields.{Wire, StartsField, FailsField, After, Fields, Broken, IsBroken}
use Rattle.proto_wire.specs.Merge.{Merges, Breaks, FirstBreaks, parts_view}
use Rattle.proto_wire.specs.declared.fault.WireError.{WireError}
use Rattle.proto_wire.specs.declared.refusal.Refusal.{Refusal}
use Rattle.proto_wire.proofs.FieldLemmas.{field_unique, field_disjoint, field_fault_unique, field_total, field_shorter, field_extends}

-- ---- one payload

-- a field that begins no bytes
starts_nothing : (bytes : List ℕ) (f : Wire) (rest : List ℕ) → bytes ≡ [] → StartsField bytes f rest
    → ⊥
starts_nothing bytes f rest none starts =
    omega (arith, field_shorter bytes f rest starts, ap length none)

-- bytes are one list of fields
pub fields_unique : (bytes : List ℕ) (fs gs : List Wire) → Fields bytes fs → Fields bytes gs → fs ≡ gs
fields_unique bytes [] [] a b = refl
fields_unique bytes [] (g ∷ gs) a (behind, starts, b) = absurd (starts_nothing bytes g behind a starts)
fields_unique bytes (f ∷ fs) [] (behind, starts, a) b = absurd (starts_nothing bytes f behind b starts)
fields_unique bytes (f ∷ fs) (g ∷ gs) (behind, starts, a) (behind', starts', b) =
    let same = field_unique bytes f g behind behind' starts starts' in
    ap₂ (λ (x : Wire) (xs : List Wire). x ∷ xs) same.0 (fields_unique behind fs gs a (rw same.1 b))

-- where the fields go on to a rest, the bytes have no fault
after_disjoint : (bytes : List ℕ) (fs gs : List Wire) (rest : List ℕ) (e : WireError)
    → Fields bytes fs → After bytes gs rest → rest ≢ [] → FailsField rest e → ⊥
after_disjoint bytes [] [] rest e a b more fails = more (sym b ∙ a)
after_disjoint bytes [] (g ∷ gs) rest e a (behind, starts, b) more fails =
    starts_nothing bytes g behind a starts
after_disjoint bytes (f ∷ fs) [] rest e (behind, starts, a) b more fails =
    field_disjoint bytes f behind e starts (rw b fails)
after_disjoint bytes (f ∷ fs) (g ∷ gs) rest e (behind, starts, a) (behind', starts', b) more
    fails =
    let same = field_unique bytes f g behind behind' starts starts' in
    after_disjoint behind fs gs rest e a (rw same.1 b) more fails

-- bytes that are fields are not broken
pub fields_disjoint : (bytes : List ℕ) (fs gs : List Wire) (e : WireError) → Fields bytes fs
    → Broken bytes gs e → ⊥
fields_disjoint bytes fs gs e a b = after_disjoint bytes fs gs b.rest e a b.after b.more b.fails

after_fault_unique : (bytes : List ℕ) (fs gs : List Wire) (r s : List ℕ) (e d : WireError)
    → After bytes fs r → FailsField r e
    → After bytes gs s → FailsField s d → (fs ≡ gs) × (e ≡ d)
after_fault_unique bytes [] [] r s e d a fails b fails' =
    (refl, field_fault_unique bytes e d (rw a fails) (rw b fails'))
after_fault_unique bytes [] (g ∷ gs) r s e d a fails (behind, starts, b) fails' =
    absurd (field_disjoint bytes g behind e starts (rw a fails))
after_fault_unique bytes (f ∷ fs) [] r s e d (behind, starts, a) fails b fails' =
    absurd (field_disjoint bytes f behind d starts (rw b fails'))
after_fault_unique bytes (f ∷ fs) (g ∷ gs) r s e d (behind, starts, a) fails (behind', starts', b)
    fails' =
    let same = field_unique bytes f g behind behind' starts starts' in
    let more = after_fault_unique behind fs gs r s e d a fails (rw same.1 b) fails' in
    (ap₂ (λ (x : Wire) (xs : List Wire). x ∷ xs) same.0 more.0, more.1)

-- broken bytes have one fault, at one place
pub broken_unique : (bytes : List ℕ) (fs gs : List Wire) (e d : WireError) → Broken bytes fs e
    → Broken bytes gs d → (fs ≡ gs) × (e ≡ d)
broken_unique bytes fs gs e d a b =
    after_fault_unique bytes fs gs a.rest b.rest e d a.after a.fails b.after b.fails

-- what reading all fields comes to
abbrev pub FieldsRead : List ℕ → Type 0
FieldsRead bytes =
    ((fs : List Wire) × Fields bytes fs) ⊎ IsBroken bytes

-- a field more in front
read_more : (bytes : List ℕ) (f : Wire) (behind : List ℕ) → StartsField bytes f behind
    → FieldsRead behind → FieldsRead bytes
read_more bytes f behind starts (inl (fs, a)) = inl (f ∷ fs, (behind, starts, a))
read_more bytes f behind starts (inr (fs, e, b)) =
    inr (
      f ∷ fs,
      e,
      record {
        rest = b.rest;
        after = (behind, starts, b.after);
        more = b.more;
        fails = b.fails;
      },
    )

fields_read_within : (n : ℕ) (bytes : List ℕ) → length bytes ≤ n → FieldsRead bytes
fields_read_within n [] long = inl ([], refl)
fields_read_within zero (b ∷ bytes) long = absurd (omega arith)
fields_read_within (suc n) (b ∷ bytes) long =
    elim (field_total (b ∷ bytes)) [
      | inl (f, behind, starts) ↦
          let shorter = field_shorter (b ∷ bytes) f behind starts in
          read_more (b ∷ bytes) f behind starts (fields_read_within n behind (omega arith))
      | inr (e, fails) ↦
          inr (
            [],
            e,
            record {
              rest = b ∷ bytes;
              after = refl;
              more = λ none. absurd cc;
              fails = fails;
            },
          )
    ]

-- bytes are fields, or broken
pub fields_total : (bytes : List ℕ) → FieldsRead bytes
fields_total bytes = fields_read_within (length bytes) bytes (omega arith)

-- bytes that begin with a field do not break at once
pub after_breaks_later : (bytes : List ℕ) (fs : List Wire) (rest : List ℕ) (f : Wire)
    (more : List ℕ)
    → After bytes fs rest → StartsField rest f more → FirstBreaks (bytes ∷ []) → ⊥
after_breaks_later bytes [] rest f more a starts (e, broken) =
    field_disjoint bytes f more e (rw a starts) (rw broken.after broken.fails)
after_breaks_later bytes (g ∷ fs) rest f more (behind, first, a) starts (e, broken) =
    field_disjoint bytes g behind e first (rw broken.after broken.fails)

-- ---- fields behind fields

pub after_append : (bytes : List ℕ) (fs : List Wire) (behind : List ℕ) (gs : List Wire)
    (rest : List ℕ)
    → After bytes fs behind → After behind gs rest → After bytes (fs ++ gs) rest
after_append bytes [] behind gs rest a b = rw a b
after_append bytes (f ∷ fs) behind gs rest (next, starts, a) b =
    (next, starts, after_append next fs behind gs rest a b)

-- one field more behind the others
pub after_push : (bytes : List ℕ) (fs : List Wire) (behind : List ℕ) (f : Wire) (rest : List ℕ)
    → After bytes fs behind → StartsField behind f rest → After bytes (fs ++ f ∷ []) rest
after_push bytes fs behind f rest a starts =
    after_append bytes fs behind (f ∷ []) rest a (rest, starts, refl)

after_extends : (bytes : List ℕ) (fs : List Wire) (rest more : List ℕ) → After bytes fs rest
    → After (bytes ++ more) fs (rest ++ more)
after_extends bytes [] rest more a = ap (λ (t : List ℕ). t ++ more) a
after_extends bytes (f ∷ fs) rest more (behind, starts, a) =
    (behind ++ more, field_extends bytes f behind more starts, after_extends behind fs rest more a)

-- the fields of two payloads put one after the other
pub fields_append : (a b : List ℕ) (fs gs : List Wire) → Fields a fs → Fields b gs
    → Fields (a ++ b) (fs ++ gs)
fields_append a b fs gs x y = after_append (a ++ b) fs b gs [] (after_extends a fs [] b x) y

-- ---- several payloads

-- payloads are one list of fields
pub merges_unique : (parts : List (List ℕ)) (fs gs : List Wire) → Merges parts fs → Merges parts gs
    → fs ≡ gs
merges_unique [] fs gs a b = a ∙ sym b
merges_unique (part ∷ parts) fs gs (own, others, fields, rest, whole)
    (own', others', fields', rest', whole') =
    let first = fields_unique part own own' fields fields' in
    let more = merges_unique parts others others' rest rest' in
    whole ∙ ap₂ (λ (x y : List Wire). x ++ y) first more ∙ sym whole'

-- payloads that merge have no fault
pub merges_disjoint : (parts : List (List ℕ)) (fs : List Wire) → Merges parts fs → Breaks parts
    → ⊥
merges_disjoint [] fs a b = b
merges_disjoint (part ∷ parts) fs (own, others, fields, rest, whole) (inl (gs, e, broken)) =
    fields_disjoint part own gs e fields broken
merges_disjoint (part ∷ parts) fs (own, others, fields, rest, whole) (inr breaks) =
    merges_disjoint parts others rest breaks

-- what reading all payloads comes to
abbrev pub PartsRead : List (List ℕ) → Type 0
PartsRead parts = ((fs : List Wire) × Merges parts fs) ⊎ Breaks parts

parts_more : (part : List ℕ) (parts : List (List ℕ)) → FieldsRead part → PartsRead parts
    → PartsRead (part ∷ parts)
parts_more part parts (inl (own, fields)) (inl (others, rest)) =
    inl (own ++ others, (own, others, fields, rest, refl))
parts_more part parts (inl (own, fields)) (inr breaks) = inr (inr breaks)
parts_more part parts (inr broken) read = inr (inl broken)

-- payloads merge, or one is broken
pub merges_total : (parts : List (List ℕ)) → PartsRead parts
merges_total [] = inl ([], refl)
merges_total (part ∷ parts) =
    parts_more part parts (fields_total part) (merges_total parts)

-- the merged fields are those of the payloads put one after the other
pub merges_joined : (parts : List (List ℕ)) (fs : List Wire) → Merges parts fs
    → Fields (concat parts) fs
merges_joined [] fs a = rw a refl
merges_joined (part ∷ parts) fs (own, others, fields, rest, whole) =
    rw whole (fields_append part (concat parts) own others fields (merges_joined parts others rest))

-- one payload more behind the others
pub merges_push : (parts : List (List ℕ)) (fs : List Wire) (part : List ℕ) (gs : List Wire)
    → Merges parts fs → Fields part gs → Merges (parts ++ part ∷ []) (fs ++ gs)
merges_push [] fs part gs a fields =
    (gs, [], fields, refl, ap (λ (t : List Wire). t ++ gs) a ∙ sym (append-nil gs))
merges_push (p ∷ parts) fs part gs (own, others, first, rest, whole) fields = (
  own,
  others ++ gs,
  first,
  merges_push parts others part gs rest fields,
  ap (λ (t : List Wire). t ++ gs) whole ∙ append_assoc own others gs,
)

-- the next payload of a list
pub merges_at : (i : ℕ) (parts : List (Bor (List ℕ))) (d : Bor (List ℕ)) (fs gs : List Wire)
    → i < length parts
    → Merges (parts_view (take i parts)) fs → Fields (get_or parts i d).now gs
    → Merges (parts_view (take (i + 1) parts)) (fs ++ gs)
merges_at i parts d fs gs within so_far fields =
    rw (map_more (λ (p : Bor (List ℕ)). p.now) parts i d within)
    (merges_push (parts_view (take i parts)) fs (get_or parts i d).now gs so_far fields)

-- payloads that merge do not break at the first field
pub first_disjoint : (parts : List (List ℕ)) (fs : List Wire) → Merges parts fs
    → FirstBreaks parts → ⊥
first_disjoint [] fs merged breaks = breaks
first_disjoint (part ∷ parts) fs (own, others, fields, rest, whole) (e, broken) =
    fields_disjoint part own [] e fields broken

-- where the payloads before the next one merge and the first breaks at once, the next is the first
pub first_breaks_at : (i : ℕ) (parts : List (Bor (List ℕ))) (d : Bor (List ℕ)) (fs : List Wire)
    → i < length parts
    → Merges (parts_view (take i parts)) fs → FirstBreaks (parts_view parts)
    → FirstBreaks ((get_or parts i d).now ∷ [])
first_breaks_at i [] d fs within merged breaks = absurd breaks
first_breaks_at zero (p ∷ parts) d fs within merged breaks = breaks
first_breaks_at (suc i) (p ∷ parts) d fs within merged breaks =
    absurd (first_disjoint (parts_view (p ∷ take i parts)) fs merged breaks)

-- the refusal of bytes that are no list of whole fields
abbrev pub BytesFault : List ℕ → Refusal → Type 0
BytesFault bytes e = IsBroken bytes × (e ≡ Refusal.BadWire)

-- a broken payload among others
pub breaks_at : (i : ℕ) (parts : List (Bor (List ℕ))) (d : Bor (List ℕ)) → i < length parts
    → IsBroken (get_or parts i d).now → Breaks (parts_view parts)
breaks_at i [] d within broken = absurd (omega arith)
breaks_at zero (p ∷ parts) d within broken = inl broken
breaks_at (suc i) (p ∷ parts) d within broken = inr (breaks_at i parts d (omega arith) broken)
