-- One payload on lists alone: one reading, one fault, never both, and always one of the two.
use Rattle.std.proofs.Common.{◌≡◌, ◌≢◌, ℕ, ◌<◌, ◌≤◌, ◌⊎◌, List, [], ◌∷◌, ◌++◌, length, take, drop, refl, sym, ap, ◌∙◌, arith, inl, inr, append_assoc}
use Rattle.std.specs.Int.{from_le_bytes, w32, w64}
use Rattle.std.proofs.lemmas.Bool.{cases_lt, cases_eq}
use Rattle.std.proofs.lemmas.List.{length-append, length-take-le, take-append-drop}
use Rattle.proto_wire.specs.Varint.{value_of, SpellsVarint, StartsVarint, FailsVarint}
use Rattle.proto_wire.specs.Fields.{Payload, varint, i64, len, i32, wire_type_of, tag_bits, SpellsPayload, FailsPayload, unknown, no_varint, short_i64, no_size, short_len, short_i32}
use Rattle.proto_wire.specs.private.Payload.{StartsPayload}
use Rattle.proto_wire.specs.declared.fault.WireError.{WireError}
use Rattle.proto_wire.specs.declared.fault.WireError.TheVariants.{Truncated, BadWireType}
use Rattle.proto_wire.proofs.VarintLemmas.{groups_unique, varint_unique, varint_disjoint, varint_fault_unique, varint_total}

-- fronts of one length are the same
pub fronts_unique : (a b r s : List ℕ) → length a ≡ length b → a ++ r ≡ b ++ s → (a ≡ b) × (r ≡ s)
fronts_unique [] [] r s long e = (refl, e)
fronts_unique [] (y ∷ b) r s long e = absurd (omega arith)
fronts_unique (x ∷ a) [] r s long e = absurd (omega arith)
fronts_unique (x ∷ a) (y ∷ b) r s long e =
    let tail : a ++ r ≡ b ++ s = cc in
    let more = fronts_unique a b r s (omega arith) tail in
    let head : x ≡ y = cc in
    let same = more.0 in
    (cc, more.1)

-- ---- one reading

module _ (a b r s : List ℕ) (e : a ++ r ≡ b ++ s) where
  -- fronts of one length that begin one text are the same, and spell the same number
  fixed_unique : (value : List ℕ → ℕ) (n m k : ℕ) → (length a ≡ k) × (n ≡ value a)
      → (length b ≡ k) × (m ≡ value b)
      → (n ≡ m) × (r ≡ s)
  fixed_unique value n m k sa sb =
      let same = fronts_unique a b r s (sa.0 ∙ sym sb.0) e in
      (sa.1 ∙ ap value same.0 ∙ sym sb.1, same.1)

  -- sized fronts that begin one text are the same
  sized_unique : (n m c d : List ℕ) → SpellsVarint c (length n) → a ≡ c ++ n
      → SpellsVarint d (length m)
      → b ≡ d ++ m → (n ≡ m) × (r ≡ s)
  sized_unique n m c d size whole size' whole' =
      let left : a ++ r ≡ c ++ (n ++ r) = rw whole (append_assoc c n r) in
      let right : b ++ s ≡ d ++ (m ++ s) = rw whole' (append_assoc d m s) in
      let joined = sym left ∙ e ∙ right in
      let sizes = groups_unique c d (n ++ r) (m ++ s) size.groups size'.groups joined in
      let long : length n ≡ length m = size.value ∙ ap value_of sizes.0 ∙ sym size'.value in
      fronts_unique n m r s long sizes.1

  -- payloads of one wire type that begin one text are the same
  spells_unique : (p q : Payload) → tag_bits (wire_type_of p) ≡ tag_bits (wire_type_of q)
      → SpellsPayload a p → SpellsPayload b q → (p ≡ q) × (r ≡ s)
  spells_unique (varint n) (varint m) typed sa sb =
      let same = groups_unique a b r s sa.groups sb.groups e in
      (ap varint (sa.value ∙ ap value_of same.0 ∙ sym sb.value), same.1)
  spells_unique (i64 n) (i64 m) typed sa sb =
      let same = fixed_unique (from_le_bytes w64) n m 8 sa sb in
      (ap i64 same.0, same.1)
  spells_unique (len n) (len m) typed (c, size, whole) (d, size', whole') =
      let same = sized_unique n m c d size whole size' whole' in
      (ap len same.0, same.1)
  spells_unique (i32 n) (i32 m) typed sa sb =
      let same = fixed_unique (from_le_bytes w32) n m 4 sa sb in
      (ap i32 same.0, same.1)
  spells_unique (varint n) (i64 m) typed sa sb = absurd (omega arith)
  spells_unique (varint n) (len m) typed sa sb = absurd (omega arith)
  spells_unique (varint n) (i32 m) typed sa sb = absurd (omega arith)
  spells_unique (i64 n) (varint m) typed sa sb = absurd (omega arith)
  spells_unique (i64 n) (len m) typed sa sb = absurd (omega arith)
  spells_unique (i64 n) (i32 m) typed sa sb = absurd (omega arith)
  spells_unique (len n) (varint m) typed sa sb = absurd (omega arith)
  spells_unique (len n) (i64 m) typed sa sb = absurd (omega arith)
  spells_unique (len n) (i32 m) typed sa sb = absurd (omega arith)
  spells_unique (i32 n) (varint m) typed sa sb = absurd (omega arith)
  spells_unique (i32 n) (i64 m) typed sa sb = absurd (omega arith)
  spells_unique (i32 n) (len m) typed sa sb = absurd (omega arith)

-- ---- what a fault says at each wire type

-- a text that ends before its size
pub record ShortLen (bytes : List ℕ) (e : WireError) : Type 0 where
  pub size : ℕ
  pub rest : List ℕ
  pub starts : StartsVarint bytes size rest
  pub short : length rest < size
  pub is : e ≡ Truncated

module _ (w : ℕ) (bytes : List ℕ) (e : WireError) where
  at_varint : w ≡ 0 → FailsPayload w bytes e → FailsVarint bytes e
  at_varint typed (unknown n0 n1 n2 n5 is) = absurd (n0 typed)
  at_varint typed (no_varint w0 fails) = fails
  at_varint typed (short_i64 w1 short is) = absurd (omega arith)
  at_varint typed (no_size w2 fails) = absurd (omega arith)
  at_varint typed (short_len w2 n rest starts short is) = absurd (omega arith)
  at_varint typed (short_i32 w5 short is) = absurd (omega arith)

  at_i64 : w ≡ 1 → FailsPayload w bytes e → (length bytes < 8) × (e ≡ Truncated)
  at_i64 typed (unknown n0 n1 n2 n5 is) = absurd (n1 typed)
  at_i64 typed (no_varint w0 fails) = absurd (omega arith)
  at_i64 typed (short_i64 w1 short is) = (short, is)
  at_i64 typed (no_size w2 fails) = absurd (omega arith)
  at_i64 typed (short_len w2 n rest starts short is) = absurd (omega arith)
  at_i64 typed (short_i32 w5 short is) = absurd (omega arith)

  at_len : w ≡ 2 → FailsPayload w bytes e → FailsVarint bytes e ⊎ ShortLen bytes e
  at_len typed (unknown n0 n1 n2 n5 is) = absurd (n2 typed)
  at_len typed (no_varint w0 fails) = absurd (omega arith)
  at_len typed (short_i64 w1 short is) = absurd (omega arith)
  at_len typed (no_size w2 fails) = inl fails
  at_len typed (short_len w2 n rest starts short is) =
      inr (record { size = n; rest = rest; starts = starts; short = short; is = is })
  at_len typed (short_i32 w5 short is) = absurd (omega arith)

  at_i32 : w ≡ 5 → FailsPayload w bytes e → (length bytes < 4) × (e ≡ Truncated)
  at_i32 typed (unknown n0 n1 n2 n5 is) = absurd (n5 typed)
  at_i32 typed (no_varint w0 fails) = absurd (omega arith)
  at_i32 typed (short_i64 w1 short is) = absurd (omega arith)
  at_i32 typed (no_size w2 fails) = absurd (omega arith)
  at_i32 typed (short_len w2 n rest starts short is) = absurd (omega arith)
  at_i32 typed (short_i32 w5 short is) = (short, is)

  at_none : w ≢ 0 → w ≢ 1 → w ≢ 2 → w ≢ 5 → FailsPayload w bytes e → e ≡ BadWireType
  at_none n0 n1 n2 n5 (unknown m0 m1 m2 m5 is) = is
  at_none n0 n1 n2 n5 (no_varint w0 fails) = absurd (n0 w0)
  at_none n0 n1 n2 n5 (short_i64 w1 short is) = absurd (n1 w1)
  at_none n0 n1 n2 n5 (no_size w2 fails) = absurd (n2 w2)
  at_none n0 n1 n2 n5 (short_len w2 n rest starts short is) = absurd (n2 w2)
  at_none n0 n1 n2 n5 (short_i32 w5 short is) = absurd (n5 w5)

-- ---- never both, and one fault

module _ (bytes r a : List ℕ) (e : WireError) (whole : bytes ≡ a ++ r) where
  fixed_not_short : (k : ℕ) → length a ≡ k → length bytes < k → ⊥
  fixed_not_short k long short = omega (arith, ap length whole, length-append a r)

  len_disjoint : (n c : List ℕ) → SpellsVarint c (length n) → a ≡ c ++ n
      → FailsVarint bytes e ⊎ ShortLen bytes e → ⊥
  len_disjoint n c size parts fault =
      let joined : bytes ≡ c ++ (n ++ r) = whole ∙ rw parts (append_assoc c n r) in
      let starts : StartsVarint bytes (length n) (n ++ r) =
      record { spelling = c; spells = size; whole = joined } in
      elim fault [
        | inl fails ↦ varint_disjoint bytes (length n) (n ++ r) e starts fails
        | inr cut ↦
            let same = varint_unique bytes (length n) cut.size (n ++ r) cut.rest starts cut.starts in
            omega (arith, same.0, ap length same.1, length-append n r, cut.short)
      ]

  spelt_disjoint : (w : ℕ) (p : Payload) → tag_bits (wire_type_of p) ≡ w → SpellsPayload a p
      → FailsPayload w bytes e → ⊥
  spelt_disjoint w (varint n) typed s fails =
      varint_disjoint bytes n r e (record { spelling = a; spells = s; whole = whole })
      (at_varint w bytes e (sym typed) fails)
  spelt_disjoint w (i64 n) typed s fails =
      fixed_not_short 8 s.0 (at_i64 w bytes e (sym typed) fails).0
  spelt_disjoint w (len n) typed (c, size, parts) fails =
      len_disjoint n c size parts (at_len w bytes e (sym typed) fails)
  spelt_disjoint w (i32 n) typed s fails = fixed_not_short 4 s.0 (at_i32 w bytes e (sym typed) fails).0

module _ (w : ℕ) (bytes : List ℕ) where
  pub payload_unique : (p q : Payload) (r s : List ℕ) → StartsPayload w bytes p r
      → StartsPayload w bytes q s → (p ≡ q) × (r ≡ s)
  payload_unique p q r s a b =
      spells_unique a.spelling b.spelling r s (sym a.whole ∙ b.whole) p q (a.typed ∙ sym b.typed)
      a.spells b.spells

  pub payload_disjoint : (p : Payload) (r : List ℕ) (e : WireError) → StartsPayload w bytes p r
      → FailsPayload w bytes e → ⊥
  payload_disjoint p r e a = spelt_disjoint bytes r a.spelling e a.whole w p a.typed a.spells

  cut_fault_unique : (e d : WireError) → FailsVarint bytes e → FailsVarint bytes d ⊎ ShortLen bytes d
      → e ≡ d
  cut_fault_unique e d fails (inl fails') = varint_fault_unique bytes e d fails fails'
  cut_fault_unique e d fails (inr cut) =
      absurd (varint_disjoint bytes cut.size cut.rest e cut.starts fails)

  short_fault_unique : (n : ℕ) (rest : List ℕ) (d : WireError) → StartsVarint bytes n rest
      → FailsVarint bytes d ⊎ ShortLen bytes d → Truncated ≡ d
  short_fault_unique n rest d starts (inl fails) =
      absurd (varint_disjoint bytes n rest d starts fails)
  short_fault_unique n rest d starts (inr cut) = sym cut.is

  pub payload_fault_unique : (e d : WireError) → FailsPayload w bytes e → FailsPayload w bytes d
      → e ≡ d
  payload_fault_unique e d (unknown n0 n1 n2 n5 is) fails = is
      ∙ sym (at_none w bytes d n0 n1 n2 n5 fails)
  payload_fault_unique e d (no_varint w0 f) fails =
      varint_fault_unique bytes e d f (at_varint w bytes d w0 fails)
  payload_fault_unique e d (short_i64 w1 short is) fails = is ∙ sym (at_i64 w bytes d w1 fails).1
  payload_fault_unique e d (no_size w2 f) fails = cut_fault_unique e d f (at_len w bytes d w2 fails)
  payload_fault_unique e d (short_len w2 n rest starts short is) fails =
      is ∙ short_fault_unique n rest d starts (at_len w bytes d w2 fails)
  payload_fault_unique e d (short_i32 w5 short is) fails = is ∙ sym (at_i32 w bytes d w5 fails).1

-- ---- always a reading or a fault

-- what reading a payload comes to
abbrev pub PayloadRead : ℕ → List ℕ → Type 0
PayloadRead w bytes =
    ((p : Payload) × (rest : List ℕ) × StartsPayload w bytes p rest)
    ⊎ ((e : WireError) × FailsPayload w bytes e)

module _ (w : ℕ) (bytes : List ℕ) where
  varint_payload : w ≡ 0 → PayloadRead w bytes
  varint_payload typed =
      elim (varint_total bytes) [
        | inl (n, rest, starts) ↦
            inl (
              varint n,
              rest,
              record {
                typed = sym typed;
                spelling = starts.spelling;
                spells = starts.spells;
                whole = starts.whole;
              },
            )
        | inr (e, fails) ↦ inr (e, no_varint typed fails)
      ]

  i64_payload : w ≡ 1 → PayloadRead w bytes
  i64_payload typed =
      elim (cases_lt (length bytes) 8) [
        | inl short ↦ inr (Truncated, short_i64 typed short refl)
        | inr long ↦
            inl (
              i64 (from_le_bytes w64 (take 8 bytes)),
              drop 8 bytes,
              record {
                typed = sym typed;
                spelling = take 8 bytes;
                spells = (length-take-le 8 bytes long, refl);
                whole = sym (take-append-drop 8 bytes);
              },
            )
      ]

  pub len_starts : (n : ℕ) (rest : List ℕ) → w ≡ 2 → StartsVarint bytes n rest → n ≤ length rest
      → StartsPayload w bytes (len (take n rest)) (drop n rest)
  len_starts n rest typed starts long =
      let size : length (take n rest) ≡ n = length-take-le n rest long in
      let parts : rest ≡ take n rest ++ drop n rest = sym (take-append-drop n rest) in
      record {
        typed = sym typed;
        spelling = starts.spelling ++ take n rest;
        spells = (starts.spelling, rw size starts.spells, refl);
        whole =
            starts.whole ∙ ap (λ (t : List ℕ). starts.spelling ++ t) parts
            ∙ sym (append_assoc starts.spelling (take n rest) (drop n rest));
      }

  len_payload : w ≡ 2 → PayloadRead w bytes
  len_payload typed =
      elim (varint_total bytes) [
        | inl (n, rest, starts) ↦ elim (cases_lt (length rest) n) [
          | inl short ↦ inr (Truncated, short_len typed n rest starts short refl)
          | inr long ↦ inl (len (take n rest), drop n rest, len_starts n rest typed starts long)
        ]
        | inr (e, fails) ↦ inr (e, no_size typed fails)
      ]

  i32_payload : w ≡ 5 → PayloadRead w bytes
  i32_payload typed =
      elim (cases_lt (length bytes) 4) [
        | inl short ↦ inr (Truncated, short_i32 typed short refl)
        | inr long ↦
            inl (
              i32 (from_le_bytes w32 (take 4 bytes)),
              drop 4 bytes,
              record {
                typed = sym typed;
                spelling = take 4 bytes;
                spells = (length-take-le 4 bytes long, refl);
                whole = sym (take-append-drop 4 bytes);
              },
            )
      ]

  pub payload_total : PayloadRead w bytes
  payload_total =
      elim (cases_eq w 0) [
        | inl w0 ↦ varint_payload w0
        | inr n0 ↦ elim (cases_eq w 1) [
          | inl w1 ↦ i64_payload w1
          | inr n1 ↦ elim (cases_eq w 2) [
            | inl w2 ↦ len_payload w2
            | inr n2 ↦ elim (cases_eq w 5) [
              | inl w5 ↦ i32_payload w5
              | inr n5 ↦ inr (BadWireType, unknown n0 n1 n2 n5 refl)
            ]
          ]
        ]
      ]
