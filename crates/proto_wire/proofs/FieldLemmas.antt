-- One field on lists alone: one reading, one fault, never both, and always one of the two.
use Rattle.std.proofs.Common.{◌≡◌, ℕ, ◌+◌, ◌*◌, ◌/◌, ◌%◌, ◌<◌, ◌≤◌, ◌⊎◌, List, [], ◌∷◌, ◌++◌, length, refl, sym, ap, ap₂, ◌∙◌, arith, inl, inr, append_assoc}
use Rattle.std.proofs.lemmas.Bool.{cases_lt}
use Rattle.std.proofs.lemmas.List.{length-append}
use Rattle.proto_wire.specs.Varint.{IsGroups, StartsVarint}
use Rattle.proto_wire.specs.Fields.{Payload, varint, i64, len, i32, Wire, wire_type_of, tag_bits, IsFieldNumber, StartsField, FailsField, no_tag, bad_number, bad_payload}
use Rattle.proto_wire.specs.private.Payload.{StartsPayload}
use Rattle.proto_wire.specs.declared.fault.WireError.{WireError}
use Rattle.proto_wire.specs.declared.fault.WireError.TheVariants.{BadNumber}
use Rattle.proto_wire.proofs.VarintLemmas.{varint_unique, varint_disjoint, varint_fault_unique, varint_total}
use Rattle.proto_wire.proofs.PayloadLemmas.{payload_unique, payload_disjoint, payload_fault_unique, payload_total}

tag_bits_small : (p : Payload) → tag_bits (wire_type_of p) < 8
tag_bits_small (varint n) = omega arith
tag_bits_small (i64 n) = omega arith
tag_bits_small (len n) = omega arith
tag_bits_small (i32 n) = omega arith

abbrev make : ℕ → Payload → Wire
make n p = record { number = n; payload = p }

-- a field is a tag's varint, and then a payload of the wire type that the tag gives
pub record Parts (bytes : List ℕ) (f : Wire) (rest : List ℕ) : Type 0 where
  pub behind : List ℕ
  pub tag : StartsVarint bytes (8 * f.number + tag_bits (wire_type_of f.payload)) behind
  pub payload : StartsPayload (tag_bits (wire_type_of f.payload)) behind f.payload rest

pub field_parts : (bytes : List ℕ) (f : Wire) (rest : List ℕ) → StartsField bytes f rest
    → Parts bytes f rest
field_parts bytes f rest starts =
    let s = starts.spells in
    record {
      behind = s.behind ++ rest;
      tag = record {
        spelling = s.tag;
        spells = s.spells_tag;
        whole = starts.whole ∙ ap (λ (t : List ℕ). t ++ rest) s.whole
            ∙ append_assoc s.tag s.behind rest;
      };
      payload = record {
        typed = refl;
        spelling = s.behind;
        spells = s.spells_payload;
        whole = refl;
      };
    }

-- what is read of a tag and then of a payload is a field
pub field_starts : (bytes : List ℕ) (n : ℕ) (behind : List ℕ) (p : Payload) (rest : List ℕ)
    → StartsVarint bytes n behind
    → IsFieldNumber (n / 8) → StartsPayload (n % 8) behind p rest
    → StartsField bytes (make (n / 8) p) rest
field_starts bytes n behind p rest tag numbered payload =
    let typed = payload.typed in
    let e : 8 * (n / 8) + tag_bits (wire_type_of p) ≡ n = omega arith in
    record {
      spelling = tag.spelling ++ payload.spelling;
      spells = record {
        tag = tag.spelling;
        behind = payload.spelling;
        numbered = numbered;
        spells_tag = rw e tag.spells;
        spells_payload = payload.spells;
        whole = refl;
      };
      whole = tag.whole ∙ ap (λ (t : List ℕ). tag.spelling ++ t) payload.whole
          ∙ sym (append_assoc tag.spelling payload.spelling rest);
    }

pub field_unique : (bytes : List ℕ) (f g : Wire) (r s : List ℕ) → StartsField bytes f r
    → StartsField bytes g s → (f ≡ g) × (r ≡ s)
field_unique bytes f g r s a b =
    let x = field_parts bytes f r a in
    let y = field_parts bytes g s b in
    let tags = varint_unique bytes _ _ x.behind y.behind x.tag y.tag in
    let tag = tags.0 in
    let low = tag_bits_small f.payload in
    let low' = tag_bits_small g.payload in
    let number : f.number ≡ g.number = omega arith in
    let typed : tag_bits (wire_type_of g.payload) ≡ tag_bits (wire_type_of f.payload) =
    omega arith in
    let payload : StartsPayload (tag_bits (wire_type_of f.payload)) x.behind g.payload s =
    rw (tags.1, ← typed) y.payload in
    let payloads =
    payload_unique (tag_bits (wire_type_of f.payload)) x.behind f.payload g.payload r s x.payload
    payload in
    (ap₂ make number payloads.0, payloads.1)

pub field_disjoint : (bytes : List ℕ) (f : Wire) (r : List ℕ) (e : WireError)
    → StartsField bytes f r → FailsField bytes e → ⊥
field_disjoint bytes f r e a (no_tag fails) =
    let x = field_parts bytes f r a in
    varint_disjoint bytes _ x.behind e x.tag fails
field_disjoint bytes f r e a (bad_number n rest starts bad is) =
    let x = field_parts bytes f r a in
    let tags = varint_unique bytes _ n x.behind rest x.tag starts in
    let tag = tags.0 in
    let low = tag_bits_small f.payload in
    let number : f.number ≡ n / 8 = omega arith in
    bad (rw (← number) a.spells.numbered)
field_disjoint bytes f r e a (bad_payload n rest starts numbered fails) =
    let x = field_parts bytes f r a in
    let tags = varint_unique bytes _ n x.behind rest x.tag starts in
    let tag = tags.0 in
    let low = tag_bits_small f.payload in
    let typed : tag_bits (wire_type_of f.payload) ≡ n % 8 = omega arith in
    payload_disjoint (tag_bits (wire_type_of f.payload)) x.behind f.payload r e x.payload
    (rw (tags.1, typed) fails)

pub field_fault_unique : (bytes : List ℕ) (e d : WireError) → FailsField bytes e → FailsField bytes d
    → e ≡ d
field_fault_unique bytes e d (no_tag fails) (no_tag fails') = varint_fault_unique bytes e d fails fails'
field_fault_unique bytes e d (no_tag fails) (bad_number n rest starts bad is) =
    absurd (varint_disjoint bytes n rest e starts fails)
field_fault_unique bytes e d (no_tag fails) (bad_payload n rest starts numbered fails') =
    absurd (varint_disjoint bytes n rest e starts fails)
field_fault_unique bytes e d (bad_number n rest starts bad is) (no_tag fails') =
    absurd (varint_disjoint bytes n rest d starts fails')
field_fault_unique bytes e d (bad_number n rest starts bad is) (bad_number m rest' starts' bad' is') =
    cc
field_fault_unique bytes e d (bad_number n rest starts bad is)
    (bad_payload m rest' starts' numbered fails') =
    let same = varint_unique bytes n m rest rest' starts starts' in
    absurd (bad (rw same.0 numbered))
field_fault_unique bytes e d (bad_payload n rest starts numbered fails) (no_tag fails') =
    absurd (varint_disjoint bytes n rest d starts fails')
field_fault_unique bytes e d (bad_payload n rest starts numbered fails)
    (bad_number m rest' starts' bad' is') =
    let same = varint_unique bytes n m rest rest' starts starts' in
    absurd (bad' (rw (← same.0) numbered))
field_fault_unique bytes e d (bad_payload n rest starts numbered fails)
    (bad_payload m rest' starts' numbered' fails') =
    let same = varint_unique bytes n m rest rest' starts starts' in
    payload_fault_unique (n % 8) rest e d fails (rw (same.0, same.1) fails')

-- what reading a field comes to
abbrev pub FieldRead : List ℕ → Type 0
FieldRead bytes =
    ((f : Wire) × (rest : List ℕ) × StartsField bytes f rest)
    ⊎ ((e : WireError) × FailsField bytes e)

payload_reads : (bytes : List ℕ) (n : ℕ) (behind : List ℕ) → StartsVarint bytes n behind
    → IsFieldNumber (n / 8) → FieldRead bytes
payload_reads bytes n behind tag numbered =
    elim (payload_total (n % 8) behind) [
      | inl (p, rest, payload) ↦
          inl (make (n / 8) p, rest, field_starts bytes n behind p rest tag numbered payload)
      | inr (e, fails) ↦ inr (e, bad_payload n behind tag numbered fails)
    ]

pub field_total : (bytes : List ℕ) → FieldRead bytes
field_total bytes =
    elim (varint_total bytes) [
      | inl (n, behind, tag) ↦ elim (cases_lt (n / 8) 1) [
        | inl low ↦ inr (BadNumber, bad_number n behind tag (λ k. omega (arith, k.0)) refl)
        | inr some ↦ elim (cases_lt 536870911 (n / 8)) [
          | inl high ↦ inr (BadNumber, bad_number n behind tag (λ k. omega (arith, k.1)) refl)
          | inr within ↦ payload_reads bytes n behind tag (some, within)
        ]
      ]
      | inr (e, fails) ↦ inr (e, no_tag fails)
    ]

pub some_group : (a : List ℕ) → IsGroups a → 1 ≤ length a
some_group [] groups = absurd groups
some_group (x ∷ a) groups = omega arith

-- a field takes at least a byte
pub field_shorter : (bytes : List ℕ) (f : Wire) (rest : List ℕ) → StartsField bytes f rest
    → length rest < length bytes
field_shorter bytes f rest a =
    let s = a.spells in
    let tag = some_group s.tag s.spells_tag.groups in
    let whole : length bytes ≡ length (s.tag ++ s.behind) + length rest =
    ap length a.whole ∙ length-append a.spelling rest
    ∙ ap (λ (t : List ℕ). length t + length rest) s.whole in
    omega (arith, length-append s.tag s.behind)

-- bytes behind a field stay behind it
pub field_extends : (bytes : List ℕ) (f : Wire) (rest more : List ℕ) → StartsField bytes f rest
    → StartsField (bytes ++ more) f (rest ++ more)
field_extends bytes f rest more a = record {
  spelling = a.spelling;
  spells = a.spells;
  whole = ap (λ (t : List ℕ). t ++ more) a.whole ∙ append_assoc a.spelling rest more;
}
