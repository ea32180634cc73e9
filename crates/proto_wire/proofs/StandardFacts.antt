-- Bytes and numbers that the Protocol Buffers encoding guide gives, so that a wrong rule in the
-- specs does not check.
use Rattle.std.proofs.Common.{◌≡◌, ℕ, ◌+◌, ◌*◌, ◌%◌, ◌<◌, ◌≤◌, length, inl, inr, List, [], ◌∷◌, ◌++◌, codes, refl, sym, arith, negsuc}
use Rattle.std.proofs.lemmas.List.{append-nil}
use Rattle.proto_wire.specs.Varint.{SpellsVarint, FailsVarint, too_long, unfinished}
use Rattle.proto_wire.specs.Fields.{varint, i64, len, i32, Payload, Wire, SpellsField, StartsField, Fields, Broken, bad_number, bad_payload, no_varint, unknown}
use Rattle.proto_wire.specs.Keys.{len_key}
use Rattle.proto_wire.specs.Merge.{Merges}
use Rattle.proto_wire.specs.Values.{int64_at}
use Rattle.proto_wire.specs.Messages.{MessageFault, not_whole, not_known}
use Rattle.proto_wire.specs.declared.fault.WireError.TheVariants.{Truncated, LongVarint, BadNumber, BadWireType}
use Rattle.proto_wire.specs.declared.refusal.Refusal.TheVariants.{BadWire, UnknownField}

abbrev pub field : ℕ → Payload → Wire
field n p = record { number = n; payload = p }

-- bytes that spell one field are the message of it
one_field : (bytes : List ℕ) (f : Wire) → SpellsField bytes f → Fields bytes (f ∷ [])
one_field bytes f spells =
    ([], record { spelling = bytes; spells = spells; whole = sym (append-nil bytes) }, refl)

-- a number below 128 is one byte
pub one_byte : (b : ℕ) → b < 128 → SpellsVarint (b ∷ []) b
one_byte b small =
    record { groups = small; short = omega arith; value = omega arith; fits = omega arith }

-- a LEN field whose tag and size are one byte each, and a rest
pub len_starts : (k : ℕ) (bytes rest : List ℕ) → 1 ≤ k → 8 * k + 2 < 128 → length bytes < 128
    → StartsField ((8 * k + 2) ∷ length bytes ∷ (bytes ++ rest)) (field k (len bytes)) rest
len_starts k bytes rest some small short = record {
  spelling = (8 * k + 2) ∷ length bytes ∷ bytes;
  spells = record {
    tag = (8 * k + 2) ∷ [];
    behind = length bytes ∷ bytes;
    numbered = (some, omega arith);
    spells_tag = one_byte (8 * k + 2) small;
    spells_payload = (length bytes ∷ [], one_byte _ short, refl);
    whole = refl;
  };
  whole = refl;
}

-- a VARINT field whose tag and number are one byte each, and a rest
pub varint_starts : (k n : ℕ) (rest : List ℕ) → 1 ≤ k → 8 * k + 0 < 128 → n < 128
    → StartsField ((8 * k + 0) ∷ n ∷ rest) (field k (varint n)) rest
varint_starts k n rest some small short = record {
  spelling = (8 * k + 0) ∷ n ∷ [];
  spells = record {
    tag = (8 * k + 0) ∷ [];
    behind = n ∷ [];
    numbered = (some, omega arith);
    spells_tag = one_byte (8 * k + 0) small;
    spells_payload = one_byte n short;
    whole = refl;
  };
  whole = refl;
}

-- a message that stands in one payload
pub merged : (bytes : List ℕ) (fs : List Wire) → Fields bytes fs → Merges (bytes ∷ []) fs
merged bytes fs whole = (fs, [], whole, refl, sym (append-nil fs))

-- two bytes, the first with its top bit set
two_bytes : (b c : ℕ) → 128 ≤ b → c < 128 → SpellsVarint (b ∷ c ∷ []) (b % 128 + 128 * c)
two_bytes b c more last =
    record { groups = (more, last); short = omega arith; value = omega arith; fits = omega arith }

-- ---- "Base 128 Varints"

abbrev pub minus_one : List ℕ
minus_one = 255 ∷ 255 ∷ 255 ∷ 255 ∷ 255 ∷ 255 ∷ 255 ∷ 255 ∷ 255 ∷ 1 ∷ []

abbrev pub too_many_bits : List ℕ
too_many_bits = 128 ∷ 128 ∷ 128 ∷ 128 ∷ 128 ∷ 128 ∷ 128 ∷ 128 ∷ 128 ∷ 2 ∷ []

pub record AreVarints : Type 0 where
  pub one : SpellsVarint (1 ∷ []) 1
  pub one_fifty : SpellsVarint (150 ∷ 1 ∷ []) 150
  pub three_hundred : SpellsVarint (172 ∷ 2 ∷ []) 300
  pub all_ones : SpellsVarint minus_one 18446744073709551615
  pub longer : SpellsVarint (172 ∷ 130 ∷ 0 ∷ []) 300
  pub above : FailsVarint too_many_bits LongVarint

pub varints : AreVarints
varints = record {
  one = one_byte 1 (omega arith);
  one_fifty = two_bytes 150 1 (omega arith) (omega arith);
  three_hundred = two_bytes 172 2 (omega arith) (omega arith);
  all_ones =
      record {
        groups =
            let m : 128 ≤ 255 = omega arith in
            (m, (m, (m, (m, (m, (m, (m, (m, (m, omega arith)))))))));
        short = omega arith;
        value = refl;
        fits = omega arith;
      };
  longer =
      record {
        groups = (omega arith, (omega arith, omega arith));
        short = omega arith;
        value = refl;
        fits = omega arith;
      };
  above =
      let m : 128 ≤ 128 = omega arith in
      too_long (omega arith) (m, (m, (m, (m, (m, (m, (m, (m, (m, tt))))))))) (omega arith) refl;
}

-- ---- "Message Structure", "Length-Delimited Records", "Submessages", "Repeated Elements"

pub record AreMessages : Type 0 where
  -- field 1 is the varint 150
  pub one_fifty : Fields (8 ∷ 150 ∷ 1 ∷ []) (field 1 (varint 150) ∷ [])
  -- field 2 is the string "testing"
  pub testing : Fields (18 ∷ 7 ∷ codes "testing") (field 2 (len (codes "testing")) ∷ [])
  -- field 3 is a message whose field 1 is 150
  pub inside : Fields (26 ∷ 3 ∷ 8 ∷ 150 ∷ 1 ∷ []) (field 3 (len (8 ∷ 150 ∷ 1 ∷ [])) ∷ [])
  -- field 6 is the packed numbers 3, 270 and 86942
  pub packed : Fields (50 ∷ 6 ∷ 3 ∷ 142 ∷ 2 ∷ 158 ∷ 167 ∷ 5 ∷ [])
      (field 6 (len (3 ∷ 142 ∷ 2 ∷ 158 ∷ 167 ∷ 5 ∷ [])) ∷ [])
  pub packed_first : SpellsVarint (3 ∷ []) 3
  pub packed_second : SpellsVarint (142 ∷ 2 ∷ []) 270
  pub packed_last : SpellsVarint (158 ∷ 167 ∷ 5 ∷ []) 86942
  -- field 1 is an int64 of -1
  pub negative : Fields (8 ∷ minus_one) (field 1 (varint 18446744073709551615) ∷ [])
  pub negative_is : int64_at 1 (field 1 (varint 18446744073709551615) ∷ []) ≡ negsuc 0
  -- a fixed64 and a fixed32 have their lowest byte first
  pub wide : Fields (9 ∷ 1 ∷ 2 ∷ 0 ∷ 0 ∷ 0 ∷ 0 ∷ 0 ∷ 0 ∷ []) (field 1 (i64 513) ∷ [])
  pub narrow : Fields (13 ∷ 1 ∷ 2 ∷ 0 ∷ 0 ∷ []) (field 1 (i32 513) ∷ [])

-- a field whose tag and size are one byte each
one_len : (k : ℕ) (bytes : List ℕ) → 1 ≤ k → 8 * k + 2 < 128
    → length bytes < 128
    → Fields ((8 * k + 2) ∷ length bytes ∷ bytes) (field k (len bytes) ∷ [])
one_len k bytes some small short =
    one_field ((8 * k + 2) ∷ length bytes ∷ bytes) (field k (len bytes))
    (record {
      tag = (8 * k + 2) ∷ [];
      behind = length bytes ∷ bytes;
      numbered = (some, omega arith);
      spells_tag = one_byte (8 * k + 2) small;
      spells_payload =
          (length bytes ∷ [], one_byte _ short, refl);
      whole = refl;
    })

pub messages : AreMessages
messages = record {
  one_fifty =
      one_field (8 ∷ 150 ∷ 1 ∷ []) (field 1 (varint 150)) (record {
        tag = 8 ∷ [];
        behind = 150 ∷ 1 ∷ [];
        numbered = (omega arith, omega arith);
        spells_tag = one_byte 8 (omega arith);
        spells_payload = varints.one_fifty;
        whole = refl;
      });
  testing = one_len 2 (codes "testing") (omega arith) (omega arith) (omega arith);
  inside = one_len 3 (8 ∷ 150 ∷ 1 ∷ []) (omega arith) (omega arith) (omega arith);
  packed =
      one_len 6 (3 ∷ 142 ∷ 2 ∷ 158 ∷ 167 ∷ 5 ∷ []) (omega arith) (omega arith) (omega arith);
  packed_first = one_byte 3 (omega arith);
  packed_second =
      record {
        groups = (omega arith, omega arith);
        short = omega arith;
        value = refl;
        fits = omega arith;
      };
  packed_last =
      record {
        groups = (omega arith, (omega arith, omega arith));
        short = omega arith;
        value = refl;
        fits = omega arith;
      };
  negative =
      one_field (8 ∷ minus_one) (field 1 (varint 18446744073709551615)) (record {
        tag = 8 ∷ [];
        behind = minus_one;
        numbered = (omega arith, omega arith);
        spells_tag = one_byte 8 (omega arith);
        spells_payload = varints.all_ones;
        whole = refl;
      });
  negative_is = refl;
  wide =
      one_field (9 ∷ 1 ∷ 2 ∷ 0 ∷ 0 ∷ 0 ∷ 0 ∷ 0 ∷ 0 ∷ []) (field 1 (i64 513)) (record {
        tag = 9 ∷ [];
        behind = 1 ∷ 2 ∷ 0 ∷ 0 ∷ 0 ∷ 0 ∷ 0 ∷ 0 ∷ [];
        numbered = (omega arith, omega arith);
        spells_tag = one_byte 9 (omega arith);
        spells_payload = (refl, refl);
        whole = refl;
      });
  narrow =
      one_field (13 ∷ 1 ∷ 2 ∷ 0 ∷ 0 ∷ []) (field 1 (i32 513)) (record {
        tag = 13 ∷ [];
        behind = 1 ∷ 2 ∷ 0 ∷ 0 ∷ [];
        numbered = (omega arith, omega arith);
        spells_tag = one_byte 13 (omega arith);
        spells_payload = (refl, refl);
        whole = refl;
      });
}

-- ---- bytes that break

pub record AreBroken : Type 0 where
  -- a tag of field 0
  pub zero_number : Broken (0 ∷ []) [] BadNumber
  -- a tag of field 1 with the wire type SGROUP
  pub group : Broken (11 ∷ []) [] BadWireType
  -- of two payloads of a message, one that is cut short and one with a field 5: both faults are
  -- there
  pub cut : MessageFault (len_key 1 ∷ []) ((8 ∷ []) ∷ (40 ∷ 1 ∷ []) ∷ []) BadWire
  pub not_known_beside : MessageFault (len_key 1 ∷ []) ((8 ∷ []) ∷ (40 ∷ 1 ∷ []) ∷ []) UnknownField

pub broken : AreBroken
broken = record {
  zero_number = record {
    rest = 0 ∷ [];
    after = refl;
    more = λ e. cc;
    fails =
        bad_number 0 []
        (record { spelling = 0 ∷ []; spells = one_byte 0 (omega arith); whole = refl })
        (λ k. omega (arith, k.0)) refl;
  };
  group = record {
    rest = 11 ∷ [];
    after = refl;
    more = λ e. cc;
    fails =
        bad_payload 11 []
        (record { spelling = 11 ∷ []; spells = one_byte 11 (omega arith); whole = refl })
        (omega arith, omega arith)
        (unknown (λ e. omega arith) (λ e. omega arith) (λ e. omega arith) (λ e. omega arith) refl);
  };
  cut =
      not_whole
      (inl (
        [],
        Truncated,
        record {
          rest = 8 ∷ [];
          after = refl;
          more = λ e. cc;
          fails =
              bad_payload 8 []
              (record { spelling = 8 ∷ []; spells = one_byte 8 (omega arith); whole = refl })
              (omega arith, omega arith)
              (no_varint refl (unfinished (omega arith) tt refl));
        },
      ))
      refl;
  not_known_beside =
      not_known
      (inr (inl (
        field 5 (varint 1) ∷ [],
        one_field (40 ∷ 1 ∷ []) (field 5 (varint 1)) (record {
          tag = 40 ∷ [];
          behind = 1 ∷ [];
          numbered = (omega arith, omega arith);
          spells_tag = one_byte 40 (omega arith);
          spells_payload = varints.one;
          whole = refl;
        }),
        refl,
      )))
      refl;
}
