-- The values of a message's fields: Protocol Buffers encoding guide, "Base 128 Varints", "Signed
-- Integers", "Last One Wins" and "Repeated Elements".
use Rattle.std.specs.Prelude.{◌≡◌, ℕ, ℤ, ◌==◌, ◌%◌, ◌^◌, Bool, not, cond, Option, Some, None, List, [], ◌∷◌, unwrap_or}
use Rattle.std.specs.Int.{cast_signed, w32, w64}
use Rattle.std.specs.List.{filter_map, last_or, list_any}
use Rattle.std.specs.Str.{IsUtf8}
use Rattle.proto_wire.specs.Fields.{Payload, varint, len, Wire}
use Rattle.proto_wire.specs.Keys.{len_key, varint_key, is_known}
use Rattle.proto_wire.specs.declared.refusal.Refusal.{Refusal}
use Rattle.proto_wire.specs.declared.refusal.Refusal.TheVariants.{BadText}

-- the number of a VARINT payload; none for any other payload
abbrev pub varint_in : Payload → Option ℕ
varint_in (varint n) = Some n
varint_in _ = None

-- the bytes of a LEN payload; none for any other payload
abbrev pub len_in : Payload → Option (List ℕ)
len_in (len bytes) = Some bytes
len_in _ = None

-- the values of the VARINT fields of this number, in order
abbrev pub varints : ℕ → List Wire → List ℕ
varints k fs = filter_map (λ f. cond (f.number == k) (varint_in f.payload) None) fs

-- the payloads of the LEN fields of this number, in order
abbrev pub payloads : ℕ → List Wire → List (List ℕ)
payloads k fs = filter_map (λ f. cond (f.number == k) (len_in f.payload) None) fs

-- the last element of a list: if a singular scalar occurs several times, the last occurrence counts
abbrev pub last_of : {A : Type 0} → List A → Option A
last_of xs = last_or None xs

-- whether the fields have a LEN or VARINT field of this number
abbrev pub has_field : ℕ → List Wire → Bool
has_field k fs = list_any (is_known (len_key k ∷ varint_key k ∷ [])) fs

-- the last LEN payload of this number; empty if there is none
abbrev pub bytes_at : ℕ → List Wire → List ℕ
bytes_at k fs = unwrap_or (last_of (payloads k fs)) []

-- the bytes are not UTF-8
abbrev pub Utf8Fault : List ℕ → Refusal → Type 0
Utf8Fault bytes e = ¬ IsUtf8 bytes × (e ≡ BadText)

-- the last string of this number is not UTF-8
abbrev pub StringFault : ℕ → List Wire → Refusal → Type 0
StringFault k fs e = Utf8Fault (bytes_at k fs) e

-- the last varint of this number; 0 if there is none
abbrev pub varint_at : ℕ → List Wire → ℕ
varint_at k fs = unwrap_or (last_of (varints k fs)) 0

-- the bool of this number: every value but 0 is true
abbrev pub bool_at : ℕ → List Wire → Bool
bool_at k fs = not (varint_at k fs == 0)

-- the uint32 of this number, or an enum: the low 32 bits
abbrev pub uint32_at : ℕ → List Wire → ℕ
uint32_at k fs = varint_at k fs % 2 ^ 32

-- the int32 of this number: the same bits in two's complement
abbrev pub int32_at : ℕ → List Wire → ℤ
int32_at k fs = cast_signed w32 (uint32_at k fs)

-- the int64 of this number: all bits in two's complement
abbrev pub int64_at : ℕ → List Wire → ℤ
int64_at k fs = cast_signed w64 (varint_at k fs)
