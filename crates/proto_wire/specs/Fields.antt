-- A message's bytes as the list of its fields: Protocol Buffers encoding guide, "Message Structure"
-- and "Length-Delimited Records".
use Rattle.std.specs.Prelude.{◌≡◌, ◌≢◌, ℕ, ◌+◌, ◌*◌, ◌/◌, ◌%◌, ◌<◌, ◌≤◌, List, [], ◌∷◌, ◌++◌, length}
use Rattle.std.specs.Int.{from_le_bytes, w32, w64}
use Rattle.proto_wire.specs.Varint.{SpellsVarint, StartsVarint, FailsVarint}
use Rattle.proto_wire.specs.declared.fault.WireError.{WireError}
use Rattle.proto_wire.specs.declared.fault.WireError.TheVariants.{Truncated, BadNumber, BadWireType}
use Rattle.proto_wire.specs.declared.field.Payload as coded
use Rattle.proto_wire.specs.declared.field.Payload.TheVariants as payloads
use Rattle.proto_wire.specs.declared.field.Field.{Field}
use Rattle.proto_wire.specs.declared.field.WireType.{WireType}

-- what a field holds, by its wire type: VARINT, I64, LEN, I32
pub data Payload : Type 0 where
  varint : ℕ → Payload
  i64 : ℕ → Payload
  len : List ℕ → Payload
  i32 : ℕ → Payload

-- a field of a message: its number and what it holds
pub record Wire : Type 0 where
  pub number : ℕ
  pub payload : Payload

-- the wire type of a payload
abbrev pub wire_type_of : Payload → WireType
wire_type_of (varint n) = WireType.Varint
wire_type_of (i64 n) = WireType.I64
wire_type_of (len bytes) = WireType.Len
wire_type_of (i32 n) = WireType.I32

-- the number of a wire type, in the low three bits of a tag
abbrev pub tag_bits : WireType → ℕ
tag_bits WireType.Varint = 0
tag_bits WireType.I64 = 1
tag_bits WireType.Len = 2
tag_bits WireType.I32 = 5

-- field numbers are 1 to 2^29 - 1
abbrev pub IsFieldNumber : ℕ → Type 0
IsFieldNumber n = (1 ≤ n) × (n ≤ 536870911)

-- the bytes of a payload, as they follow its tag; an I64 and an I32 have their lowest byte first
abbrev pub SpellsPayload : List ℕ → Payload → Type 0
SpellsPayload bytes (varint n) = SpellsVarint bytes n
SpellsPayload bytes (i64 n) = (length bytes ≡ 8) × (n ≡ from_le_bytes w64 bytes)
SpellsPayload bytes (len inner) =
    (size : List ℕ) × SpellsVarint size (length inner) × (bytes ≡ size ++ inner)
SpellsPayload bytes (i32 n) = (length bytes ≡ 4) × (n ≡ from_le_bytes w32 bytes)

-- the bytes of a field: its tag, and then its payload
pub record SpellsField (bytes : List ℕ) (f : Wire) : Type 0 where
  pub tag : List ℕ
  pub behind : List ℕ
  pub numbered : IsFieldNumber f.number
  pub spells_tag : SpellsVarint tag (8 * f.number + tag_bits (wire_type_of f.payload))
  pub spells_payload : SpellsPayload behind f.payload
  pub whole : bytes ≡ tag ++ behind

-- the bytes are a spelling of the field, and then the rest
pub record StartsField (bytes : List ℕ) (f : Wire) (rest : List ℕ) : Type 0 where
  pub spelling : List ℕ
  pub spells : SpellsField spelling f
  pub whole : bytes ≡ spelling ++ rest

-- the bytes are spellings of the fields, in order, and then the rest
abbrev pub After : List ℕ → List Wire → List ℕ → Type 0
After bytes [] rest = bytes ≡ rest
After bytes (f ∷ fs) rest = (behind : List ℕ) × StartsField bytes f behind × After behind fs rest

-- the bytes are spellings of the fields, in order
abbrev pub Fields : List ℕ → List Wire → Type 0
Fields bytes fs = After bytes fs []

-- the bytes begin with no payload of the wire type, or no such wire type exists
pub data FailsPayload (wire_type : ℕ) (bytes : List ℕ) (e : WireError) : Type 0 where
  unknown : wire_type ≢ 0 → wire_type ≢ 1 → wire_type ≢ 2 → wire_type ≢ 5 → e ≡ BadWireType
      → FailsPayload wire_type bytes e
  no_varint : wire_type ≡ 0 → FailsVarint bytes e → FailsPayload wire_type bytes e
  short_i64 : wire_type ≡ 1 → length bytes < 8 → e ≡ Truncated → FailsPayload wire_type bytes e
  no_size : wire_type ≡ 2 → FailsVarint bytes e → FailsPayload wire_type bytes e
  short_len : wire_type ≡ 2 → (n : ℕ) (rest : List ℕ) → StartsVarint bytes n rest → length rest < n
      → e ≡ Truncated → FailsPayload wire_type bytes e
  short_i32 : wire_type ≡ 5 → length bytes < 4 → e ≡ Truncated → FailsPayload wire_type bytes e

-- the bytes begin with no field; the fault is the first of: no tag, a bad number, a bad wire type,
-- no payload
pub data FailsField (bytes : List ℕ) (e : WireError) : Type 0 where
  no_tag : FailsVarint bytes e → FailsField bytes e
  bad_number : (n : ℕ) (rest : List ℕ) → StartsVarint bytes n rest → (IsFieldNumber (n / 8) → ⊥)
      → e ≡ BadNumber → FailsField bytes e
  bad_payload : (n : ℕ) (rest : List ℕ) → StartsVarint bytes n rest → IsFieldNumber (n / 8)
      → FailsPayload (n % 8) rest e → FailsField bytes e

-- the bytes are spellings of the fields, and then a rest that is not empty and begins with no field
pub record Broken (bytes : List ℕ) (fs : List Wire) (e : WireError) : Type 0 where
  pub rest : List ℕ
  pub after : After bytes fs rest
  pub more : rest ≢ []
  pub fails : FailsField rest e

-- the bytes are not a list of whole fields
abbrev pub IsBroken : List ℕ → Type 0
IsBroken bytes = (fs : List Wire) × (e : WireError) × Broken bytes fs e

-- the value of the code's payload, without its place in memory
abbrev pub payload_view : coded.Payload → Payload
payload_view (payloads.Varint n) = varint n
payload_view (payloads.I64 n) = i64 n
payload_view (payloads.Len bytes) = len bytes.now
payload_view (payloads.I32 n) = i32 n

-- the number and the payload of the code's field, without its place in memory
abbrev pub field_view : Field → Wire
field_view f = record { number = f.number; payload = payload_view f.payload }
