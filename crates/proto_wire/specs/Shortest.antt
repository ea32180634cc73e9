-- What writers write: Protocol Buffers encoding guide, "Base 128 Varints" and "Message Structure".
-- Each number has its shortest spelling.
use Rattle.std.specs.Prelude.{◌≡◌, ℕ, ◌+◌, ◌*◌, ◌<◌, ◌≤◌, List, [], ◌∷◌, ◌++◌, length}
use Rattle.std.specs.List.{AllByRecursion}
use Rattle.proto_wire.specs.Varint.{SpellsVarint}
use Rattle.proto_wire.specs.Fields.{Payload, varint, len, Wire, wire_type_of, tag_bits, IsFieldNumber, SpellsPayload}

-- the bytes spell the number, and no shorter bytes spell it
pub record ShortestVarint (bytes : List ℕ) (n : ℕ) : Type 0 where
  pub are_bytes : AllByRecursion (λ b. b < 256) bytes
  pub spells : SpellsVarint bytes n
  pub shortest : (other : List ℕ) → SpellsVarint other n → length bytes ≤ length other

-- the bytes of a payload, after its tag
abbrev pub ShortestPayload : List ℕ → Payload → Type 0
ShortestPayload bytes (varint n) = ShortestVarint bytes n
ShortestPayload bytes (len inner) =
    (size : List ℕ) × ShortestVarint size (length inner) × (bytes ≡ size ++ inner)
ShortestPayload bytes p = AllByRecursion (λ b. b < 256) bytes × SpellsPayload bytes p

-- the bytes of a field: its tag, and then its payload
pub record ShortestField (bytes : List ℕ) (f : Wire) : Type 0 where
  pub tag : List ℕ
  pub behind : List ℕ
  pub numbered : IsFieldNumber f.number
  pub shortest_tag : ShortestVarint tag (8 * f.number + tag_bits (wire_type_of f.payload))
  pub shortest_payload : ShortestPayload behind f.payload
  pub whole : bytes ≡ tag ++ behind

-- the bytes are the fields, in order, each number in its shortest spelling
abbrev pub Shortest : List Wire → List ℕ → Type 0
Shortest [] bytes = bytes ≡ []
Shortest (f ∷ fs) bytes =
    (own rest : List ℕ) × ShortestField own f × Shortest fs rest × (bytes ≡ own ++ rest)

-- a field with this number and payload
abbrev pub field_of : ℕ → Payload → Wire
field_of n p = record { number = n; payload = p }

-- the new bytes are the old ones and then the field in its shortest spelling
abbrev pub Appends : List ℕ → Wire → List ℕ → Type 0
Appends before f after = (bytes : List ℕ) × Shortest (f ∷ []) bytes × (after ≡ before ++ bytes)
