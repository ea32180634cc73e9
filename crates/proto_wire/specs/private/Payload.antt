-- One payload, after its tag.
use Rattle.std.specs.Prelude.{◌≡◌, ℕ, List, ◌++◌}
use Rattle.proto_wire.specs.Fields.{Payload, wire_type_of, tag_bits, SpellsPayload}

-- the bytes are a payload of the wire type that a tag gives, and then the rest
pub record StartsPayload (wire_type : ℕ) (bytes : List ℕ) (p : Payload) (rest : List ℕ) : Type 0
  where
    pub typed : tag_bits (wire_type_of p) ≡ wire_type
    pub spelling : List ℕ
    pub spells : SpellsPayload spelling p
    pub whole : bytes ≡ spelling ++ rest
