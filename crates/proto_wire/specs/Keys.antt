-- Which fields a message knows: Protocol Buffers encoding guide, "Message Structure". A field is
-- known by its number and its wire type.
use Rattle.std.specs.Prelude.{◌≡◌, ℕ, ◌==◌, ◌&&◌, Bool, false, cond, Option, None, Some, List, [], ◌∷◌, IsTrue}
use Rattle.std.specs.List.{list_any, list_all}
use Rattle.proto_wire.specs.Fields.{Wire, wire_type_of, tag_bits}
use Rattle.proto_wire.specs.declared.key.Key.{Key}
use Rattle.proto_wire.specs.declared.field.WireType.{WireType}

-- a LEN field of this number: a string, bytes, or a message
abbrev pub len_key : ℕ → Key
len_key n = record { number = n; wire_type = WireType.Len }

-- a VARINT field of this number
abbrev pub varint_key : ℕ → Key
varint_key n = record { number = n; wire_type = WireType.Varint }

-- the field has the key's number and wire type
abbrev pub has_key : Key → Wire → Bool
has_key k f =
    (f.number == k.number) && (tag_bits (wire_type_of f.payload) == tag_bits k.wire_type)

-- the field has one of the keys; a known number with another wire type has none of them
abbrev pub is_known : List Key → Wire → Bool
is_known keys f = list_any (λ k. has_key k f) keys

-- each field has one of the keys
abbrev pub AllKnown : List Key → List Wire → Type 0
AllKnown keys fs = IsTrue (list_all (is_known keys) fs)

-- some field has none of the keys
abbrev pub SomeUnknown : List Key → List Wire → Type 0
SomeUnknown keys fs = list_all (is_known keys) fs ≡ false

-- the number of the first field that has none of the keys
abbrev pub first_unknown : List Key → List Wire → Option ℕ
first_unknown keys [] = None
first_unknown keys (f ∷ fs) = cond (is_known keys f) (first_unknown keys fs) (Some f.number)
