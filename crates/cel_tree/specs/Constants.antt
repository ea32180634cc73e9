-- Constants: `google/api/expr/v1alpha1/syntax.proto`, Constant.
use Rattle.std.specs.Prelude.{◌≡◌, ℕ, List, [], ◌∷◌, Option, Some, None}
use Rattle.std.specs.Map.{keys_of}
use Rattle.std.specs.Str.{IsUtf8}
use Rattle.proto_wire.specs.Fields.{Wire}
use Rattle.proto_wire.specs.Keys.{len_key, varint_key}
use Rattle.proto_wire.specs.Values.{bool_at, int64_at, varint_at, bytes_at, StringFault}
use Rattle.proto_wire.specs.declared.field.WireType.{WireType}
use Rattle.proto_wire.specs.declared.key.Key.{Key}
use Rattle.proto_wire.specs.declared.refusal.Refusal.{Refusal}
use Rattle.cel_value.specs.Texts.{points_of}
use Rattle.cel_value.specs.Values.{CelValue, bool, int, uint, text, bytes}
use Rattle.proto_wire.specs.Reading.{Reads, ReadFault, OneofSays, Never, LacksMember, IsUnsupported, OneofFault}
use Rattle.cel_tree.specs.declared.kinds.ConstantKind.{ConstantKind}
use Rattle.cel_tree.specs.declared.kinds.ConstantKind.TheVariants as kinds

-- an I64 field of this number
abbrev pub i64_key : ℕ → Key
i64_key n = record { number = n; wire_type = WireType.I64 }

-- the fields of a Constant
abbrev pub constant_field : record { null_value : ℕ; bool_value : ℕ; int64_value : ℕ; uint64_value : ℕ; double_value : ℕ; string_value : ℕ; bytes_value : ℕ }
constant_field = record { null_value = 1; bool_value = 2; int64_value = 3; uint64_value = 4; double_value = 5; string_value = 6; bytes_value = 7 }

-- the members of the oneof
abbrev pub constants : List (Key × Option ConstantKind)
constants = (varint_key constant_field.null_value, None)
    ∷ (varint_key constant_field.bool_value, Some kinds.Bool)
    ∷ (varint_key constant_field.int64_value, Some kinds.Int)
    ∷ (varint_key constant_field.uint64_value, Some kinds.Uint)
    ∷ (i64_key constant_field.double_value, None)
    ∷ (len_key constant_field.string_value, Some kinds.Text)
    ∷ (len_key constant_field.bytes_value, Some kinds.Bytes) ∷ []

-- all fields: each is a member
abbrev pub constant_keys : List Key
constant_keys = keys_of constants

-- the run of the member, which has this number, means the value
abbrev pub ConstantSays : ConstantKind → ℕ → List Wire → CelValue → Type 0
ConstantSays kinds.Bool n run v = v ≡ bool (bool_at n run)
ConstantSays kinds.Int n run v = v ≡ int (int64_at n run)
ConstantSays kinds.Uint n run v = v ≡ uint (varint_at n run)
ConstantSays kinds.Text n run v =
    IsUtf8 (bytes_at n run) × (v ≡ text (points_of (bytes_at n run)))
ConstantSays kinds.Bytes n run v = v ≡ bytes (bytes_at n run)

-- a fault of the member's run: a text is not UTF-8
abbrev pub ConstantFails : ConstantKind → ℕ → List Wire → Refusal → Type 0
ConstantFails kinds.Text n run e = StringFault n run e
ConstantFails _ n run e = ⊥

-- the parts merge to a Constant of this value
abbrev pub IsConstant : List (List ℕ) → CelValue → Type 0
IsConstant = Reads constant_keys (OneofSays constants Never ConstantSays)

-- a fault of a Constant
abbrev pub ConstantFault : List (List ℕ) → Refusal → Type 0
ConstantFault =
    ReadFault constant_keys (LacksMember constants)
    (OneofFault constants IsUnsupported ConstantFails)
