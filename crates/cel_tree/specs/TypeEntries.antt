-- Entries of the type map, level by level: `google/api/expr/v1alpha1/checked.proto`, Type.
use Rattle.std.specs.Prelude.{◌≡◌, ◌≢◌, ◌⊎◌, ℕ, zero, suc, ◌==◌, List, [], ◌∷◌, Option, Some, None}
use Rattle.std.specs.Map.{lookup, keys_of}
use Rattle.proto_wire.specs.Fields.{Wire}
use Rattle.proto_wire.specs.Keys.{len_key, varint_key}
use Rattle.proto_wire.specs.Values.{payloads, uint32_at}
use Rattle.proto_wire.specs.declared.key.Key.{Key}
use Rattle.proto_wire.specs.declared.refusal.Refusal.{Refusal}
use Rattle.proto_wire.specs.declared.refusal.Refusal.TheVariants.{OutOfRange, TooLarge}
use Rattle.cel_value.specs.Types.{ValueType, bool_type, int_type, uint_type, text_type, bytes_type, list_type, map_type, key_type_of}
use Rattle.cel_value.specs.declared.cel_type.KeyType.{KeyType}
use Rattle.cel_tree.specs.Checked.{CelTypeEntry, of_type, dyn_type, unsupported_type}
use Rattle.proto_wire.specs.Reading.{Reads, ReadFault, Never, OneofSays, OneofFault, IsPart, StandsIn}
use Rattle.cel_tree.specs.declared.kinds.TypeKind.{TypeKind}
use Rattle.cel_tree.specs.declared.kinds.TypeKind.TheVariants as kinds

-- ---- list and map types

-- a list of items of this type; unsupported if the entry is not a type
abbrev pub list_entry : CelTypeEntry → CelTypeEntry
list_entry (of_type t) = of_type (list_type t)
list_entry _ = unsupported_type

-- a map with keys and values of these types; unsupported if no key has the first type
abbrev pub map_with : Option KeyType → ValueType → CelTypeEntry
map_with (Some k) t = of_type (map_type k t)
map_with None t = unsupported_type

-- a map with keys and values of the two entries; unsupported if one is not a type, or no key has
-- the first
abbrev pub map_entry : CelTypeEntry → CelTypeEntry → CelTypeEntry
map_entry (of_type k) (of_type t) = map_with (key_type_of k) t
map_entry _ _ = unsupported_type

-- the primitive types by number: BOOL, INT64, UINT64, DOUBLE, STRING, BYTES
abbrev pub primitives : List (ℕ × CelTypeEntry)
primitives = (1, of_type bool_type) ∷ (2, of_type int_type) ∷ (3, of_type uint_type)
    ∷ (4, unsupported_type) ∷ (5, of_type text_type) ∷ (6, of_type bytes_type) ∷ []

-- the primitive type of a number
abbrev pub primitive_of : ℕ → Option CelTypeEntry
primitive_of n = lookup (λ k. k == n) primitives

-- ---- one message; the messages of the types inside are not read

-- a type without types inside, or a list or a map with the parts of the types inside
pub data TypeNode : Type 0 where
  plain : CelTypeEntry → TypeNode
  list_of : (elem : List (List ℕ)) → TypeNode
  map_of : (key value : List (List ℕ)) → TypeNode

-- the fields of a Type
abbrev pub type_field : record { dyn : ℕ; null : ℕ; primitive : ℕ; wrapper : ℕ; well_known : ℕ; list_type : ℕ; map_type : ℕ; function : ℕ; message_type : ℕ; type_param : ℕ }
type_field = record { dyn = 1; null = 2; primitive = 3; wrapper = 4; well_known = 5; list_type = 6; map_type = 7; function = 8; message_type = 9; type_param = 10 }

-- the members of the oneof
abbrev pub type_kinds : List (Key × Option TypeKind)
type_kinds = (len_key type_field.dyn, Some kinds.Dyn) ∷ (varint_key type_field.null, None)
    ∷ (varint_key type_field.primitive, Some kinds.Primitive)
    ∷ (varint_key type_field.wrapper, None) ∷ (varint_key type_field.well_known, None)
    ∷ (len_key type_field.list_type, Some kinds.List)
    ∷ (len_key type_field.map_type, Some kinds.Map) ∷ (len_key type_field.function, None)
    ∷ (len_key type_field.message_type, None) ∷ (len_key type_field.type_param, None) ∷ []

-- all fields: each is a member
abbrev pub type_keys : List Key
type_keys = keys_of type_kinds

-- the field of a ListType
abbrev pub list_type_field : record { elem_type : ℕ }
list_type_field = record { elem_type = 1 }

-- all fields of a ListType
abbrev pub list_type_keys : List Key
list_type_keys = len_key list_type_field.elem_type ∷ []

-- the fields of a MapType
abbrev pub map_type_field : record { key_type : ℕ; value_type : ℕ }
map_type_field = record { key_type = 1; value_type = 2 }

-- all fields of a MapType
abbrev pub map_type_keys : List Key
map_type_keys = len_key map_type_field.key_type ∷ len_key map_type_field.value_type ∷ []

-- the fields of a ListType mean the list
abbrev pub ListTypeSays : List Wire → TypeNode → Type 0
ListTypeSays fs node = (payloads list_type_field.elem_type fs ≢ [])
    × (node ≡ list_of (payloads list_type_field.elem_type fs))

-- a ListType lacks its elem_type
abbrev pub ListTypeWrong : List Wire → Refusal → Type 0
ListTypeWrong fs e = (payloads list_type_field.elem_type fs ≡ []) × (e ≡ OutOfRange)

-- the fields of a MapType mean the map
abbrev pub MapTypeSays : List Wire → TypeNode → Type 0
MapTypeSays fs node = (payloads map_type_field.key_type fs ≢ [])
    × (payloads map_type_field.value_type fs ≢ [])
    × (node ≡ map_of (payloads map_type_field.key_type fs) (payloads map_type_field.value_type fs))

-- a MapType lacks its key_type or its value_type
abbrev pub MapTypeWrong : List Wire → Refusal → Type 0
MapTypeWrong fs e = ((payloads map_type_field.key_type fs ≡ [])
    ⊎ (payloads map_type_field.value_type fs ≡ [])) × (e ≡ OutOfRange)

-- the run of the member, which has this number, means the type
abbrev pub TypeSays : TypeKind → ℕ → List Wire → TypeNode → Type 0
TypeSays kinds.Dyn n run node = node ≡ plain dyn_type
TypeSays kinds.Primitive n run node =
    (entry : CelTypeEntry) × (primitive_of (uint32_at n run) ≡ Some entry) × (node ≡ plain entry)
TypeSays kinds.List n run node = Reads list_type_keys ListTypeSays (payloads n run) node
TypeSays kinds.Map n run node = Reads map_type_keys MapTypeSays (payloads n run) node

-- a fault of the member's run
abbrev pub TypeFails : TypeKind → ℕ → List Wire → Refusal → Type 0
TypeFails kinds.Primitive n run e = (primitive_of (uint32_at n run) ≡ None) × (e ≡ OutOfRange)
TypeFails kinds.List n run e =
    ReadFault list_type_keys Never ListTypeWrong (payloads n run) e
TypeFails kinds.Map n run e = ReadFault map_type_keys Never MapTypeWrong (payloads n run) e
TypeFails _ n run e = ⊥

-- the unsupported type: of a Type without a member, or with another member, whose payload is not
-- read
abbrev pub IsOfOtherKind : TypeNode → Type 0
IsOfOtherKind node = node ≡ plain unsupported_type

-- the parts merge to a Type; the types inside may be anything
abbrev pub IsTypeNode : List (List ℕ) → TypeNode → Type 0
IsTypeNode = Reads type_keys (OneofSays type_kinds IsOfOtherKind TypeSays)

-- a fault of a Type's own message
abbrev pub TypeNodeFault : List (List ℕ) → Refusal → Type 0
TypeNodeFault = ReadFault type_keys Never (OneofFault type_kinds Never TypeFails)

-- ---- the types inside a Type's message, even if the message has other faults

-- the inner type is in the fields of a member's message
abbrev pub InTypeKind : TypeKind → List Wire → List (List ℕ) → Type 0
InTypeKind kinds.List fs inner = IsPart list_type_field.elem_type fs inner
InTypeKind kinds.Map fs inner =
    IsPart map_type_field.key_type fs inner ⊎ IsPart map_type_field.value_type fs inner
InTypeKind _ fs inner = ⊥

-- the inner one is a type inside a Type
abbrev pub IsInner : List (List ℕ) → List (List ℕ) → Type 0
IsInner = StandsIn type_kinds InTypeKind

-- ---- all levels; `Below` is the types one level down

-- the type, whose types inside are in `Below`, is this entry
abbrev pub MeansEntry : (List (List ℕ) → CelTypeEntry → Type 0) → TypeNode → CelTypeEntry → Type 0
MeansEntry Below (plain own) entry = entry ≡ own
MeansEntry Below (list_of elem) entry =
    (item : CelTypeEntry) × Below elem item × (entry ≡ list_entry item)
MeansEntry Below (map_of key value) entry =
    (k v : CelTypeEntry) × Below key k × Below value v × (entry ≡ map_entry k v)

-- the parts merge to a Type of at most `depth` levels, which means this entry
abbrev pub IsTypeEntry : ℕ → List (List ℕ) → CelTypeEntry → Type 0
IsTypeEntry zero parts entry = ⊥
IsTypeEntry (suc depth) parts entry =
    (node : TypeNode) × IsTypeNode parts node × MeansEntry (IsTypeEntry depth) node entry

-- a fault of a Type's own message, or of a type inside; several faults are possible at once
pub data TypeLevelFault (Below : List (List ℕ) → Refusal → Type 0) (parts : List (List ℕ))
    (e : Refusal) : Type 0 where
  in_type : TypeNodeFault parts e → TypeLevelFault Below parts e
  in_inner : (inner : List (List ℕ)) → IsInner parts inner → Below inner e
      → TypeLevelFault Below parts e

-- a fault of a Type that may have `depth` levels; below the last level any type is too deep,
-- whatever its bytes are
abbrev pub TypeEntryFault : ℕ → List (List ℕ) → Refusal → Type 0
TypeEntryFault zero parts e = e ≡ TooLarge
TypeEntryFault (suc depth) parts e = TypeLevelFault (TypeEntryFault depth) parts e
