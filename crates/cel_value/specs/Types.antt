-- Types, and which values have them: CEL language definition, "Values" and "Type System".
use Rattle.std.specs.Prelude.{ℕ, ℤ, Bool, true, false, ◌&&◌, Option, Some, None, ◌<◌, ◌^◌, FitsSigned}
use Rattle.std.specs.Int.{w64}
use Rattle.cel_value.specs.Values.{CelKey, bool_key, int_key, uint_key, text_key, CelValue, bool, int, uint, text, bytes, list, map_of, CelValues, no_items, item, CelEntries, no_entries, entry, CelAnswer, value, fails}
use Rattle.cel_value.specs.Texts.{AreScalars}
use Rattle.cel_value.specs.Keys.{IsAscending}
use Rattle.cel_value.specs.declared.cel_type.KeyType.{KeyType}
use Rattle.cel_value.specs.declared.cel_type.KeyType.TheVariants as keys
use Rattle.cel_value.specs.declared.cel_type.CelType.{CelType, fold-CelType}
use Rattle.cel_value.specs.declared.cel_type.CelType.TheOpen.{CelType-F}

-- a type, with no memory in it
pub data ValueType : Type 0 where
  bool_type : ValueType
  int_type : ValueType
  uint_type : ValueType
  text_type : ValueType
  bytes_type : ValueType
  list_type : ValueType → ValueType
  map_type : KeyType → ValueType → ValueType

-- one level of a `CelType`
abbrev pub type_step : CelType-F ValueType → ValueType
type_step CelType-F.Bool = bool_type
type_step CelType-F.Int = int_type
type_step CelType-F.Uint = uint_type
type_step CelType-F.Text = text_type
type_step CelType-F.Bytes = bytes_type
type_step (CelType-F.List t) = list_type t.value
type_step (CelType-F.Map k t) = map_type k t.value

-- the type that a `CelType` means
abbrev pub type_view : CelType → ValueType
type_view = fold-CelType ValueType type_step

-- whether two types of keys are the same
abbrev pub key_type_eq : KeyType → KeyType → Bool
key_type_eq keys.Bool keys.Bool = true
key_type_eq keys.Int keys.Int = true
key_type_eq keys.Uint keys.Uint = true
key_type_eq keys.Text keys.Text = true
key_type_eq _ _ = false

-- whether two types are the same
abbrev pub type_eq : ValueType → ValueType → Bool
type_eq bool_type bool_type = true
type_eq int_type int_type = true
type_eq uint_type uint_type = true
type_eq text_type text_type = true
type_eq bytes_type bytes_type = true
type_eq (list_type s) (list_type t) = type_eq s t
type_eq (map_type j s) (map_type k t) = key_type_eq j k && type_eq s t
type_eq _ _ = false

-- the type of a key as a value
abbrev pub type_of_key : KeyType → ValueType
type_of_key keys.Bool = bool_type
type_of_key keys.Int = int_type
type_of_key keys.Uint = uint_type
type_of_key keys.Text = text_type

-- the type of keys that this type is; none if no key has the type
abbrev pub key_type_of : ValueType → Option KeyType
key_type_of bool_type = Some keys.Bool
key_type_of int_type = Some keys.Int
key_type_of uint_type = Some keys.Uint
key_type_of text_type = Some keys.Text
key_type_of _ = None

-- whether values of the type are ordered: all but lists and maps
abbrev pub is_ordered : ValueType → Bool
is_ordered (list_type t) = false
is_ordered (map_type k t) = false
is_ordered _ = true

-- the number is from -2^63 to 2^63 - 1
abbrev pub IsInt64 : ℤ → Type 0
IsInt64 i = FitsSigned w64 i

-- the number is below 2^64
abbrev pub IsUint64 : ℕ → Type 0
IsUint64 n = n < 2 ^ 64

-- the key has the type
abbrev pub KeyHasType : CelKey → KeyType → Type 0
KeyHasType (bool_key b) keys.Bool = Unit {0}
KeyHasType (int_key i) keys.Int = IsInt64 i
KeyHasType (uint_key n) keys.Uint = IsUint64 n
KeyHasType (text_key cs) keys.Text = AreScalars cs
KeyHasType _ _ = ⊥

-- each item has this property
abbrev pub EachItem : (CelValue → Type 0) → CelValues → Type 0
EachItem P no_items = Unit {0}
EachItem P (item v vs) = P v × EachItem P vs

-- each key has the first property, and each value the second
abbrev pub EachEntry : (CelKey → Type 0) → (CelValue → Type 0) → CelEntries → Type 0
EachEntry K P no_entries = Unit {0}
EachEntry K P (entry k v es) = K k × P v × EachEntry K P es

-- the type has the value, by cases on the type
abbrev pub TypeHas : ValueType → CelValue → Type 0
TypeHas bool_type (bool b) = Unit {0}
TypeHas int_type (int i) = IsInt64 i
TypeHas uint_type (uint n) = IsUint64 n
TypeHas text_type (text cs) = AreScalars cs
TypeHas bytes_type (bytes bs) = Unit {0}
TypeHas (list_type t) (list vs) = EachItem (TypeHas t) vs
TypeHas (map_type k t) (map_of es) = EachEntry (λ j. KeyHasType j k) (TypeHas t) es × IsAscending es
TypeHas _ _ = ⊥

-- the value has the type
abbrev pub HasType : CelValue → ValueType → Type 0
HasType v t = TypeHas t v

-- the answer's value has the type; an error has every type
abbrev pub AnswerHasType : CelAnswer → ValueType → Type 0
AnswerHasType (value v) t = HasType v t
AnswerHasType (fails e) t = Unit {0}
