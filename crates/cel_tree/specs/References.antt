-- Entries of the reference map: `google/api/expr/v1alpha1/checked.proto`, Reference.
use Rattle.std.specs.Prelude.{◌≡◌, ℕ, List, [], ◌∷◌, Contains}
use Rattle.std.specs.List.{AllByRecursion}
use Rattle.std.specs.Str.{IsUtf8}
use Rattle.proto_wire.specs.Fields.{Wire}
use Rattle.proto_wire.specs.Keys.{len_key}
use Rattle.proto_wire.specs.Values.{bytes_at, payloads, Utf8Fault, StringFault}
use Rattle.proto_wire.specs.declared.key.Key.{Key}
use Rattle.proto_wire.specs.declared.refusal.Refusal.{Refusal}
use Rattle.cel_value.specs.Texts.{points_of}
use Rattle.cel_tree.specs.Checked.{CelReference}
use Rattle.cel_tree.specs.Constants.{IsConstant, ConstantFault}
use Rattle.proto_wire.specs.Reading.{Reads, ReadFault, Never, IsOptional, OptionalFault}

-- the fields of a Reference; its value is a constant
abbrev pub reference_field : record { name : ℕ; overload_id : ℕ; value : ℕ }
reference_field = record { name = 1; overload_id = 3; value = 4 }

-- all fields
abbrev pub reference_keys : List Key
reference_keys = len_key reference_field.name ∷ len_key reference_field.overload_id
    ∷ len_key reference_field.value ∷ []

-- the fields mean the reference; the ids of overloads have to be UTF-8, and are not kept
pub record ReferenceSays (fs : List Wire) (r : CelReference) : Type 0 where
  pub readable : IsUtf8 (bytes_at reference_field.name fs)
  pub ids : AllByRecursion IsUtf8 (payloads reference_field.overload_id fs)
  pub named : r.name ≡ points_of (bytes_at reference_field.name fs)
  pub valued : IsOptional IsConstant reference_field.value fs r.value

-- a fault of a field's value
pub data ReferenceWrong (fs : List Wire) (e : Refusal) : Type 0 where
  bad_name : StringFault reference_field.name fs e → ReferenceWrong fs e
  bad_id : (id : List ℕ) → Contains (payloads reference_field.overload_id fs) id → Utf8Fault id e
      → ReferenceWrong fs e
  in_value : OptionalFault ConstantFault reference_field.value fs e → ReferenceWrong fs e

-- the parts merge to this Reference
abbrev pub IsReference : List (List ℕ) → CelReference → Type 0
IsReference = Reads reference_keys ReferenceSays

-- a fault of a Reference
abbrev pub ReferenceFault : List (List ℕ) → Refusal → Type 0
ReferenceFault = ReadFault reference_keys Never ReferenceWrong
