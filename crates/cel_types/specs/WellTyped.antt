-- Elaborated expressions whose types are right: CEL language definition, "Type Checking".
use Rattle.std.specs.Prelude.{◌≡◌, List, [], ◌∷◌, ◌++◌, Some}
use Rattle.cel_value.specs.Types.{HasType, ValueType, bool_type, list_type, map_type, type_of_key}
use Rattle.cel_value.specs.declared.cel_type.KeyType.{KeyType}
use Rattle.cel_value.specs.declared.cel_type.KeyType.TheVariants as keys
use Rattle.cel_ops.specs.Attributes.{attribute_type}
use Rattle.cel_overload.specs.Overloads.{Takes}
use Rattle.cel_types.specs.Elaborated.{TypedTree, typed_constant, typed_local, typed_attribute, typed_field, typed_has, typed_call, typed_list, typed_map, typed_loop, TypedTrees, no_typed, typed, kind, kinds}
use Rattle.cel_types.specs.TypedMeaning.{local_at}
use Rattle.cel_types.specs.Typing.{IsOver, constant_type}

-- all of the types are this one
abbrev pub AreAll : ValueType → List ValueType → Type 0
AreAll t [] = Unit {0}
AreAll t (s ∷ ss) = (s ≡ t) × AreAll t ss

-- the types of keys and values in turn: each key has the first type, and each value the second
abbrev pub AreKeyed : KeyType → ValueType → List ValueType → Type 0
AreKeyed k t [] = Unit {0}
AreKeyed k t (s ∷ []) = ⊥
AreKeyed k t (j ∷ s ∷ ss) = (j ≡ type_of_key k) × (s ≡ t) × AreKeyed k t ss

abbrev mutual
  -- with locals of these types, the innermost first, each node has the type that its rule gives
  pub IsWellTyped : List ValueType → TypedTree → Type 0
  IsWellTyped ks (typed_constant t v) = (constant_type v ≡ Some t) × HasType v t
  IsWellTyped ks (typed_local t outside) = local_at outside ks ≡ Some t
  IsWellTyped ks (typed_attribute t a) = t ≡ attribute_type a
  IsWellTyped ks (typed_field t on name) =
      IsWellTyped ks on × (kind on ≡ map_type keys.Text t)
  IsWellTyped ks (typed_has t on name) =
      IsWellTyped ks on × ((s : ValueType) × (kind on ≡ map_type keys.Text s)) × (t ≡ bool_type)
  IsWellTyped ks (typed_call t o operands) =
      AreWellTyped ks operands × Takes o (kinds operands) t
  IsWellTyped ks (typed_list t elements) =
      AreWellTyped ks elements × ((s : ValueType) × (t ≡ list_type s) × AreAll s (kinds elements))
  IsWellTyped ks (typed_map t pairs) = AreWellTyped ks pairs
      × ((k : KeyType) × (s : ValueType) × (t ≡ map_type k s) × AreKeyed k s (kinds pairs))
  IsWellTyped ks (typed_loop t vars range init condition step result) =
      IsWellTyped ks range × IsWellTyped ks init
      × ((each : List ValueType) × IsOver vars (kind range) each
      × IsWellTyped (each ++ kind init ∷ ks) condition × (kind condition ≡ bool_type)
      × IsWellTyped (each ++ kind init ∷ ks) step × (kind step ≡ kind init))
      × IsWellTyped (kind init ∷ ks) result × (t ≡ kind result)

  -- each of the expressions is well typed
  pub AreWellTyped : List ValueType → TypedTrees → Type 0
  AreWellTyped ks no_typed = Unit {0}
  AreWellTyped ks (typed e es) = IsWellTyped ks e × AreWellTyped ks es
