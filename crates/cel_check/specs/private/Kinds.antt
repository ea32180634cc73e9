-- Types of expressions, as the code compares them.
use Rattle.std.specs.Prelude.{◌≡◌, ◌≢◌, ◌⊎◌, ◌&&◌, ◌++◌, ℕ, Bool, true, false, List, [], ◌∷◌, Option, Some, None}
use Rattle.cel_overload.specs.Functions.{function_named}
use Rattle.cel_overload.specs.Overloads.{CallFault}
use Rattle.cel_overload.specs.declared.overload.OverloadFault.TheVariants as calls
use Rattle.cel_tree.specs.Checked.{CelTypeEntry, dyn_type, of_type, unsupported_type}
use Rattle.cel_value.specs.Types.{ValueType, bool_type, list_type, map_type, type_eq, type_of_key, type_view}
use Rattle.cel_value.specs.declared.cel_type.CelType.{CelType}
use Rattle.cel_value.specs.declared.cel_type.KeyType.{KeyType}
use Rattle.cel_types.specs.Elaborated.{TypedTree, typed_field, typed_has}
use Rattle.cel_types.specs.Typing.{IsList, IsMap, IsOver}
use Rattle.cel_types.specs.TypingFaults.{EmptyFault}
use Rattle.cel_check.specs.declared.checker.kinds.TurnTypes.{TurnTypes}
use Rattle.cel_types.specs.declared.typed.Variables.{Variables}
use Rattle.proto_wire.specs.declared.refusal.Refusal.{Refusal}
use Rattle.proto_wire.specs.declared.refusal.Refusal.TheVariants.{NeedsType, NoOverload, Unsupported, UnknownName}

-- the types are the first and the second in turn
abbrev pub in_turn : ValueType → ValueType → List ValueType → Bool
in_turn s t [] = true
in_turn s t (u ∷ us) = type_eq u s && in_turn t s us

-- the type of a second variable, if there is one
abbrev pub second_type : Option CelType → List ValueType
second_type None = []
second_type (Some t) = type_view t ∷ []

-- the types of a turn's variables, the innermost first
abbrev pub each_view : TurnTypes → List ValueType
each_view each = second_type each.second ++ type_view each.first ∷ []

-- a range of this type has no elements
abbrev pub NoElements : Variables → ValueType → Refusal → Type 0
NoElements vars t e = ((each : List ValueType) → IsOver vars t each → ⊥) × (e ≡ NoOverload)

-- the entry gives no type, or an unsupported one
abbrev pub NotGiven : Option CelTypeEntry → Refusal → Type 0
NotGiven entry e = (((entry ≡ None) ⊎ (entry ≡ Some dyn_type)) × (e ≡ NeedsType))
    ⊎ ((entry ≡ Some unsupported_type) × (e ≡ Unsupported))

-- the entry of an empty literal has a fault, or gives an unsupported type
abbrev pub NotStated : Option CelTypeEntry → (ValueType → Type 0) → Refusal → Type 0
NotStated entry IsKind e = EmptyFault entry IsKind e
    ⊎ ((entry ≡ Some unsupported_type) × (e ≡ Unsupported))

-- a list literal with elements of these types has the type
abbrev pub IsListOf : Option CelTypeEntry → List ValueType → ValueType → Type 0
IsListOf entry [] t = (entry ≡ Some (of_type t)) × IsList t
IsListOf entry (s ∷ ss) t = (in_turn s s ss ≡ true) × (t ≡ list_type s)

-- the fault of a list literal with elements of these types
abbrev pub NoListOf : Option CelTypeEntry → List ValueType → Refusal → Type 0
NoListOf entry [] e = NotStated entry IsList e
NoListOf entry (s ∷ ss) e = (in_turn s s ss ≡ false) × (e ≡ NoOverload)

-- a map literal with keys and values of these types, in turn, has the type. One type alone does not
-- occur, since each key has a value
abbrev pub IsMapOf : Option CelTypeEntry → List ValueType → ValueType → Type 0
IsMapOf entry [] t = (entry ≡ Some (of_type t)) × IsMap t
IsMapOf entry (r ∷ []) t = (entry ≡ Some (of_type t)) × IsMap t
IsMapOf entry (r ∷ s ∷ ss) t = (in_turn r s ss ≡ true) × (k : KeyType) × (r ≡ type_of_key k)
    × (t ≡ map_type k s)

-- the fault of a map literal with keys and values of these types, in turn
abbrev pub NoMapOf : Option CelTypeEntry → List ValueType → Refusal → Type 0
NoMapOf entry [] e = NotStated entry IsMap e
NoMapOf entry (r ∷ []) e = NotStated entry IsMap e
NoMapOf entry (r ∷ s ∷ ss) e =
    ((in_turn r s ss ≡ false) ⊎ ((k : KeyType) → r ≢ type_of_key k)) × (e ≡ NoOverload)

-- the fault of a call on operands of these types
abbrev pub NoCall : List ℕ → Bool → List ValueType → Refusal → Type 0
NoCall name on ts e = ((function_named name ≡ None) × (e ≡ UnknownName))
    ⊎ (CallFault name on ts calls.NoOverload × (e ≡ NoOverload))

-- a map's value at a name, or, in a test, whether the map has the name
abbrev pub field_of : Bool → ValueType → TypedTree → List ℕ → TypedTree
field_of true t on name = typed_has bool_type on name
field_of false t on name = typed_field t on name

-- its type
abbrev pub field_type : Bool → ValueType → ValueType
field_type true t = bool_type
field_type false t = t
