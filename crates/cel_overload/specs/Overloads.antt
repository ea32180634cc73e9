-- The table of functions and overloads: CEL language definition, "List of Standard Definitions".
use Rattle.std.specs.Prelude.{◌≡◌, ℕ, Bool, true, List, [], ◌∷◌, Some, None}
use Rattle.cel_value.specs.Types.{ValueType, bool_type, int_type, uint_type, text_type, list_type, map_type, type_of_key}
use Rattle.cel_value.specs.declared.cel_type.KeyType.{KeyType}
use Rattle.cel_ops.specs.Conversions.{conversion_type, converted_type}
use Rattle.cel_ops.specs.Typed.{IsJoined, IsOrdered, IsSized}
use Rattle.cel_ops.specs.declared.arithmetic.ArithmeticOp.TheVariants.{Add}
use Rattle.cel_ops.specs.declared.comparison.CompareOp.{CompareOp}
use Rattle.cel_ops.specs.declared.comparison.CompareOp.TheVariants.{Equal, NotEqual}
use Rattle.cel_ops.specs.declared.conversion.Conversion.{Conversion}
use Rattle.cel_overload.specs.Functions.{function_named, may_take}
use Rattle.cel_overload.specs.declared.function.Function.{Function}
use Rattle.cel_overload.specs.declared.function.Function.TheVariants as functions
use Rattle.cel_overload.specs.declared.overload.Overload.{Overload}
use Rattle.cel_ops.specs.declared.operation.Operation.{Operation}
use Rattle.cel_ops.specs.declared.operation.Operation.TheVariants as operations
use Rattle.cel_overload.specs.declared.overload.Overload.TheVariants as overloads
use Rattle.cel_overload.specs.declared.overload.OverloadFault.{OverloadFault}
use Rattle.cel_overload.specs.declared.overload.OverloadFault.TheVariants.{UnknownName, NoOverload}

-- the function to which a conversion belongs
abbrev pub conversion_function : Conversion → Function
conversion_function Conversion.UintToInt = functions.ToInt
conversion_function Conversion.IntToUint = functions.ToUint
conversion_function Conversion.IntToText = functions.ToText
conversion_function Conversion.UintToText = functions.ToText
conversion_function Conversion.BytesToText = functions.ToText
conversion_function Conversion.TextToBytes = functions.ToBytes

-- the function to which an operation belongs
abbrev pub operation_function : Operation → Function
operation_function operations.And = functions.And
operation_function operations.Or = functions.Or
operation_function operations.Not = functions.Not
operation_function operations.NotStrictlyFalse = functions.NotStrictlyFalse
operation_function (operations.Compare op) = functions.Compare op
operation_function (operations.Arithmetic op) = functions.Arithmetic op
operation_function operations.Concat = functions.Arithmetic Add
operation_function operations.Negate = functions.Negate
operation_function operations.ListIndex = functions.Index
operation_function operations.MapIndex = functions.Index
operation_function operations.InList = functions.In
operation_function operations.InMap = functions.In
operation_function operations.Size = functions.Size
operation_function (operations.TestText test) = functions.TestText test
operation_function (operations.Convert kind) = conversion_function kind

-- the function to which an overload belongs
abbrev pub function_of : Overload → Function
function_of overloads.Conditional = functions.Conditional
function_of (overloads.Operate op) = operation_function op

-- the type has arithmetic: int and uint
abbrev pub IsNumber : ValueType → Type 0
IsNumber int_type = Unit {0}
IsNumber uint_type = Unit {0}
IsNumber _ = ⊥

-- values of the type can be compared so: equality is for all types, an order for ordered ones
abbrev pub IsCompared : CompareOp → ValueType → Type 0
IsCompared Equal t = Unit {0}
IsCompared NotEqual t = Unit {0}
IsCompared _ t = IsOrdered t

-- the operation takes operands of these types, a target first, and gives a result of this type
abbrev pub Operates : Operation → List ValueType → ValueType → Type 0
Operates operations.And ts r = (ts ≡ bool_type ∷ bool_type ∷ []) × (r ≡ bool_type)
Operates operations.Or ts r = (ts ≡ bool_type ∷ bool_type ∷ []) × (r ≡ bool_type)
Operates operations.Not ts r = (ts ≡ bool_type ∷ []) × (r ≡ bool_type)
Operates operations.NotStrictlyFalse ts r = (ts ≡ bool_type ∷ []) × (r ≡ bool_type)
Operates (operations.Compare op) ts r =
    (t : ValueType) × IsCompared op t × (ts ≡ t ∷ t ∷ []) × (r ≡ bool_type)
Operates (operations.Arithmetic op) ts r = IsNumber r × (ts ≡ r ∷ r ∷ [])
Operates operations.Concat ts r = IsJoined r × (ts ≡ r ∷ r ∷ [])
Operates operations.Negate ts r = (ts ≡ int_type ∷ []) × (r ≡ int_type)
Operates operations.ListIndex ts r = ts ≡ list_type r ∷ int_type ∷ []
Operates operations.MapIndex ts r = (k : KeyType) × (ts ≡ map_type k r ∷ type_of_key k ∷ [])
Operates operations.InList ts r = (t : ValueType) × (ts ≡ t ∷ list_type t ∷ []) × (r ≡ bool_type)
Operates operations.InMap ts r =
    (k : KeyType) × (t : ValueType) × (ts ≡ type_of_key k ∷ map_type k t ∷ []) × (r ≡ bool_type)
Operates operations.Size ts r = (t : ValueType) × IsSized t × (ts ≡ t ∷ []) × (r ≡ int_type)
Operates (operations.TestText test) ts r = (ts ≡ text_type ∷ text_type ∷ []) × (r ≡ bool_type)
Operates (operations.Convert kind) ts r = (ts ≡ converted_type kind ∷ []) × (r ≡ conversion_type kind)

-- the overload takes operands of these types, and gives a result of this type
abbrev pub Takes : Overload → List ValueType → ValueType → Type 0
Takes overloads.Conditional ts r = ts ≡ bool_type ∷ r ∷ r ∷ []
Takes (overloads.Operate op) ts r = Operates op ts r

-- a call of the function on operands of these types, with or without a target, is this overload,
-- with a result of this type
pub record IsOverload (f : Function) (target : Bool) (ts : List ValueType) (o : Overload) (r : ValueType) : Type 0 where
  pub function : function_of o ≡ f
  pub shape : may_take f target ≡ true
  pub operands : Takes o ts r

-- the same for a call by the function's name
abbrev pub IsCall : List ℕ → Bool → List ValueType → Overload → ValueType → Type 0
IsCall name target ts o r =
    (f : Function) × (function_named name ≡ Some f) × IsOverload f target ts o r

-- why a call has no overload
abbrev pub CallFault : List ℕ → Bool → List ValueType → OverloadFault → Type 0
CallFault name target ts UnknownName = function_named name ≡ None
CallFault name target ts NoOverload = (f : Function) × (function_named name ≡ Some f)
    × ((o : Overload) (r : ValueType) → IsOverload f target ts o r → ⊥)
