-- How an overload is chosen, function by function.
use Rattle.std.specs.Prelude.{Bool, true, false, ◌&&◌, List, [], ◌∷◌, Option, Some, None, if◌then◌else◌}
use Rattle.cel_value.specs.Types.{ValueType, bool_type, int_type, uint_type, text_type, bytes_type, list_type, map_type, is_ordered, type_eq, type_of_key}
use Rattle.cel_ops.specs.declared.arithmetic.ArithmeticOp.{ArithmeticOp}
use Rattle.cel_ops.specs.declared.arithmetic.ArithmeticOp.TheVariants.{Add}
use Rattle.cel_ops.specs.declared.comparison.CompareOp.{CompareOp}
use Rattle.cel_ops.specs.declared.comparison.CompareOp.TheVariants.{Equal, NotEqual}
use Rattle.cel_ops.specs.declared.conversion.Conversion.TheVariants.{UintToInt, IntToUint, IntToText, UintToText, BytesToText, TextToBytes}
use Rattle.cel_overload.specs.Functions.{may_take}
use Rattle.cel_overload.specs.declared.function.Function.{Function}
use Rattle.cel_overload.specs.declared.function.Function.TheVariants as functions
use Rattle.cel_overload.specs.declared.overload.Overload.{Overload}
use Rattle.cel_ops.specs.declared.operation.Operation.TheVariants as operations
use Rattle.cel_overload.specs.declared.overload.Overload.TheVariants as overloads

-- types that overloads require, as tests

-- whether the type has arithmetic
abbrev pub is_number : ValueType → Bool
is_number int_type = true
is_number uint_type = true
is_number _ = false

-- whether values of the type can be joined
abbrev pub is_joined : ValueType → Bool
is_joined text_type = true
is_joined bytes_type = true
is_joined (list_type t) = true
is_joined _ = false

-- whether values of the type have a size
abbrev pub is_sized : ValueType → Bool
is_sized text_type = true
is_sized bytes_type = true
is_sized (list_type t) = true
is_sized (map_type k t) = true
is_sized _ = false

-- whether both are this type
abbrev pub are_both : ValueType → ValueType → ValueType → Bool
are_both s t both = type_eq s both && type_eq t both

-- an overload and the type of its result; none if there is no overload
abbrev pub Choice : Type 0
Choice = Option (Overload × ValueType)

-- the overload and its result's type, if its operands fit
abbrev pub when : Bool → Overload → ValueType → Choice
when fits o r = if fits then Some (o, r) else None

-- the choice for `string`: the text of a number, or the text that bytes spell
abbrev pub choose_to_text : ValueType → Choice
choose_to_text int_type = Some (overloads.Operate (operations.Convert IntToText), text_type)
choose_to_text uint_type = Some (overloads.Operate (operations.Convert UintToText), text_type)
choose_to_text bytes_type = Some (overloads.Operate (operations.Convert BytesToText), text_type)
choose_to_text _ = None

-- the choice for one operand
abbrev pub choose_unary : Function → ValueType → Choice
choose_unary functions.Not a = when (type_eq a bool_type) (overloads.Operate operations.Not) bool_type
choose_unary functions.NotStrictlyFalse a =
    when (type_eq a bool_type) (overloads.Operate operations.NotStrictlyFalse) bool_type
choose_unary functions.Negate a = when (type_eq a int_type) (overloads.Operate operations.Negate) int_type
choose_unary functions.Size a = when (is_sized a) (overloads.Operate operations.Size) int_type
choose_unary functions.ToInt a =
    when (type_eq a uint_type) (overloads.Operate (operations.Convert UintToInt)) int_type
choose_unary functions.ToUint a =
    when (type_eq a int_type) (overloads.Operate (operations.Convert IntToUint)) uint_type
choose_unary functions.ToText a = choose_to_text a
choose_unary functions.ToBytes a =
    when (type_eq a text_type) (overloads.Operate (operations.Convert TextToBytes)) bytes_type
choose_unary _ a = None

-- whether values of the two types can be compared so
abbrev pub are_compared : CompareOp → ValueType → ValueType → Bool
are_compared Equal a b = type_eq a b
are_compared NotEqual a b = type_eq a b
are_compared _ a b = is_ordered a && type_eq a b

-- the choice for a comparison
abbrev pub choose_comparison : CompareOp → ValueType → ValueType → Choice
choose_comparison op a b = when (are_compared op a b) (overloads.Operate (operations.Compare op)) bool_type

-- the choice for arithmetic on two numbers
abbrev pub calculated : ArithmeticOp → ValueType → ValueType → Choice
calculated op a b = when (is_number a && type_eq a b) (overloads.Operate (operations.Arithmetic op)) a

-- the choice for an arithmetic operator; `+` also joins
abbrev pub choose_arithmetic : ArithmeticOp → ValueType → ValueType → Choice
choose_arithmetic Add a b =
    if is_joined a then when (type_eq a b) (overloads.Operate operations.Concat) a else calculated Add a b
choose_arithmetic op a b = calculated op a b

-- the choice for `_[_]`: an item of a list, or the value of a map at a key
abbrev pub choose_index : ValueType → ValueType → Choice
choose_index (list_type t) b = when (type_eq b int_type) (overloads.Operate operations.ListIndex) t
choose_index (map_type k t) b = when (type_eq b (type_of_key k)) (overloads.Operate operations.MapIndex) t
choose_index _ b = None

-- the choice for `in`: a value in a list, or a key in a map
abbrev pub choose_in : ValueType → ValueType → Choice
choose_in a (list_type t) = when (type_eq a t) (overloads.Operate operations.InList) bool_type
choose_in a (map_type k t) = when (type_eq a (type_of_key k)) (overloads.Operate operations.InMap) bool_type
choose_in a _ = None

-- the choice for two operands
abbrev pub choose_binary : Function → ValueType → ValueType → Choice
choose_binary functions.And a b = when (are_both a b bool_type) (overloads.Operate operations.And) bool_type
choose_binary functions.Or a b = when (are_both a b bool_type) (overloads.Operate operations.Or) bool_type
choose_binary (functions.Compare op) a b = choose_comparison op a b
choose_binary (functions.Arithmetic op) a b = choose_arithmetic op a b
choose_binary functions.Index a b = choose_index a b
choose_binary functions.In a b = choose_in a b
choose_binary (functions.TestText test) a b =
    when (are_both a b text_type) (overloads.Operate (operations.TestText test)) bool_type
choose_binary _ a b = None

-- the choice for three operands
abbrev pub choose_ternary : Function → ValueType → ValueType → ValueType → Choice
choose_ternary functions.Conditional a b c =
    when (type_eq a bool_type && type_eq b c) overloads.Conditional b
choose_ternary _ a b c = None

-- the choice by the number of operands
abbrev pub choose_on : Function → List ValueType → Choice
choose_on f (a ∷ []) = choose_unary f a
choose_on f (a ∷ b ∷ []) = choose_binary f a b
choose_on f (a ∷ b ∷ c ∷ []) = choose_ternary f a b c
choose_on f _ = None

-- the choice for a call of the function; none if it cannot be called with, or without, a target
abbrev pub choose : Function → Bool → List ValueType → Choice
choose f target ts = if may_take f target then choose_on f ts else None
