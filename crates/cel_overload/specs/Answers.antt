-- The answers of calls: CEL language definition, "List of Standard Definitions"; the operations are
-- those of `cel_ops`. None means that operands are of a wrong kind or number.
use Rattle.std.specs.Prelude.{true, false, List, [], ◌∷◌, Option, Some, None}
use Rattle.cel_value.specs.Values.{CelValue, bool, int, uint, text, bytes, list, map_of, CelAnswer, value, fails}
use Rattle.cel_value.specs.Types.{ValueType, AnswerHasType}
use Rattle.cel_ops.specs.Strict.{strict, strict_two}
use Rattle.cel_ops.specs.Arithmetic.{arithmetic, arithmetic_of, opposite}
use Rattle.cel_ops.specs.Logic.{conjunction, disjunction, logical_not, not_strictly_false}
use Rattle.cel_ops.specs.Comparison.{comparison}
use Rattle.cel_ops.specs.Parts.{joined_of, text_test}
use Rattle.cel_ops.specs.Conversions.{conversion, conversion_of}
use Rattle.cel_ops.specs.Collections.{entry_of, in_list_of, in_map_of, item_of, size}
use Rattle.cel_ops.specs.Operations.{Work, takes_one, takes_two, work}
use Rattle.cel_ops.specs.declared.arithmetic.ArithmeticOp.TheVariants.{Add}
use Rattle.cel_ops.specs.declared.conversion.Conversion.TheVariants.{UintToInt, IntToUint, IntToText, UintToText, BytesToText, TextToBytes}
use Rattle.cel_overload.specs.declared.function.Function.{Function}
use Rattle.cel_overload.specs.declared.function.Function.TheVariants as functions
use Rattle.cel_overload.specs.declared.overload.Overload.{Overload}
use Rattle.cel_overload.specs.declared.overload.Overload.TheVariants as overloads

-- the answer to one operand
abbrev pub on_one : (CelAnswer → Option CelAnswer) → List CelAnswer → Option CelAnswer
on_one f (a ∷ []) = f a
on_one f _ = None

-- the answer to two operands
abbrev pub on_two : (CelAnswer → CelAnswer → Option CelAnswer) → List CelAnswer → Option CelAnswer
on_two f (a ∷ b ∷ []) = f a b
on_two f _ = None

-- the branch that a condition chooses, or its error
abbrev pub conditional : List CelAnswer → Option CelAnswer
conditional (value (bool true) ∷ a ∷ b ∷ []) = Some a
conditional (value (bool false) ∷ a ∷ b ∷ []) = Some b
conditional (fails e ∷ a ∷ b ∷ []) = Some (fails e)
conditional _ = None

-- the answer of an operation
abbrev pub operands_answer : Work → List CelAnswer → Option CelAnswer
operands_answer (takes_one answer charge) = on_one answer
operands_answer (takes_two answer charge) = on_two answer

-- the answer of an overload
abbrev pub overload_answer : Overload → List CelAnswer → Option CelAnswer
overload_answer overloads.Conditional = conditional
overload_answer (overloads.Operate op) = operands_answer (work op)

-- ---- answers by the kinds of values, without types

-- `+`: the sum of two numbers, or two texts, bytes or lists joined
abbrev pub addition_of : CelValue → CelValue → Option CelAnswer
addition_of (text a) w = joined_of (text a) w
addition_of (bytes a) w = joined_of (bytes a) w
addition_of (list a) w = joined_of (list a) w
addition_of v w = arithmetic_of Add v w

-- `_[_]`: the item of a list, or the value of a map at a key
abbrev pub index_of : CelValue → CelValue → Option CelAnswer
index_of (list vs) w = item_of (list vs) w
index_of (map_of es) w = entry_of (map_of es) w
index_of _ w = None

-- `in`: whether a list has the value, or a map has the key
abbrev pub in_of : CelValue → CelValue → Option CelAnswer
in_of v (list vs) = in_list_of v (list vs)
in_of v (map_of es) = in_map_of v (map_of es)
in_of v _ = None

-- `string`: the text of a number, or the text that bytes spell
abbrev pub text_conversion_of : CelValue → Option CelAnswer
text_conversion_of (int i) = conversion_of IntToText (int i)
text_conversion_of (uint n) = conversion_of UintToText (uint n)
text_conversion_of (bytes bs) = conversion_of BytesToText (bytes bs)
text_conversion_of _ = None

-- the answer of a function
abbrev pub function_answer : Function → List CelAnswer → Option CelAnswer
function_answer functions.And = on_two conjunction
function_answer functions.Or = on_two disjunction
function_answer functions.Not = on_one logical_not
function_answer functions.NotStrictlyFalse = on_one not_strictly_false
function_answer functions.Conditional = conditional
function_answer (functions.Compare op) = on_two (comparison op)
function_answer (functions.Arithmetic Add) = on_two (strict_two addition_of)
function_answer (functions.Arithmetic op) = on_two (arithmetic op)
function_answer functions.Negate = on_one opposite
function_answer functions.Index = on_two (strict_two index_of)
function_answer functions.In = on_two (strict_two in_of)
function_answer functions.Size = on_one size
function_answer (functions.TestText test) = on_two (text_test test)
function_answer functions.ToInt = on_one (conversion UintToInt)
function_answer functions.ToUint = on_one (conversion IntToUint)
function_answer functions.ToText = on_one (strict text_conversion_of)
function_answer functions.ToBytes = on_one (conversion TextToBytes)

-- each answer has the type at its place
abbrev pub HaveTypes : List CelAnswer → List ValueType → Type 0
HaveTypes [] [] = Unit {0}
HaveTypes (a ∷ answers) (t ∷ ts) = AnswerHasType a t × HaveTypes answers ts
HaveTypes _ _ = ⊥
