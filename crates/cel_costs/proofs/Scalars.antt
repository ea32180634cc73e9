-- Operations that answer a bool, a number or an error, which is within every size.
use Rattle.std.proofs.Common.{◌+◌, ◌-◌, ◌*◌, ◌/◌, ◌%◌, ◌^◌, ◌==◌, ◌+ℤ◌, ◌-ℤ◌, ◌*ℤ◌, neg_ℤ, nat_lt, nat_le, int_div, int_rem, ℕ, ℤ, pos, Bool, true, false, cond, List, [], ◌∷◌, length, Option, Some, None, option_map}
use Rattle.std.specs.Ordering.{int_eq}
use Rattle.std.specs.declared.cmp.Ordering.{Ordering}
use Rattle.cel_value.specs.Keys.{is_ascending, key_of_value}
use Rattle.cel_value.specs.Masses.{entry_count, item_count}
use Rattle.cel_value.specs.Values.{CelAnswer, CelEntries, CelKey, CelValue, bool, bytes, fails, int, list, map_of, text, text_key, uint, value}
use Rattle.cel_value.specs.declared.error.CelError.TheVariants.{Overflow, ZeroDivisor}
use Rattle.cel_ops.specs.Arithmetic.{arithmetic_of, int_answer, int_arithmetic, is_int64, opposite_of, uint_answer, uint_arithmetic}
use Rattle.cel_ops.specs.Collections.{at_key, has_field_of, has_key, in_list_of, in_map_of}
use Rattle.cel_ops.specs.Collections as collections
use Rattle.cel_ops.specs.Comparison.{comparison_of, order_of, truth}
use Rattle.cel_ops.specs.Logic.{conjunction, disjunction, negation_of, not_strictly_false}
use Rattle.cel_ops.specs.Parts.{text_test_of}
use Rattle.cel_ops.specs.Strict.{strict, strict_two}
use Rattle.cel_ops.specs.declared.arithmetic.ArithmeticOp.{ArithmeticOp}
use Rattle.cel_ops.specs.declared.comparison.CompareOp.{CompareOp}
use Rattle.cel_ops.specs.declared.texts.TextTest.{TextTest}
use Rattle.cel_overload.specs.Answers.{on_one, on_two}
use Rattle.cel_costs.specs.Sizes.{Fits, Size, Within}

-- a bool, a number, an error, or nothing
abbrev pub IsScalar : Option CelAnswer → Type 0
IsScalar (Some (value (bool b))) = Unit {0}
IsScalar (Some (value (int i))) = Unit {0}
IsScalar (Some (value (uint n))) = Unit {0}
IsScalar (Some (value _)) = ⊥
IsScalar (Some (fails e)) = Unit {0}
IsScalar None = Unit {0}

-- an answer, if there is one, is within the size
abbrev pub IfWithin : Option CelAnswer → Size → Type 0
IfWithin None s = Unit {0}
IfWithin (Some a) s = Within a s

pub scalar_within : (o : Option CelAnswer) (s : Size) → IsScalar o → IfWithin o s
scalar_within (Some (value (bool b))) s h = tt
scalar_within (Some (value (int i))) s h = tt
scalar_within (Some (value (uint n))) s h = tt
scalar_within (Some (fails e)) s h = tt
scalar_within None s h = tt
scalar_within (Some (value _)) s h = absurd h

-- what an operation answers, by what it answers to values
pub one_within : (f : CelValue → Option CelAnswer) (s z : Size)
    → ((v : CelValue) → Fits v s → IfWithin (f v) z) → (a : CelAnswer) → Within a s
    → IfWithin (strict f a) z
one_within f s z each (value v) h = each v h
one_within f s z each (fails e) h = tt

either : (b : Bool) (x y : CelAnswer) → IsScalar (Some x) → IsScalar (Some y)
    → IsScalar (Some (cond b x y))
either true x y h k = h
either false x y h k = k

ordered : (o : Option Ordering) (f : Ordering → Bool) → IsScalar (option_map (λ c. truth (f c)) o)
ordered None f = tt
ordered (Some c) f = tt

pub compared : (op : CompareOp) (v w : CelValue) → IsScalar (comparison_of op v w)
compared CompareOp.Equal v w = tt
compared CompareOp.NotEqual v w = tt
compared CompareOp.Less v w = ordered (order_of v w) _
compared CompareOp.LessOrEqual v w = ordered (order_of v w) _
compared CompareOp.Greater v w = ordered (order_of v w) _
compared CompareOp.GreaterOrEqual v w = ordered (order_of v w) _

int_scalar : (z : ℤ) → IsScalar (Some (int_answer z))
int_scalar z = either (is_int64 z) (value (int z)) (fails Overflow) tt tt

uint_scalar : (n : ℕ) → IsScalar (Some (uint_answer n))
uint_scalar n = either (nat_lt n (2 ^ 64)) (value (uint n)) (fails Overflow) tt tt

ints : (op : ArithmeticOp) (a b : ℤ) → IsScalar (Some (int_arithmetic op a b))
ints ArithmeticOp.Add a b = int_scalar (a +ℤ b)
ints ArithmeticOp.Subtract a b = int_scalar (a -ℤ b)
ints ArithmeticOp.Multiply a b = int_scalar (a *ℤ b)
ints ArithmeticOp.Divide a b =
    either (int_eq b (pos 0)) (fails ZeroDivisor) (int_answer (int_div a b)) tt
    (int_scalar (int_div a b))
ints ArithmeticOp.Remainder a b =
    let rest : CelAnswer = cond (is_int64 (int_div a b)) (value (int (int_rem a b))) (fails Overflow) in
    either (int_eq b (pos 0)) (fails ZeroDivisor) rest tt
    (either (is_int64 (int_div a b)) (value (int (int_rem a b))) (fails Overflow) tt tt)

uints : (op : ArithmeticOp) (a b : ℕ) → IsScalar (Some (uint_arithmetic op a b))
uints ArithmeticOp.Add a b = uint_scalar (a + b)
uints ArithmeticOp.Subtract a b = either (nat_le b a) (value (uint (a - b))) (fails Overflow) tt tt
uints ArithmeticOp.Multiply a b = uint_scalar (a * b)
uints ArithmeticOp.Divide a b = either (b == 0) (fails ZeroDivisor) (value (uint (a / b))) tt tt
uints ArithmeticOp.Remainder a b = either (b == 0) (fails ZeroDivisor) (value (uint (a % b))) tt tt

pub calculated : (op : ArithmeticOp) (v w : CelValue) → IsScalar (arithmetic_of op v w)
calculated op (int a) (int b) = ints op a b
calculated op (uint a) (uint b) = uints op a b
calculated op _ _ = tt

pub opposed : (v : CelValue) → IsScalar (opposite_of v)
opposed (int a) = int_scalar (neg_ℤ a)
opposed _ = tt

pub tested : (test : TextTest) (v w : CelValue) → IsScalar (text_test_of test v w)
tested test (text a) (text b) = tt
tested test _ _ = tt

pub negated : (v : CelValue) → IsScalar (negation_of v)
negated (bool b) = tt
negated _ = tt

pub sized : (v : CelValue) → IsScalar (collections.size_of v)
sized (text cs) = int_scalar (pos (length cs))
sized (bytes bs) = int_scalar (pos (length bs))
sized (list vs) = int_scalar (pos (item_count vs))
sized (map_of es) = int_scalar (pos (entry_count es))
sized _ = tt

pub listed : (v w : CelValue) → IsScalar (in_list_of v w)
listed v (list vs) = tt
listed v _ = tt

keyed : (f : CelEntries → CelKey → CelAnswer) (es : CelEntries) (o : Option CelKey)
    → ((k : CelKey) → IsScalar (Some (f es k))) → IsScalar (at_key f es o)
keyed f es None h = tt
keyed f es (Some k) h = at (is_ascending es)
  where
    at : (b : Bool) → IsScalar (cond b (Some (f es k)) None)
    at true = h k
    at false = tt

pub mapped : (v w : CelValue) → IsScalar (in_map_of v w)
mapped v (map_of es) = keyed has_key es (key_of_value v) (λ k. tt)
mapped v _ = tt

pub named : (name : List ℕ) (v : CelValue) → IsScalar (has_field_of name v)
named name (map_of es) = keyed has_key es (Some (text_key name)) (λ k. tt)
named name _ = tt

pub conjoined : (a b : CelAnswer) → IsScalar (conjunction a b)
conjoined (value (bool false)) (value (bool b)) = tt
conjoined (value (bool false)) (fails e) = tt
conjoined (value (bool true)) (value (bool b)) = tt
conjoined (value (bool true)) (fails e) = tt
conjoined (fails e) (value (bool false)) = tt
conjoined (fails e) (value (bool true)) = tt
conjoined (fails e) (fails d) = tt
conjoined _ _ = tt

pub disjoined : (a b : CelAnswer) → IsScalar (disjunction a b)
disjoined (value (bool true)) (value (bool b)) = tt
disjoined (value (bool true)) (fails e) = tt
disjoined (value (bool false)) (value (bool b)) = tt
disjoined (value (bool false)) (fails e) = tt
disjoined (fails e) (value (bool true)) = tt
disjoined (fails e) (value (bool false)) = tt
disjoined (fails e) (fails d) = tt
disjoined _ _ = tt

pub unstrict : (a : CelAnswer) → IsScalar (not_strictly_false a)
unstrict (value (bool b)) = tt
unstrict (fails e) = tt
unstrict _ = tt

pub strict_scalar : (f : CelValue → Option CelAnswer) → ((v : CelValue) → IsScalar (f v))
    → (a : CelAnswer) → IsScalar (strict f a)
strict_scalar f h (value v) = h v
strict_scalar f h (fails e) = tt

pub two_scalar : (f : CelValue → CelValue → Option CelAnswer) → ((v w : CelValue) → IsScalar (f v w))
    → (a b : CelAnswer) → IsScalar (strict_two f a b)
two_scalar f h (value v) (value w) = h v w
two_scalar f h (value v) (fails e) = tt
two_scalar f h (fails e) b = tt

pub one_operand : (f : CelAnswer → Option CelAnswer) → ((a : CelAnswer) → IsScalar (f a))
    → (answers : List CelAnswer) → IsScalar (on_one f answers)
one_operand f h (a ∷ []) = h a
one_operand f h _ = tt

pub two_operands : (f : CelAnswer → CelAnswer → Option CelAnswer)
    → ((a b : CelAnswer) → IsScalar (f a b)) → (answers : List CelAnswer)
    → IsScalar (on_two f answers)
two_operands f h (a ∷ b ∷ []) = h a b
two_operands f h _ = tt
