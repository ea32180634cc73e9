-- Operations on typed operands have an answer of the result's type.
use Rattle.std.proofs.Common.{arith, ◌≡◌, ◌+◌, ◌-◌, ◌*◌, ◌/◌, ◌%◌, ◌^◌, ◌<◌, ◌==◌, ℕ, ℤ, pos, negsuc, neg_ℤ, nat_lt, nat_le, length, Bool, true, false, cond, List, [], ◌∷◌, Option, Some, option_map, refl}
use Rattle.std.specs.Prelude.{int_div, int_rem, FitsSigned, ◌+ℤ◌, ◌-ℤ◌, ◌*ℤ◌}
use Rattle.std.specs.Int.{w64}
use Rattle.std.specs.Ordering.{bool_cmp, int_cmp, int_eq, is_ge, is_gt, is_le, is_lt, nat_cmp}
use Rattle.std.specs.declared.cmp.Ordering.{Ordering}
use Rattle.std.specs.Cmp.Lexicographic.{slice_cmp}
use Rattle.std.proofs.lemmas.Int.{fits_signed_from_abs, rem_below}
use Rattle.std.proofs.lemmas.Bool.Decides.{nat_tests}
use Rattle.std.proofs.Math.Nat.{div-le_self, mod-le}
use Rattle.cel_value.specs.Values.{CelValue, bool, int, uint, text, bytes, list, map_of, CelAnswer, value, fails}
use Rattle.cel_value.specs.Types.{ValueType, bool_type, int_type, uint_type, text_type, bytes_type, list_type, map_type, type_of_key, AnswerHasType, HasType}
use Rattle.cel_value.specs.Masses.{entry_count, item_count}
use Rattle.cel_value.specs.declared.error.CelError.TheVariants.{Overflow, ZeroDivisor}
use Rattle.cel_ops.specs.Strict.{strict_two}
use Rattle.cel_ops.specs.Arithmetic.{arithmetic, arithmetic_of, int_answer, int_arithmetic, is_int64, opposite, opposite_of, uint_answer, uint_arithmetic}
use Rattle.cel_ops.specs.Comparison.{comparison, comparison_of, order_of, truth}
use Rattle.cel_ops.specs.Collections.{entry_of, in_list, in_list_of, in_map_of, item_of, size, size_of}
use Rattle.cel_ops.specs.Logic.{conjunction, disjunction, logical_not, not_strictly_false}
use Rattle.cel_ops.specs.Parts.{joined_of, text_test, text_test_of}
use Rattle.cel_ops.specs.Typed.{Answers, IsOrdered, IsSized}
use Rattle.cel_ops.specs.declared.arithmetic.ArithmeticOp.{ArithmeticOp}
use Rattle.cel_ops.specs.declared.comparison.CompareOp.{CompareOp}
use Rattle.cel_ops.specs.declared.texts.TextTest.{TextTest}
use Rattle.cel_ops.specs.Conversions.{conversion, conversion_type, converted_type}
use Rattle.cel_ops.proofs.Conversions.{conversion_typed}
use Rattle.cel_ops.proofs.Typing.{one, two, entry_typed, in_map_typed, index_typed, joined_typed}
use Rattle.cel_overload.specs.Answers.{HaveTypes, conditional, on_one, on_two, overload_answer}
use Rattle.cel_overload.specs.Overloads.{IsCompared, IsNumber, Takes}
use Rattle.cel_overload.specs.declared.overload.Overload.{Overload}
use Rattle.cel_ops.specs.declared.operation.Operation.TheVariants as operations
use Rattle.cel_overload.specs.declared.overload.Overload.TheVariants as overloads
use Rattle.cel_ops.proofs.Numbers.{int64_fits as int64}

-- ---- numbers of 64 bits

-- what a test chooses between
typed_if : (t : ValueType) (b : Bool) (x y : CelAnswer) → (b ≡ true → AnswerHasType x t)
    → (b ≡ false → AnswerHasType y t) → AnswerHasType (cond b x y) t
typed_if t true x y f g = f refl
typed_if t false x y f g = g refl

int_answer_typed : (z : ℤ) → AnswerHasType (int_answer z) int_type
int_answer_typed z =
    typed_if int_type (is_int64 z) (value (int z)) (fails Overflow) (int64 z) (λ e. tt)

uint_answer_typed : (n : ℕ) → AnswerHasType (uint_answer n) uint_type
uint_answer_typed n =
    typed_if uint_type (nat_lt n (2 ^ 64)) (value (uint n)) (fails Overflow) less (λ e. tt)
  where
    less : nat_lt n (2 ^ 64) ≡ true → n < 2 ^ 64
    less e = grind (arith, nat_tests)

remainder_fits : (a b : ℤ) → int_eq b (pos 0) ≡ false → FitsSigned w64 b
    → FitsSigned w64 (int_rem a b)
remainder_fits a (pos n) e f =
    let some : 0 < n = grind (arith, nat_tests) in
    fits_signed_from_abs w64 (int_rem a (pos n)) (omega (arith, rem_below a (pos n) some))
remainder_fits a (negsuc n) e f =
    fits_signed_from_abs w64 (int_rem a (negsuc n))
    (omega (arith, rem_below a (negsuc n) (omega arith)))

ints_typed : (op : ArithmeticOp) (a b : ℤ) → FitsSigned w64 b
    → AnswerHasType (int_arithmetic op a b) int_type
ints_typed ArithmeticOp.Add a b f = int_answer_typed (a +ℤ b)
ints_typed ArithmeticOp.Subtract a b f = int_answer_typed (a -ℤ b)
ints_typed ArithmeticOp.Multiply a b f = int_answer_typed (a *ℤ b)
ints_typed ArithmeticOp.Divide a b f =
    typed_if int_type (int_eq b (pos 0)) (fails ZeroDivisor) (int_answer (int_div a b))
    (λ e. tt) (λ e. int_answer_typed (int_div a b))
ints_typed ArithmeticOp.Remainder a b f =
    typed_if int_type (int_eq b (pos 0)) (fails ZeroDivisor)
    (cond (is_int64 (int_div a b)) (value (int (int_rem a b))) (fails Overflow)) (λ e. tt)
    (λ some. typed_if int_type (is_int64 (int_div a b)) (value (int (int_rem a b)))
    (fails Overflow) (λ e. remainder_fits a b some f) (λ e. tt))

uints_typed : (op : ArithmeticOp) (a b : ℕ) → a < 2 ^ 64 → b < 2 ^ 64
    → AnswerHasType (uint_arithmetic op a b) uint_type
uints_typed ArithmeticOp.Add a b f g = uint_answer_typed (a + b)
uints_typed ArithmeticOp.Subtract a b f g =
    typed_if uint_type (nat_le b a) (value (uint (a - b))) (fails Overflow) (λ e. less) (λ e. tt)
  where
    less : a - b < 2 ^ 64
    less = omega arith
uints_typed ArithmeticOp.Multiply a b f g = uint_answer_typed (a * b)
uints_typed ArithmeticOp.Divide a b f g =
    typed_if uint_type (b == 0) (fails ZeroDivisor) (value (uint (a / b))) (λ e. tt) (λ e. less)
  where
    less : a / b < 2 ^ 64
    less = omega (arith, div-le_self a b)
uints_typed ArithmeticOp.Remainder a b f g =
    typed_if uint_type (b == 0) (fails ZeroDivisor) (value (uint (a % b))) (λ e. tt) (λ e. less)
  where
    less : a % b < 2 ^ 64
    less = omega (arith, mod-le a b)

arithmetic_typed : (op : ArithmeticOp) (t : ValueType) → IsNumber t → (a b : CelAnswer)
    → AnswerHasType a t → AnswerHasType b t → Answers (arithmetic op a b) t
arithmetic_typed op int_type n a b = two (arithmetic_of op) int_type int_type int_type ints a b
  where
    ints : (v w : CelValue) → HasType v int_type → HasType w int_type
        → Answers (arithmetic_of op v w) int_type
    ints (int a) (int b) f g = ints_typed op a b g
    ints (int a) _ f g = absurd g
    ints _ w f g = absurd f
arithmetic_typed op uint_type n a b =
    two (arithmetic_of op) uint_type uint_type uint_type uints a b
  where
    uints : (v w : CelValue) → HasType v uint_type → HasType w uint_type
        → Answers (arithmetic_of op v w) uint_type
    uints (uint a) (uint b) f g = uints_typed op a b f g
    uints (uint a) _ f g = absurd g
    uints _ w f g = absurd f
arithmetic_typed op _ n a b = absurd n

opposite_typed : (a : CelAnswer) → AnswerHasType a int_type → Answers (opposite a) int_type
opposite_typed = one opposite_of int_type int_type ints
  where
    ints : (v : CelValue) → HasType v int_type → Answers (opposite_of v) int_type
    ints (int a) f = int_answer_typed (neg_ℤ a)
    ints _ f = absurd f

-- ---- bools

conjunction_typed : (a b : CelAnswer) → AnswerHasType a bool_type → AnswerHasType b bool_type
    → Answers (conjunction a b) bool_type
conjunction_typed (value (bool true)) (value (bool b)) g h = tt
conjunction_typed (value (bool false)) (value (bool b)) g h = tt
conjunction_typed (value (bool true)) (fails e) g h = tt
conjunction_typed (value (bool false)) (fails e) g h = tt
conjunction_typed (fails e) (value (bool true)) g h = tt
conjunction_typed (fails e) (value (bool false)) g h = tt
conjunction_typed (fails e) (fails d) g h = tt
conjunction_typed (value (bool true)) (value _) g h = absurd h
conjunction_typed (value (bool false)) (value _) g h = absurd h
conjunction_typed (fails e) (value _) g h = absurd h
conjunction_typed (value _) b g h = absurd g

disjunction_typed : (a b : CelAnswer) → AnswerHasType a bool_type → AnswerHasType b bool_type
    → Answers (disjunction a b) bool_type
disjunction_typed (value (bool true)) (value (bool b)) g h = tt
disjunction_typed (value (bool false)) (value (bool b)) g h = tt
disjunction_typed (value (bool true)) (fails e) g h = tt
disjunction_typed (value (bool false)) (fails e) g h = tt
disjunction_typed (fails e) (value (bool true)) g h = tt
disjunction_typed (fails e) (value (bool false)) g h = tt
disjunction_typed (fails e) (fails d) g h = tt
disjunction_typed (value (bool true)) (value _) g h = absurd h
disjunction_typed (value (bool false)) (value _) g h = absurd h
disjunction_typed (fails e) (value _) g h = absurd h
disjunction_typed (value _) b g h = absurd g

not_typed : (a : CelAnswer) → AnswerHasType a bool_type → Answers (logical_not a) bool_type
not_typed (fails e) h = tt
not_typed (value (bool b)) h = tt
not_typed (value _) h = absurd h

nsf_typed : (a : CelAnswer) → AnswerHasType a bool_type → Answers (not_strictly_false a) bool_type
nsf_typed (fails e) h = tt
nsf_typed (value (bool b)) h = tt
nsf_typed (value _) h = absurd h

conditional_typed : (t : ValueType) (c a b : CelAnswer) → AnswerHasType c bool_type
    → AnswerHasType a t → AnswerHasType b t → Answers (conditional (c ∷ a ∷ b ∷ [])) t
conditional_typed t (value (bool true)) a b f g h = g
conditional_typed t (value (bool false)) a b f g h = h
conditional_typed t (fails e) a b f g h = tt
conditional_typed t (value _) a b f g h = absurd f

-- ---- comparisons, texts and collections

ordered : (t : ValueType) → IsOrdered t → (v w : CelValue) → HasType v t → HasType w t
    → (o : Ordering) × (order_of v w ≡ Some o)
ordered bool_type o (bool a) (bool b) g h = (bool_cmp a b, refl)
ordered int_type o (int a) (int b) g h = (int_cmp a b, refl)
ordered uint_type o (uint a) (uint b) g h = (nat_cmp a b, refl)
ordered text_type o (text a) (text b) g h = (slice_cmp nat_cmp a b, refl)
ordered bytes_type o (bytes a) (bytes b) g h = (slice_cmp nat_cmp a b, refl)
ordered bool_type o (bool a) _ g h = absurd h
ordered int_type o (int a) _ g h = absurd h
ordered uint_type o (uint a) _ g h = absurd h
ordered text_type o (text a) _ g h = absurd h
ordered bytes_type o (bytes a) _ g h = absurd h
ordered bool_type o _ w g h = absurd g
ordered int_type o _ w g h = absurd g
ordered uint_type o _ w g h = absurd g
ordered text_type o _ w g h = absurd g
ordered bytes_type o _ w g h = absurd g
ordered (list_type t) o v w g h = absurd o
ordered (map_type k t) o v w g h = absurd o

order_typed : (test : Ordering → CelAnswer) → ((o : Ordering) → AnswerHasType (test o) bool_type)
    → (t : ValueType) → IsOrdered t → (v w : CelValue) → HasType v t → HasType w t
    → Answers (option_map test (order_of v w)) bool_type
order_typed test each t o v w g h =
    let found = ordered t o v w g h in rw (found.1) (each found.0)

comparison_typed : (op : CompareOp) (t : ValueType) → IsCompared op t → (a b : CelAnswer)
    → AnswerHasType a t → AnswerHasType b t → Answers (comparison op a b) bool_type
comparison_typed op t c = two (comparison_of op) t t bool_type (compared op c)
  where
    compared : (op : CompareOp) → IsCompared op t → (v w : CelValue) → HasType v t → HasType w t
        → Answers (comparison_of op v w) bool_type
    compared CompareOp.Equal c = λ v w g h. tt
    compared CompareOp.NotEqual c = λ v w g h. tt
    compared CompareOp.Less c = order_typed (λ o. truth (is_lt o)) (λ o. tt) t c
    compared CompareOp.LessOrEqual c = order_typed (λ o. truth (is_le o)) (λ o. tt) t c
    compared CompareOp.Greater c = order_typed (λ o. truth (is_gt o)) (λ o. tt) t c
    compared CompareOp.GreaterOrEqual c = order_typed (λ o. truth (is_ge o)) (λ o. tt) t c

text_test_typed : (test : TextTest) (a b : CelAnswer) → AnswerHasType a text_type
    → AnswerHasType b text_type → Answers (text_test test a b) bool_type
text_test_typed test = two (text_test_of test) text_type text_type bool_type texts
  where
    texts : (v w : CelValue) → HasType v text_type → HasType w text_type
        → Answers (text_test_of test v w) bool_type
    texts (text a) (text b) g h = tt
    texts (text a) _ g h = absurd h
    texts _ w g h = absurd g

size_typed : (t : ValueType) → IsSized t → (a : CelAnswer) → AnswerHasType a t
    → Answers (size a) int_type
size_typed t s = one size_of t int_type (sizes t s)
  where
    sizes : (t : ValueType) → IsSized t → (v : CelValue) → HasType v t
        → Answers (size_of v) int_type
    sizes text_type s (text cs) h = int_answer_typed (pos (length cs))
    sizes bytes_type s (bytes bs) h = int_answer_typed (pos (length bs))
    sizes (list_type t) s (list vs) h = int_answer_typed (pos (item_count vs))
    sizes (map_type k t) s (map_of es) h = int_answer_typed (pos (entry_count es))
    sizes text_type s _ h = absurd h
    sizes bytes_type s _ h = absurd h
    sizes (list_type t) s _ h = absurd h
    sizes (map_type k t) s _ h = absurd h
    sizes _ s v h = absurd s

in_list_typed : (t : ValueType) (a b : CelAnswer) → AnswerHasType a t
    → AnswerHasType b (list_type t) → Answers (in_list a b) bool_type
in_list_typed t = two in_list_of t (list_type t) bool_type lists
  where
    lists : (v w : CelValue) → HasType v t → HasType w (list_type t)
        → Answers (in_list_of v w) bool_type
    lists v (list vs) g h = tt
    lists v _ g h = absurd h

-- ---- overloads

on_one_typed : (f : CelAnswer → Option CelAnswer) (s r : ValueType)
    → ((a : CelAnswer) → AnswerHasType a s → Answers (f a) r) → (answers : List CelAnswer)
    → HaveTypes answers (s ∷ []) → Answers (on_one f answers) r
on_one_typed f s r each [] h = absurd h
on_one_typed f s r each (a ∷ []) h = each a h.0
on_one_typed f s r each (a ∷ b ∷ answers) h = absurd h.1

on_two_typed : (f : CelAnswer → CelAnswer → Option CelAnswer) (s t r : ValueType)
    → ((a b : CelAnswer) → AnswerHasType a s → AnswerHasType b t → Answers (f a b) r)
    → (answers : List CelAnswer) → HaveTypes answers (s ∷ t ∷ []) → Answers (on_two f answers) r
on_two_typed f s t r each [] h = absurd h
on_two_typed f s t r each (a ∷ []) h = absurd h.1
on_two_typed f s t r each (a ∷ b ∷ []) h = each a b h.0 h.1.0
on_two_typed f s t r each (a ∷ b ∷ c ∷ answers) h = absurd h.1.1

on_three_typed : (r : ValueType) (answers : List CelAnswer)
    → HaveTypes answers (bool_type ∷ r ∷ r ∷ []) → Answers (conditional answers) r
on_three_typed r [] h = absurd h
on_three_typed r (a ∷ []) h = absurd h.1
on_three_typed r (a ∷ b ∷ []) h = absurd h.1.1
on_three_typed r (a ∷ b ∷ c ∷ []) h = conditional_typed r a b c h.0 h.1.0 h.1.1.0
on_three_typed r (a ∷ b ∷ c ∷ d ∷ answers) h = absurd h.1.1.1

-- operands of given types, by the equation of their list
of_types : (answers : List CelAnswer) (ts us : List ValueType) → ts ≡ us → HaveTypes answers ts
    → HaveTypes answers us
of_types answers ts us e h = rw (← e) h

pub overload_typed_fact : (o : Overload) (ts : List ValueType) (r : ValueType)
    (answers : List CelAnswer) → Takes o ts r → HaveTypes answers ts
    → Answers (overload_answer o answers) r
overload_typed_fact (overloads.Operate operations.And) ts r answers k h = rw (k.1)
    (on_two_typed conjunction bool_type bool_type bool_type conjunction_typed answers
    (of_types answers ts _ k.0 h))
overload_typed_fact (overloads.Operate operations.Or) ts r answers k h = rw (k.1)
    (on_two_typed disjunction bool_type bool_type bool_type disjunction_typed answers
    (of_types answers ts _ k.0 h))
overload_typed_fact (overloads.Operate operations.Not) ts r answers k h = rw (k.1)
    (on_one_typed logical_not bool_type bool_type not_typed answers (of_types answers ts _ k.0 h))
overload_typed_fact (overloads.Operate operations.NotStrictlyFalse) ts r answers k h = rw (k.1)
    (on_one_typed not_strictly_false bool_type bool_type nsf_typed answers
    (of_types answers ts _ k.0 h))
overload_typed_fact overloads.Conditional ts r answers k h =
    on_three_typed r answers (of_types answers ts _ k h)
overload_typed_fact (overloads.Operate (operations.Compare op)) ts r answers k h = rw (k.3)
    (on_two_typed (comparison op) k.0 k.0 bool_type (comparison_typed op k.0 k.1) answers
    (of_types answers ts _ k.2 h))
overload_typed_fact (overloads.Operate (operations.Arithmetic op)) ts r answers k h =
    on_two_typed (arithmetic op) r r r (arithmetic_typed op r k.0) answers
    (of_types answers ts _ k.1 h)
overload_typed_fact (overloads.Operate operations.Concat) ts r answers k h =
    on_two_typed (strict_two joined_of) r r r (two joined_of r r r (joined_typed r k.0)) answers
    (of_types answers ts _ k.1 h)
overload_typed_fact (overloads.Operate operations.Negate) ts r answers k h = rw (k.1)
    (on_one_typed opposite int_type int_type opposite_typed answers (of_types answers ts _ k.0 h))
overload_typed_fact (overloads.Operate operations.ListIndex) ts r answers k h =
    on_two_typed (strict_two item_of) (list_type r) int_type r
    (two item_of (list_type r) int_type r (index_typed r)) answers (of_types answers ts _ k h)
overload_typed_fact (overloads.Operate operations.MapIndex) ts r answers k h =
    on_two_typed (strict_two entry_of) (map_type k.0 r) (type_of_key k.0) r
    (two entry_of (map_type k.0 r) (type_of_key k.0) r (entry_typed k.0 r)) answers
    (of_types answers ts _ k.1 h)
overload_typed_fact (overloads.Operate operations.InList) ts r answers k h = rw (k.2)
    (on_two_typed in_list k.0 (list_type k.0) bool_type (in_list_typed k.0) answers
    (of_types answers ts _ k.1 h))
overload_typed_fact (overloads.Operate operations.InMap) ts r answers k h = rw (k.3)
    (on_two_typed (strict_two in_map_of) (type_of_key k.0) (map_type k.0 k.1) bool_type
    (two in_map_of (type_of_key k.0) (map_type k.0 k.1) bool_type (in_map_typed k.0 k.1)) answers
    (of_types answers ts _ k.2 h))
overload_typed_fact (overloads.Operate operations.Size) ts r answers k h = rw (k.3)
    (on_one_typed size k.0 int_type (size_typed k.0 k.1) answers (of_types answers ts _ k.2 h))
overload_typed_fact (overloads.Operate (operations.TestText test)) ts r answers k h = rw (k.1)
    (on_two_typed (text_test test) text_type text_type bool_type (text_test_typed test) answers
    (of_types answers ts _ k.0 h))
overload_typed_fact (overloads.Operate (operations.Convert kind)) ts r answers k h = rw (k.1)
    (on_one_typed (conversion kind) (converted_type kind) (conversion_type kind) (conversion_typed kind) answers
    (of_types answers ts _ k.0 h))
