-- Operations on bools, numbers and texts keep types.
use Rattle.std.proofs.Common.{◌≡◌, ℕ, ℤ, pos, negsuc, neg_ℤ, ◌+◌, ◌-◌, ◌*◌, ◌/◌, ◌%◌, ◌^◌, ◌<◌, ◌==◌, Bool, true, false, cond, nat_lt, nat_le, Option, Some, None, refl, ap₂, arith}
use Rattle.std.specs.Prelude.{int_div, int_rem, FitsSigned}
use Rattle.std.specs.Int.{w64}
use Rattle.std.specs.Ordering.{int_eq, int_cmp, nat_cmp, bool_cmp}
use Rattle.std.specs.Str.{all_scalars}
use Rattle.std.proofs.lemmas.Int.{fits_signed_from_abs, rem_below}
use Rattle.std.proofs.lemmas.Bool.Decides.{nat_tests}
use Rattle.std.proofs.Math.Nat.{div-le_self, mod-le}
use Rattle.std.specs.Prelude.{◌+ℤ◌, ◌-ℤ◌, ◌*ℤ◌}
use Rattle.std.specs.declared.cmp.Ordering.{Ordering}
use Rattle.std.specs.Cmp.Lexicographic.{slice_cmp}
use Rattle.cel_value.specs.declared.error.CelError.{CelError}
use Rattle.machine_code.proofs.Forms.{bool_in, int_in, uint_in, text_in, bytes_in}
use Rattle.cel_value.specs.Values.{CelValue, bool, int, uint, text, bytes, list, map_of, CelAnswer, value, fails}
use Rattle.cel_value.specs.Types.{ValueType, bool_type, int_type, uint_type, text_type, bytes_type, list_type, map_type, HasType, AnswerHasType, is_ordered}
use Rattle.cel_value.specs.declared.error.CelError.TheVariants.{Overflow}
use Rattle.cel_ops.specs.Arithmetic.{is_int64, int_answer, uint_answer, int_arithmetic, uint_arithmetic, arithmetic, opposite}
use Rattle.cel_ops.specs.Conversions.{conversion, conversion_type, converted_type}
use Rattle.cel_ops.specs.Typed.{Answers}
use Rattle.cel_ops.specs.Logic.{conjunction, disjunction, logical_not, not_strictly_false}
use Rattle.cel_ops.specs.Comparison.{comparison, comparison_of, order_of}
use Rattle.cel_ops.specs.Parts.{text_test}
use Rattle.cel_ops.specs.declared.texts.TextTest.{TextTest}
use Rattle.cel_ops.specs.declared.arithmetic.ArithmeticOp.{ArithmeticOp}
use Rattle.cel_ops.specs.declared.comparison.CompareOp.{CompareOp}
use Rattle.cel_ops.specs.declared.conversion.Conversion.{Conversion}
use Rattle.machine_code.specs.Slots.{Slot, failing, of, of_type_if, may_compare, constant_slot, number_slot, arithmetic_slot, same_slot, test_slot, compare_slot, convert_slot}
use Rattle.machine_code.specs.private.Holding.{MayHold}
use Rattle.machine_code.proofs.Asked.{Gives, KeepsOne, KeepsTwo, given_if, some_is, keeps_one, keeps_two, keeps_joined}
use Rattle.cel_ops.proofs.Conversions.{conversion_typed}
use Rattle.cel_ops.proofs.Numbers.{int64_fits as int64, uint64_below as uint64}

-- numbers of 64 bits

pub int_answer_held : (z : ℤ) → MayHold (of int_type) (int_answer z)
int_answer_held z = by_test (is_int64 z) refl
  where
    by_test : (b : Bool) → is_int64 z ≡ b → MayHold (of int_type) (cond b (value (int z)) (fails Overflow))
    by_test true e = int64 z e
    by_test false e = tt

uint_answer_held : (n : ℕ) → MayHold (of uint_type) (uint_answer n)
uint_answer_held n = by_test (nat_lt n (2 ^ 64)) refl
  where
    by_test : (b : Bool) → nat_lt n (2 ^ 64) ≡ b → MayHold (of uint_type) (cond b (value (uint n)) (fails Overflow))
    by_test true e = uint64 n e
    by_test false e = tt

-- what a test chooses between
held_if : (a : Slot) (b : Bool) (x y : CelAnswer) → (b ≡ true → MayHold a x) → (b ≡ false → MayHold a y)
    → MayHold a (cond b x y)
held_if a true x y f g = f refl
held_if a false x y f g = g refl

remainder_fits : (a b : ℤ) → FitsSigned w64 b → int_eq b (pos 0) ≡ false → FitsSigned w64 (int_rem a b)
remainder_fits a (pos n) f e =
    let some : 0 < n = grind (arith, nat_tests) in
    fits_signed_from_abs w64 (int_rem a (pos n)) (omega (arith, rem_below a (pos n) some))
remainder_fits a (negsuc n) f e =
    fits_signed_from_abs w64 (int_rem a (negsuc n)) (omega (arith, rem_below a (negsuc n) (omega arith)))

int_held : (op : ArithmeticOp) (a b : ℤ) → FitsSigned w64 a → FitsSigned w64 b
    → MayHold (of int_type) (int_arithmetic op a b)
int_held ArithmeticOp.Add a b f g = int_answer_held (a +ℤ b)
int_held ArithmeticOp.Subtract a b f g = int_answer_held (a -ℤ b)
int_held ArithmeticOp.Multiply a b f g = int_answer_held (a *ℤ b)
int_held ArithmeticOp.Divide a b f g =
    held_if (of int_type) (int_eq b (pos 0)) _ _ (λ _. tt) (λ _. int_answer_held (int_div a b))
int_held ArithmeticOp.Remainder a b f g =
    held_if (of int_type) (int_eq b (pos 0)) _ _ (λ _. tt) (λ some. held_if (of int_type) (is_int64 (int_div a b)) _ _
    (λ _. remainder_fits a b g some) (λ _. tt))

uint_held : (op : ArithmeticOp) (a b : ℕ) → a < 2 ^ 64 → b < 2 ^ 64
    → MayHold (of uint_type) (uint_arithmetic op a b)
uint_held ArithmeticOp.Add a b f g = uint_answer_held (a + b)
uint_held ArithmeticOp.Subtract a b f g = held_if (of uint_type) (nat_le b a) _ _ (λ _. less) (λ _. tt)
  where
    less : a - b < 2 ^ 64
    less = omega arith
uint_held ArithmeticOp.Multiply a b f g = uint_answer_held (a * b)
uint_held ArithmeticOp.Divide a b f g = held_if (of uint_type) (b == 0) _ _ (λ _. tt) (λ _. less)
  where
    less : a / b < 2 ^ 64
    less = omega (arith, div-le_self a b)
uint_held ArithmeticOp.Remainder a b f g = held_if (of uint_type) (b == 0) _ _ (λ _. tt) (λ _. less)
  where
    less : a % b < 2 ^ 64
    less = omega (arith, mod-le a b)

-- ---- constants

pub constant_typed : (v : CelValue) (r : Slot) → constant_slot v ≡ Some r → Gives (Some (value v)) r
constant_typed (bool b) r e = let it : of bool_type ≡ r = some_is (of bool_type) r e in rw (← it) tt
constant_typed (int i) r e = let given = given_if (is_int64 i) int_type r e in rw (← given.1) (int64 i given.0)
constant_typed (uint n) r e = let given = given_if (nat_lt n (2 ^ 64)) uint_type r e in rw (← given.1) (uint64 n given.0)
constant_typed (text cs) r e = let given = given_if (all_scalars cs) text_type r e in rw (← given.1) given.0
constant_typed (bytes bs) r e = let it : of bytes_type ≡ r = some_is (of bytes_type) r e in rw (← it) tt
constant_typed (list vs) r e = cc
constant_typed (map_of es) r e = cc

-- ---- numbers

numbers_typed : (op : ArithmeticOp) (c : Slot) (x y : CelAnswer) → MayHold c x → MayHold c y
    → (r : Slot) → number_slot c ≡ Some r → Gives (arithmetic op x y) r
numbers_typed op c (fails e) y f g r is = tt
numbers_typed op c (value v) (fails e) f g r is = tt
numbers_typed op failing (value v) (value w) f g r is = absurd f
numbers_typed op (of int_type) (value v) (value w) f g r is =
    let a = int_in v f in let b = int_in w g in
    rw (← some_is (of int_type) r is, a.1, b.1) (int_held op a.0 b.0 a.2 b.2)
numbers_typed op (of uint_type) (value v) (value w) f g r is =
    let a = uint_in v f in let b = uint_in w g in
    rw (← some_is (of uint_type) r is, a.1, b.1) (uint_held op a.0 b.0 a.2 b.2)
numbers_typed op (of bool_type) (value v) (value w) f g r is = cc
numbers_typed op (of text_type) (value v) (value w) f g r is = cc
numbers_typed op (of bytes_type) (value v) (value w) f g r is = cc
numbers_typed op (of (list_type t)) (value v) (value w) f g r is = cc
numbers_typed op (of (map_type k t)) (value v) (value w) f g r is = cc

pub arithmetic_typed : (op : ArithmeticOp) → KeepsTwo arithmetic_slot (arithmetic op)
arithmetic_typed op = keeps_joined number_slot (arithmetic op) (numbers_typed op)

pub opposite_typed : KeepsOne (same_slot int_type) opposite
opposite_typed = keeps_one int_type int_type opposite opposite_kept
  where
    opposite_kept : (x : CelAnswer) → MayHold (of int_type) x → Gives (opposite x) (of int_type)
    opposite_kept (fails e) f = tt
    opposite_kept (value v) f = let a = int_in v f in rw a.1 (int_answer_held (neg_ℤ a.0))

-- ---- bools

pub not_typed : KeepsOne (same_slot bool_type) logical_not
not_typed = keeps_one bool_type bool_type logical_not not_kept
  where
    not_kept : (x : CelAnswer) → MayHold (of bool_type) x → Gives (logical_not x) (of bool_type)
    not_kept (fails e) f = tt
    not_kept (value v) f = let a = bool_in v f in rw a.1 tt

pub nsf_typed : KeepsOne (same_slot bool_type) not_strictly_false
nsf_typed = keeps_one bool_type bool_type not_strictly_false nsf_kept
  where
    nsf_kept : (x : CelAnswer) → MayHold (of bool_type) x → Gives (not_strictly_false x) (of bool_type)
    nsf_kept (fails e) f = tt
    nsf_kept (value v) f = let a = bool_in v f in rw a.1 tt

and_held : (a b : Bool) → Gives (conjunction (value (bool a)) (value (bool b))) (of bool_type)
and_held true b = tt
and_held false b = tt

and_held_left : (a : Bool) (e : CelError) → Gives (conjunction (value (bool a)) (fails e)) (of bool_type)
and_held_left true e = tt
and_held_left false e = tt

and_held_right : (e : CelError) (b : Bool) → Gives (conjunction (fails e) (value (bool b))) (of bool_type)
and_held_right e true = tt
and_held_right e false = tt

pub and_typed : KeepsTwo (test_slot bool_type) conjunction
and_typed = keeps_two bool_type bool_type bool_type conjunction and_kept
  where
    and_kept : (x y : CelAnswer) → MayHold (of bool_type) x → MayHold (of bool_type) y
        → Gives (conjunction x y) (of bool_type)
    and_kept (fails e) (fails d) f g = tt
    and_kept (fails e) (value w) f g = let b = bool_in w g in rw b.1 (and_held_right e b.0)
    and_kept (value v) (fails e) f g = let a = bool_in v f in rw a.1 (and_held_left a.0 e)
    and_kept (value v) (value w) f g =
        let a = bool_in v f in let b = bool_in w g in rw (a.1, b.1) (and_held a.0 b.0)

or_held : (a b : Bool) → Gives (disjunction (value (bool a)) (value (bool b))) (of bool_type)
or_held true b = tt
or_held false b = tt

or_held_left : (a : Bool) (e : CelError) → Gives (disjunction (value (bool a)) (fails e)) (of bool_type)
or_held_left true e = tt
or_held_left false e = tt

or_held_right : (e : CelError) (b : Bool) → Gives (disjunction (fails e) (value (bool b))) (of bool_type)
or_held_right e true = tt
or_held_right e false = tt

pub or_typed : KeepsTwo (test_slot bool_type) disjunction
or_typed = keeps_two bool_type bool_type bool_type disjunction or_kept
  where
    or_kept : (x y : CelAnswer) → MayHold (of bool_type) x → MayHold (of bool_type) y
        → Gives (disjunction x y) (of bool_type)
    or_kept (fails e) (fails d) f g = tt
    or_kept (fails e) (value w) f g = let b = bool_in w g in rw b.1 (or_held_right e b.0)
    or_kept (value v) (fails e) f g = let a = bool_in v f in rw a.1 (or_held_left a.0 e)
    or_kept (value v) (value w) f g =
        let a = bool_in v f in let b = bool_in w g in rw (a.1, b.1) (or_held a.0 b.0)

-- ---- conversions

converted_held : (t : ValueType) (o : Option CelAnswer) → Answers o t → Gives o (of t)
converted_held t None h = absurd h
converted_held t (Some (value v)) h = h
converted_held t (Some (fails e)) h = tt

held_typed : (t : ValueType) (x : CelAnswer) → MayHold (of t) x → AnswerHasType x t
held_typed t (value v) f = f
held_typed t (fails e) f = tt

pub converted_typed : (kind : Conversion) → KeepsOne (convert_slot kind) (conversion kind)
converted_typed kind = keeps_one (converted_type kind) (conversion_type kind) (conversion kind)
    (λ x f. converted_held (conversion_type kind) (conversion kind x)
    (conversion_typed kind x (held_typed (converted_type kind) x f)))

-- ---- comparisons, and tests of texts

has_an_order : (t : ValueType) (v w : CelValue) → is_ordered t ≡ true → HasType v t → HasType w t
    → (o : Ordering) × (order_of v w ≡ Some o)
has_an_order bool_type v w h f g =
    let a = bool_in v f in let b = bool_in w g in (bool_cmp a.0 b.0, ap₂ order_of a.1 b.1)
has_an_order int_type v w h f g =
    let a = int_in v f in let b = int_in w g in (int_cmp a.0 b.0, ap₂ order_of a.1 b.1)
has_an_order uint_type v w h f g =
    let a = uint_in v f in let b = uint_in w g in (nat_cmp a.0 b.0, ap₂ order_of a.1 b.1)
has_an_order text_type v w h f g =
    let a = text_in v f in let b = text_in w g in (slice_cmp nat_cmp a.0 b.0, ap₂ order_of a.1 b.1)
has_an_order bytes_type v w h f g =
    let a = bytes_in v f in let b = bytes_in w g in (slice_cmp nat_cmp a.0 b.0, ap₂ order_of a.1 b.1)
has_an_order (list_type t) v w h f g = cc
has_an_order (map_type k t) v w h f g = cc

compared : (op : CompareOp) (t : ValueType) (v w : CelValue) → may_compare op (of t) ≡ true
    → HasType v t → HasType w t → Gives (comparison_of op v w) (of bool_type)
compared CompareOp.Equal t v w h f g = tt
compared CompareOp.NotEqual t v w h f g = tt
compared CompareOp.Less t v w h f g = let o = has_an_order t v w h f g in rw o.1 tt
compared CompareOp.LessOrEqual t v w h f g = let o = has_an_order t v w h f g in rw o.1 tt
compared CompareOp.Greater t v w h f g = let o = has_an_order t v w h f g in rw o.1 tt
compared CompareOp.GreaterOrEqual t v w h f g = let o = has_an_order t v w h f g in rw o.1 tt

comparison_kept : (op : CompareOp) (c : Slot) (x y : CelAnswer) → MayHold c x → MayHold c y
    → (r : Slot) → of_type_if (may_compare op c) bool_type ≡ Some r → Gives (comparison op x y) r
comparison_kept op c (fails e) y f g r is = tt
comparison_kept op c (value v) (fails e) f g r is = tt
comparison_kept op failing (value v) (value w) f g r is = absurd f
comparison_kept op (of t) (value v) (value w) f g r is =
    let given = given_if (may_compare op (of t)) bool_type r is in
    rw (← given.1) (compared op t v w given.0 f g)

pub comparison_typed : (op : CompareOp) → KeepsTwo (compare_slot op) (comparison op)
comparison_typed op = keeps_joined (λ c. of_type_if (may_compare op c) bool_type) (comparison op) (comparison_kept op)

pub text_test_typed : (test : TextTest) → KeepsTwo (test_slot text_type) (text_test test)
text_test_typed test = keeps_two text_type text_type bool_type (text_test test) text_test_kept
  where
    text_test_kept : (x y : CelAnswer) → MayHold (of text_type) x → MayHold (of text_type) y
        → Gives (text_test test x y) (of bool_type)
    text_test_kept (fails e) y f g = tt
    text_test_kept (value v) (fails e) f g = tt
    text_test_kept (value v) (value w) f g =
        let a = text_in v f in let b = text_in w g in rw (a.1, b.1) tt
