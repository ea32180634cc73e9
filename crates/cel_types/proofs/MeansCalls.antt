-- On operands of an overload's types its function answers what the overload answers.
use Rattle.std.proofs.Common.{◌≡◌, Bool, List, [], ◌∷◌, Option, refl, subst}
use Rattle.cel_value.specs.Types.{HasType, ValueType, bytes_type, int_type, list_type, map_type, text_type, type_of_key, uint_type}
use Rattle.cel_value.specs.Values.{CelAnswer, CelValue, bytes, fails, int, list, map_of, text, uint, value}
use Rattle.cel_value.specs.declared.cel_type.KeyType.{KeyType}
use Rattle.cel_ops.specs.Arithmetic.{arithmetic_of}
use Rattle.cel_ops.specs.Conversions.{conversion_of}
use Rattle.cel_ops.specs.Collections.{entry_of, in_list_of, in_map_of, item_of}
use Rattle.cel_ops.specs.Parts.{joined_of}
use Rattle.cel_ops.specs.Strict.{strict, strict_two}
use Rattle.cel_ops.specs.Typed.{IsJoined}
use Rattle.cel_ops.specs.declared.arithmetic.ArithmeticOp.{ArithmeticOp}
use Rattle.cel_overload.specs.Answers.{HaveTypes, addition_of, function_answer, in_of, index_of, on_one, on_two, overload_answer, text_conversion_of}
use Rattle.cel_overload.specs.Overloads.{IsNumber, IsOverload, Takes, function_of}
use Rattle.cel_overload.specs.declared.function.Function.{Function}
use Rattle.cel_overload.specs.declared.overload.Overload.{Overload}
use Rattle.cel_ops.specs.declared.conversion.Conversion.TheVariants as conversions
use Rattle.cel_ops.specs.declared.operation.Operation.TheVariants as operations
use Rattle.cel_overload.specs.declared.overload.Overload.TheVariants as overloads

-- what is the same of values of two types is the same of operands of those types
two_same : (f g : CelValue → CelValue → Option CelAnswer) (s t : ValueType)
    → ((v w : CelValue) → HasType v s → HasType w t → f v w ≡ g v w)
    → (ts : List ValueType) → ts ≡ s ∷ t ∷ [] → (answers : List CelAnswer) → HaveTypes answers ts
    → on_two (strict_two f) answers ≡ on_two (strict_two g) answers
two_same f g s t same ts is answers h = at answers (subst (HaveTypes answers) is h)
  where
    at : (answers : List CelAnswer) → HaveTypes answers (s ∷ t ∷ [])
        → on_two (strict_two f) answers ≡ on_two (strict_two g) answers
    at [] h = absurd h
    at (a ∷ []) h = refl
    at (fails e ∷ b ∷ []) h = refl
    at (value v ∷ fails e ∷ []) h = refl
    at (value v ∷ value w ∷ []) h = same v w h.0 h.1.0
    at (a ∷ b ∷ c ∷ answers) h = refl

-- what is the same of values of a type is the same of operands of that type
one_same : (f g : CelValue → Option CelAnswer) (s : ValueType)
    → ((v : CelValue) → HasType v s → f v ≡ g v)
    → (ts : List ValueType) → ts ≡ s ∷ [] → (answers : List CelAnswer) → HaveTypes answers ts
    → on_one (strict f) answers ≡ on_one (strict g) answers
one_same f g s same ts is answers h = at answers (subst (HaveTypes answers) is h)
  where
    at : (answers : List CelAnswer) → HaveTypes answers (s ∷ [])
        → on_one (strict f) answers ≡ on_one (strict g) answers
    at [] h = absurd h
    at (fails e ∷ []) h = refl
    at (value v ∷ []) h = same v h.0
    at (a ∷ b ∷ answers) h = refl

int_text_same : (v : CelValue) → HasType v int_type → text_conversion_of v ≡ conversion_of conversions.IntToText v
int_text_same (int i) h = refl
int_text_same _ h = absurd h

uint_text_same : (v : CelValue) → HasType v uint_type → text_conversion_of v ≡ conversion_of conversions.UintToText v
uint_text_same (uint n) h = refl
uint_text_same _ h = absurd h

bytes_text_same : (v : CelValue) → HasType v bytes_type → text_conversion_of v ≡ conversion_of conversions.BytesToText v
bytes_text_same (bytes bs) h = refl
bytes_text_same _ h = absurd h

sum_same : (t : ValueType) → IsNumber t → (v w : CelValue) → HasType v t → HasType w t
    → addition_of v w ≡ arithmetic_of ArithmeticOp.Add v w
sum_same int_type n (int a) w g h = refl
sum_same int_type n _ w g h = absurd g
sum_same uint_type n (uint a) w g h = refl
sum_same uint_type n _ w g h = absurd g
sum_same _ n v w g h = absurd n

joined_same : (t : ValueType) → IsJoined t → (v w : CelValue) → HasType v t → HasType w t
    → addition_of v w ≡ joined_of v w
joined_same text_type j (text a) w g h = refl
joined_same text_type j _ w g h = absurd g
joined_same bytes_type j (bytes a) w g h = refl
joined_same bytes_type j _ w g h = absurd g
joined_same (list_type t) j (list a) w g h = refl
joined_same (list_type t) j _ w g h = absurd g
joined_same _ j v w g h = absurd j

item_same : (t : ValueType) (v w : CelValue) → HasType v (list_type t) → HasType w int_type
    → index_of v w ≡ item_of v w
item_same t (list vs) w g h = refl
item_same t _ w g h = absurd g

entry_same : (k : KeyType) (t : ValueType) (v w : CelValue) → HasType v (map_type k t)
    → HasType w (type_of_key k) → index_of v w ≡ entry_of v w
entry_same k t (map_of es) w g h = refl
entry_same k t _ w g h = absurd g

in_list_same : (t : ValueType) (v w : CelValue) → HasType v t → HasType w (list_type t)
    → in_of v w ≡ in_list_of v w
in_list_same t v (list vs) g h = refl
in_list_same t v _ g h = absurd h

in_map_same : (k : KeyType) (t : ValueType) (v w : CelValue) → HasType v (type_of_key k)
    → HasType w (map_type k t) → in_of v w ≡ in_map_of v w
in_map_same k t v (map_of es) g h = refl
in_map_same k t v _ g h = absurd h

answer_same : (o : Overload) (ts : List ValueType) (r : ValueType) (answers : List CelAnswer)
    → Takes o ts r → HaveTypes answers ts
    → function_answer (function_of o) answers ≡ overload_answer o answers
answer_same (overloads.Operate operations.And) ts r answers k h = refl
answer_same (overloads.Operate operations.Or) ts r answers k h = refl
answer_same (overloads.Operate operations.Not) ts r answers k h = refl
answer_same (overloads.Operate operations.NotStrictlyFalse) ts r answers k h = refl
answer_same overloads.Conditional ts r answers k h = refl
answer_same (overloads.Operate (operations.Compare op)) ts r answers k h = refl
answer_same (overloads.Operate (operations.Arithmetic ArithmeticOp.Add)) ts r answers k h =
    two_same addition_of (arithmetic_of ArithmeticOp.Add) r r (sum_same r k.0) ts k.1 answers h
answer_same (overloads.Operate (operations.Arithmetic ArithmeticOp.Subtract)) ts r answers k h = refl
answer_same (overloads.Operate (operations.Arithmetic ArithmeticOp.Multiply)) ts r answers k h = refl
answer_same (overloads.Operate (operations.Arithmetic ArithmeticOp.Divide)) ts r answers k h = refl
answer_same (overloads.Operate (operations.Arithmetic ArithmeticOp.Remainder)) ts r answers k h = refl
answer_same (overloads.Operate operations.Concat) ts r answers k h =
    two_same addition_of joined_of r r (joined_same r k.0) ts k.1 answers h
answer_same (overloads.Operate operations.Negate) ts r answers k h = refl
answer_same (overloads.Operate operations.ListIndex) ts r answers k h =
    two_same index_of item_of (list_type r) int_type (item_same r) ts k answers h
answer_same (overloads.Operate operations.MapIndex) ts r answers k h =
    two_same index_of entry_of (map_type k.0 r) (type_of_key k.0) (entry_same k.0 r) ts k.1 answers h
answer_same (overloads.Operate operations.InList) ts r answers k h =
    two_same in_of in_list_of k.0 (list_type k.0) (in_list_same k.0) ts k.1 answers h
answer_same (overloads.Operate operations.InMap) ts r answers k h =
    two_same in_of in_map_of (type_of_key k.0) (map_type k.0 k.1) (in_map_same k.0 k.1) ts k.2
    answers h
answer_same (overloads.Operate operations.Size) ts r answers k h = refl
answer_same (overloads.Operate (operations.TestText test)) ts r answers k h = refl
answer_same (overloads.Operate (operations.Convert conversions.UintToInt)) ts r answers k h = refl
answer_same (overloads.Operate (operations.Convert conversions.IntToUint)) ts r answers k h = refl
answer_same (overloads.Operate (operations.Convert conversions.IntToText)) ts r answers k h =
    one_same text_conversion_of (conversion_of conversions.IntToText) int_type int_text_same ts k.0 answers h
answer_same (overloads.Operate (operations.Convert conversions.UintToText)) ts r answers k h =
    one_same text_conversion_of (conversion_of conversions.UintToText) uint_type uint_text_same ts k.0 answers h
answer_same (overloads.Operate (operations.Convert conversions.BytesToText)) ts r answers k h =
    one_same text_conversion_of (conversion_of conversions.BytesToText) bytes_type bytes_text_same ts k.0 answers h
answer_same (overloads.Operate (operations.Convert conversions.TextToBytes)) ts r answers k h = refl

pub call_same : (f : Function) (target : Bool) (ts : List ValueType) (o : Overload)
    (r : ValueType) (answers : List CelAnswer) → IsOverload f target ts o r
    → HaveTypes answers ts → function_answer f answers ≡ overload_answer o answers
call_same f target ts o r answers g h =
    subst (λ f. function_answer f answers ≡ overload_answer o answers) g.function
    (answer_same o ts r answers g.operands h)
