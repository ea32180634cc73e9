-- The table computed on calls of the CEL language definition: which overload they are, what they
-- answer, and what they are charged.
use Rattle.std.proofs.Common.{◌≡◌, pos, negsuc, true, false, [], ◌∷◌, Some, None, refl}
use Rattle.std.specs.Prelude.{codes}
use Rattle.cel_value.specs.Values.{bool, int, text, list, map_of, no_items, item, no_entries, entry, text_key, CelAnswer, value, fails}
use Rattle.cel_value.specs.Types.{bool_type, int_type, uint_type, text_type, bytes_type, list_type, map_type}
use Rattle.cel_value.specs.declared.cel_type.KeyType.TheVariants as keys
use Rattle.cel_value.specs.declared.error.CelError.TheVariants.{NoKey, ZeroDivisor}
use Rattle.cel_ops.specs.declared.arithmetic.ArithmeticOp.TheVariants.{Add, Subtract}
use Rattle.cel_ops.specs.declared.comparison.CompareOp.TheVariants.{Equal, Less}
use Rattle.cel_ops.specs.declared.conversion.Conversion.TheVariants.{UintToInt, IntToText, BytesToText}
use Rattle.cel_ops.specs.declared.texts.TextTest.TheVariants.{StartsWith}
use Rattle.cel_overload.specs.Answers.{function_answer, overload_answer}
use Rattle.cel_overload.specs.private.Charges.{overload_charge}
use Rattle.cel_overload.specs.Functions.{function_named}
use Rattle.cel_overload.specs.Overloads.{CallFault, IsCall}
use Rattle.cel_overload.specs.declared.function.Function.TheVariants as functions
use Rattle.cel_ops.specs.declared.operation.Operation.TheVariants as operations
use Rattle.cel_overload.specs.declared.overload.Overload.TheVariants as overloads
use Rattle.cel_overload.specs.declared.overload.OverloadFault.TheVariants.{UnknownName, NoOverload}
use Rattle.cel_overload.proofs.OneOverload.{unchosen}

-- the three names of membership are one function, and `matches` is none

in_is_in : function_named (codes "in") ≡ Some functions.In
in_is_in = refl

old_in : function_named (codes "_in_") ≡ Some functions.In
old_in = refl

parser_in : function_named (codes "@in") ≡ Some functions.In
parser_in = refl

less : function_named (codes "_<_") ≡ Some (functions.Compare Less)
less = refl

no_matches : CallFault (codes "matches") true (text_type ∷ text_type ∷ []) UnknownName
no_matches = refl

-- `1 + 1`, `"a" + "b"` and `[1] + [2]`

add_ints : IsCall (codes "_+_") false (int_type ∷ int_type ∷ []) (overloads.Operate (operations.Arithmetic Add)) int_type
add_ints = (
  functions.Arithmetic Add,
  refl,
  record { function = refl; shape = refl; operands = (tt, refl) },
)

add_texts : IsCall (codes "_+_") false (text_type ∷ text_type ∷ []) (overloads.Operate operations.Concat) text_type
add_texts = (
  functions.Arithmetic Add,
  refl,
  record { function = refl; shape = refl; operands = (tt, refl) },
)

add_lists : IsCall (codes "_+_") false (list_type int_type ∷ list_type int_type ∷ [])
    (overloads.Operate operations.Concat) (list_type int_type)
add_lists = (
  functions.Arithmetic Add,
  refl,
  record { function = refl; shape = refl; operands = (tt, refl) },
)

-- `1 + 1u` is no overload, nor is `1 == 1u`: numbers are not converted

int_and_uint : CallFault (codes "_+_") false (int_type ∷ uint_type ∷ []) NoOverload
int_and_uint = (
  functions.Arithmetic Add,
  refl,
  unchosen (functions.Arithmetic Add) false (int_type ∷ uint_type ∷ []) refl,
)

int_is_no_uint : CallFault (codes "_==_") false (int_type ∷ uint_type ∷ []) NoOverload
int_is_no_uint = (
  functions.Compare Equal,
  refl,
  unchosen (functions.Compare Equal) false (int_type ∷ uint_type ∷ []) refl,
)

-- lists are equal or not, and have no order

equal_lists : IsCall (codes "_==_") false (list_type int_type ∷ list_type int_type ∷ [])
    (overloads.Operate (operations.Compare Equal)) bool_type
equal_lists = (
  functions.Compare Equal,
  refl,
  record { function = refl; shape = refl; operands = (list_type int_type, tt, refl, refl) },
)

lists_without_order : CallFault (codes "_<_") false (list_type int_type ∷ list_type int_type ∷ [])
    NoOverload
lists_without_order = (
  functions.Compare Less,
  refl,
  unchosen (functions.Compare Less) false (list_type int_type ∷ list_type int_type ∷ []) refl,
)

-- `size("a")` and `"a".size()` are one overload; an operator takes no target, `startsWith` needs one

size_of_text : IsCall (codes "size") false (text_type ∷ []) (overloads.Operate operations.Size) int_type
size_of_text = (
  functions.Size,
  refl,
  record { function = refl; shape = refl; operands = (text_type, tt, refl, refl) },
)

size_on_text : IsCall (codes "size") true (text_type ∷ []) (overloads.Operate operations.Size) int_type
size_on_text = (
  functions.Size,
  refl,
  record { function = refl; shape = refl; operands = (text_type, tt, refl, refl) },
)

plus_on_target : CallFault (codes "_+_") true (int_type ∷ int_type ∷ []) NoOverload
plus_on_target = (
  functions.Arithmetic Add,
  refl,
  unchosen (functions.Arithmetic Add) true (int_type ∷ int_type ∷ []) refl,
)

starts_without_target : CallFault (codes "startsWith") false (text_type ∷ text_type ∷ []) NoOverload
starts_without_target = (
  functions.TestText StartsWith,
  refl,
  unchosen (functions.TestText StartsWith) false (text_type ∷ text_type ∷ []) refl,
)

-- `int(1u)`, `string(1)` and `string(b"a")` are overloads, `int(1)` and `uint("1")` are none

int_of_uint : IsCall (codes "int") false (uint_type ∷ []) (overloads.Operate (operations.Convert UintToInt)) int_type
int_of_uint = (
  functions.ToInt,
  refl,
  record { function = refl; shape = refl; operands = (refl, refl) },
)

string_of_int : IsCall (codes "string") false (int_type ∷ []) (overloads.Operate (operations.Convert IntToText)) text_type
string_of_int = (
  functions.ToText,
  refl,
  record { function = refl; shape = refl; operands = (refl, refl) },
)

string_of_bytes : IsCall (codes "string") false (bytes_type ∷ []) (overloads.Operate (operations.Convert BytesToText)) text_type
string_of_bytes = (
  functions.ToText,
  refl,
  record { function = refl; shape = refl; operands = (refl, refl) },
)

int_of_int : CallFault (codes "int") false (int_type ∷ []) NoOverload
int_of_int = (
  functions.ToInt,
  refl,
  unchosen functions.ToInt false (int_type ∷ []) refl,
)

uint_of_text : CallFault (codes "uint") false (text_type ∷ []) NoOverload
uint_of_text = (
  functions.ToUint,
  refl,
  unchosen functions.ToUint false (text_type ∷ []) refl,
)

string_on_target : CallFault (codes "string") true (int_type ∷ []) NoOverload
string_on_target = (
  functions.ToText,
  refl,
  unchosen functions.ToText true (int_type ∷ []) refl,
)

-- a key has the map's type of keys

index_by_text : IsCall (codes "_[_]") false (map_type keys.Text int_type ∷ text_type ∷ [])
    (overloads.Operate operations.MapIndex) int_type
index_by_text = (
  functions.Index,
  refl,
  record { function = refl; shape = refl; operands = (keys.Text, refl) },
)

index_by_int : CallFault (codes "_[_]") false (map_type keys.Text int_type ∷ int_type ∷ [])
    NoOverload
index_by_int = (
  functions.Index,
  refl,
  unchosen functions.Index false (map_type keys.Text int_type ∷ int_type ∷ []) refl,
)

-- both branches of a conditional have one type

two_branches : CallFault (codes "_?_:_") false (bool_type ∷ int_type ∷ text_type ∷ []) NoOverload
two_branches = (
  functions.Conditional,
  refl,
  unchosen functions.Conditional false (bool_type ∷ int_type ∷ text_type ∷ []) refl,
)

-- ---- answers

-- `true ? 1 : 2` is 1, whatever the other branch comes to; an error of the condition stands

first_branch : overload_answer overloads.Conditional (value (bool true) ∷ value (int (pos 1))
    ∷ fails ZeroDivisor ∷ []) ≡ Some (value (int (pos 1)))
first_branch = refl

error_of_condition : overload_answer overloads.Conditional (fails NoKey ∷ value (int (pos 1))
    ∷ fails ZeroDivisor ∷ []) ≡ Some (fails NoKey)
error_of_condition = refl

-- `"a" + "b"` and `3 - 5`

joined_texts : function_answer (functions.Arithmetic Add) (value (text (codes "a"))
    ∷ value (text (codes "b")) ∷ []) ≡ Some (value (text (codes "ab")))
joined_texts = refl

sum : function_answer (functions.Arithmetic Add) (value (int (pos 3))
    ∷ value (int (negsuc 4)) ∷ []) ≡ Some (value (int (negsuc 1)))
sum = refl

difference : overload_answer (overloads.Operate (operations.Arithmetic Subtract)) (value (int (pos 3))
    ∷ value (int (pos 5)) ∷ []) ≡ Some (value (int (negsuc 1)))
difference = refl

abbrev ages : CelAnswer
ages = value (map_of (entry (text_key (codes "ann")) (int (pos 7)) no_entries))

-- `{"ann": 7}["ann"]`, `"ann" in {"ann": 7}` and `7 in [7]`

age_of_ann : function_answer functions.Index (ages ∷ value (text (codes "ann")) ∷ [])
    ≡ Some (value (int (pos 7)))
age_of_ann = refl

ann_is_in : function_answer functions.In (value (text (codes "ann")) ∷ ages ∷ [])
    ≡ Some (value (bool true))
ann_is_in = refl

seven_is_in : function_answer functions.In
    (value (int (pos 7)) ∷ value (list (item (int (pos 7)) no_items)) ∷ [])
    ≡ Some (value (bool true))
seven_is_in = refl

-- operands of a wrong kind or number have no answer

bool_plus_bool : function_answer (functions.Arithmetic Add)
    (value (bool true) ∷ value (bool true) ∷ []) ≡ None
bool_plus_bool = refl

one_operand : function_answer functions.And (value (bool true) ∷ []) ≡ None
one_operand = refl

-- ---- charges: 1 and both masses, 1 and both lengths, 1

compared : overload_charge (overloads.Operate (operations.Compare Equal)) (value (text (codes "GET"))
    ∷ value (text (codes "GET")) ∷ []) ≡ 9
unfolding lib.Utf8.encode
compared = refl

joined : overload_charge (overloads.Operate operations.Concat) (value (text (codes "GET"))
    ∷ value (text (codes "GET")) ∷ []) ≡ 7
unfolding lib.Utf8.encode
joined = refl

added : overload_charge (overloads.Operate (operations.Arithmetic Add)) (value (int (pos 1)) ∷ value (int (pos 1)) ∷ [])
    ≡ 1
added = refl
