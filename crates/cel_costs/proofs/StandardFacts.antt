-- Sizes and costs computed on expressions worked out by hand.
use Rattle.std.proofs.Common.{◌≡◌, ◌<◌, ◌^◌, ◌-◌, ℕ, zero, suc, pos, negsuc, Bool, true, false, List, [], ◌∷◌, refl, lit<}
use Rattle.std.specs.Prelude.{codes}
use Rattle.attributes.specs.Limits.{largest}
use Rattle.attributes.specs.declared.attribute.AttrId.{AttrId}
use Rattle.cel_value.specs.Types.{ValueType, bool_type, bytes_type, int_type, list_type, map_type, text_type, uint_type}
use Rattle.cel_value.specs.Values.{bool, bytes, int, text, uint}
use Rattle.cel_value.specs.declared.cel_type.KeyType.{KeyType}
use Rattle.cel_ops.specs.declared.arithmetic.ArithmeticOp.TheVariants.{Add, Divide, Subtract}
use Rattle.cel_ops.specs.declared.comparison.CompareOp.TheVariants.{Equal, Greater}
use Rattle.cel_overload.specs.declared.overload.Overload.{Overload}
use Rattle.cel_ops.specs.declared.conversion.Conversion.{Conversion}
use Rattle.cel_ops.specs.declared.conversion.Conversion.TheVariants as conversions
use Rattle.cel_ops.specs.declared.operation.Operation.TheVariants as operations
use Rattle.cel_overload.specs.declared.overload.Overload.TheVariants as overloads
use Rattle.cel_types.specs.Elaborated.{TypedTree, TypedTrees, no_typed, typed, typed_attribute, typed_call, typed_constant, typed_has, typed_list, typed_local, typed_loop, typed_map}
use Rattle.cel_types.specs.declared.typed.Variables.{Variables}
use Rattle.cel_types.specs.declared.typed.Variables.TheVariants as variables
use Rattle.cel_costs.specs.Costs.{cost_of, size_of}
use Rattle.cel_costs.specs.Sizes.{Flat, Many, Size, Table, Text}

-- ---- how the examples are written

-- the cost within the greatest limits that may be declared
abbrev costs : TypedTree → ℕ
costs e = cost_of e largest []

abbrev sizes : TypedTree → Size
sizes e = size_of e largest []

abbrev all_of : List TypedTree → TypedTrees
all_of [] = no_typed
all_of (e ∷ es) = typed e (all_of es)

abbrev truth : Bool → TypedTree
truth b = typed_constant bool_type (bool b)

abbrev number : ℕ → TypedTree
number n = typed_constant int_type (int (pos n))

abbrev string : List ℕ → TypedTree
string cs = typed_constant text_type (text cs)

abbrev test : Overload → List TypedTree → TypedTree
test o es = typed_call bool_type o (all_of es)

abbrev equals : TypedTree → TypedTree → TypedTree
equals a b = test (overloads.Operate (operations.Compare Equal)) (a ∷ b ∷ [])

abbrev quotient : TypedTree → TypedTree → TypedTree
quotient a b = typed_call int_type (overloads.Operate (operations.Arithmetic Divide)) (all_of (a ∷ b ∷ []))

abbrev joined : TypedTree → TypedTree → TypedTree
joined a b = typed_call text_type (overloads.Operate operations.Concat) (all_of (a ∷ b ∷ []))

abbrev choice : TypedTree → TypedTree → TypedTree → TypedTree
choice c a b = typed_call int_type overloads.Conditional (all_of (c ∷ a ∷ b ∷ []))

abbrev method : TypedTree
method = typed_attribute text_type AttrId.RequestMethod

abbrev headers : TypedTree
headers = typed_attribute (map_type KeyType.Text text_type) AttrId.RequestHeaders

abbrev numbers : List TypedTree → TypedTree
numbers es = typed_list (list_type int_type) (all_of es)

-- the accumulator and the first and second variable of a loop outside of which are no locals
abbrev gathered : ValueType → TypedTree
gathered t = typed_local t 0

abbrev element : ValueType → TypedTree
element t = typed_local t 1

abbrev second : ValueType → TypedTree
second t = typed_local t 2

-- ---- macros, as they are expanded: CEL language definition, "Macros"

abbrev all_over : Variables → TypedTree → TypedTree → TypedTree
all_over vars range passes = typed_loop bool_type vars range (truth true)
    (test (overloads.Operate operations.NotStrictlyFalse) (gathered bool_type ∷ []))
    (test (overloads.Operate operations.And) (gathered bool_type ∷ passes ∷ [])) (gathered bool_type)

abbrev exists_over : Variables → TypedTree → TypedTree → TypedTree
exists_over vars range passes = typed_loop bool_type vars range (truth false)
    (test (overloads.Operate operations.NotStrictlyFalse)
    (test (overloads.Operate operations.Not) (gathered bool_type ∷ []) ∷ []))
    (test (overloads.Operate operations.Or) (gathered bool_type ∷ passes ∷ [])) (gathered bool_type)

abbrev all : TypedTree → TypedTree → TypedTree
all = all_over variables.One

abbrev exists : TypedTree → TypedTree → TypedTree
exists = exists_over variables.One

-- ---- calls

true_and_true : costs (test (overloads.Operate operations.And) (truth true ∷ truth true ∷ [])) ≡ 4
true_and_true = refl

-- 1 + 1 + (1 + 33 + 4)
method_is_get : costs (equals method (string (codes "GET"))) ≡ 40
unfolding lib.Utf8.encode
method_is_get = refl

-- `9223372036854775807 + 1 == 0`
sum_is_zero : costs (equals (typed_call int_type (overloads.Operate (operations.Arithmetic Add))
    (all_of (number (2 ^ 63 - 1) ∷ number 1 ∷ []))) (number 0)) ≡ 7
sum_is_zero = refl

-- `1 / 0 == 0 || true`
zero_divisor_or_true : costs (test (overloads.Operate operations.Or)
    (equals (quotient (number 1) (number 0)) (number 0) ∷ truth true ∷ [])) ≡ 10
zero_divisor_or_true = refl

-- `(true ? 1 / 0 : 2) == 2`: of the branches the dearer one counts
first_branch : costs (equals
    (choice (truth true) (quotient (number 1) (number 0)) (number 2)) (number 2)) ≡ 10
first_branch = refl

second_branch : costs (equals
    (choice (truth false) (quotient (number 1) (number 0)) (number 2)) (number 2)) ≡ 10
second_branch = refl

-- `request.headers["x-user"] == "a"`
missing_header : costs (equals (typed_call text_type (overloads.Operate operations.MapIndex)
    (all_of (headers ∷ string (codes "x-user") ∷ []))) (string (codes "a"))) ≡ 4552
unfolding lib.Utf8.encode
missing_header = refl

-- `has(request.headers.xuser)`
has_header : costs (typed_has bool_type headers (codes "xuser")) ≡ 386
unfolding lib.Utf8.encode
has_header = refl

-- `size([]) == 0`
empty_literal : costs (equals
    (typed_call int_type (overloads.Operate operations.Size) (all_of (numbers [] ∷ []))) (number 0)) ≡ 6
empty_literal = refl

-- so many `!` before `true`
abbrev denied : ℕ → TypedTree
denied zero = truth true
denied (suc n) = test (overloads.Operate operations.Not) (denied n ∷ [])

denied_often : costs (denied 63) ≡ 64
denied_often = refl

-- `2 in [0, 1]`: 1 + 5 + (1 + 3 + 2 * 1)
in_list : costs (test (overloads.Operate operations.InList) (number 2 ∷ numbers (number 0 ∷ number 1 ∷ []) ∷ [])) ≡ 12
in_list = refl

-- `{"a": 1, "bc": 2}`: 4 + (1 + (2 + 3) * 2)
abbrev two_entries : TypedTree
two_entries = typed_map (map_type KeyType.Text int_type)
    (all_of (string (codes "a") ∷ number 1 ∷ string (codes "bc") ∷ number 2 ∷ []))

map_literal : costs two_entries ≡ 15
unfolding lib.Utf8.encode
map_literal = refl

-- `"a" in {"a": 1, "bc": 2}`
in_map : costs (test (overloads.Operate operations.InMap) (string (codes "a") ∷ two_entries ∷ [])) ≡ 21
unfolding lib.Utf8.encode
in_map = refl

-- ---- comprehensions

-- `1 / x`
abbrev inverse : TypedTree
inverse = quotient (number 1) (element int_type)

abbrev two_numbers : TypedTree
two_numbers = numbers (number 0 ∷ number 1 ∷ [])

-- `[0, 1].all(x, 1 / x > 1)`: 5 + 3 + 1 + 1 + 2 * (2 + 10 + 4) + 1 + 1
all_with_zero_divisor : costs (all two_numbers
    (test (overloads.Operate (operations.Compare Greater)) (inverse ∷ number 1 ∷ []))) ≡ 44
all_with_zero_divisor = refl

all_equal_to_one : costs (all two_numbers (equals inverse (number 1))) ≡ 44
all_equal_to_one = refl

-- `[0, 1].exists(x, 1 / x == 1)`
exists_with_zero_divisor : costs (exists two_numbers (equals inverse (number 1))) ≡ 46
exists_with_zero_divisor = refl

-- `[true, false, true].all(x, x)`
all_of_three : costs (all (typed_list (list_type bool_type)
    (all_of (truth true ∷ truth false ∷ truth true ∷ []))) (element bool_type)) ≡ 45
all_of_three = refl

-- `[].all(x, x == 0)`: no turn
all_of_none : costs (all (numbers []) (equals (element int_type) (number 0))) ≡ 6
all_of_none = refl

-- `[0, 1].exists_one(x, x == 1)`: 5 + 3 + 1 + 1 + 2 * (1 + 10 + 4) + 1 + 5
exists_one : costs (typed_loop bool_type variables.One two_numbers (number 0) (truth true)
    (choice (equals (element int_type) (number 1))
    (typed_call int_type (overloads.Operate (operations.Arithmetic Add)) (all_of (gathered int_type ∷ number 1 ∷ [])))
    (gathered int_type)) (equals (gathered int_type) (number 1))) ≡ 46
exists_one = refl

-- `[0, 1].map(x, x)`: 5 + 3 + 1 + 1 + (1 + 6 + 4) + (1 + 7 + 4) + 1 + 1
abbrev same_numbers : TypedTree
same_numbers = typed_loop (list_type int_type) variables.One two_numbers (numbers []) (truth true)
    (typed_call (list_type int_type) (overloads.Operate operations.Concat)
    (all_of (gathered (list_type int_type) ∷ numbers (element int_type ∷ []) ∷ [])))
    (gathered (list_type int_type))

map_macro : costs same_numbers ≡ 35
map_macro = refl

map_macro_size : sizes same_numbers ≡ Many 2 Flat
map_macro_size = refl

-- `[0, 1].all(x, [0, 1].all(y, true))`: 32 within, and 5 + 3 + 1 + 1 + 2 * (2 + 35 + 4) + 1 + 1
nested : costs (all two_numbers (typed_loop bool_type variables.One two_numbers (truth true)
    (test (overloads.Operate operations.NotStrictlyFalse) (typed_local bool_type 2 ∷ []))
    (test (overloads.Operate operations.And) (typed_local bool_type 2 ∷ truth true ∷ []))
    (typed_local bool_type 2))) ≡ 94
nested = refl

-- `[7, 8].all(i, x, x - i == 7)`: 5 + 3 + 1 + 1 + 2 * (2 + 10 + 4) + 1 + 1
all_of_two_variables : costs (all_over variables.Two (numbers (number 7 ∷ number 8 ∷ []))
    (equals (typed_call int_type (overloads.Operate (operations.Arithmetic Subtract))
    (all_of (second int_type ∷ element int_type ∷ []))) (number 7))) ≡ 44
all_of_two_variables = refl

-- `{"a": 1, "b": 2}.exists(k, v, k == "b" && v == 2)`: 13 + 3 + 1 + 1 + 2 * (3 + 17 + 4) + 1 + 1
exists_of_two_variables : costs (exists_over variables.Two (typed_map (map_type KeyType.Text int_type)
    (all_of (string (codes "a") ∷ number 1 ∷ string (codes "b") ∷ number 2 ∷ [])))
    (test (overloads.Operate operations.And) (equals (element text_type) (string (codes "b"))
    ∷ equals (second int_type) (number 2) ∷ []))) ≡ 68
unfolding lib.Utf8.encode
exists_of_two_variables = refl

-- over the headers, `"a"` joined with itself at each turn, compared with `"a"` at last
abbrev doubling : TypedTree
doubling = typed_loop bool_type variables.One headers (string (codes "a")) (truth true)
    (joined (gathered text_type) (gathered text_type))
    (equals (gathered text_type) (string (codes "a")))

-- the same over as many elements as written
abbrev doubled : TypedTree → TypedTree
doubled range = typed_loop text_type variables.One range (string (codes "a")) (truth true)
    (joined (gathered text_type) (gathered text_type)) (gathered text_type)

-- it doubles at each turn
doubled_twice : sizes (doubled two_numbers) ≡ Text 4
unfolding lib.Utf8.encode
doubled_twice = refl

-- 5 + 3 + 1 + 1 + (1 + 5 + 4) + (1 + 7 + 4) + 1 + 1
doubled_cost : costs (doubled two_numbers) ≡ 34
unfolding lib.Utf8.encode
doubled_cost = refl

doubling_accumulator : 10 ^ 8 < costs doubling
unfolding lib.Utf8.encode
doubling_accumulator = lit< tt

-- ---- conversions

abbrev converted : ValueType → Conversion → TypedTree → TypedTree
converted t kind e = typed_call t (overloads.Operate (operations.Convert kind)) (all_of (e ∷ []))

abbrev octets : List ℕ → TypedTree
octets bs = typed_constant bytes_type (bytes bs)

-- `int(18446744073709551615u) == 0`: 1 + 1 + 1 + (1 + 1 + 1)
int_of_greatest : costs (equals
    (converted int_type conversions.UintToInt (typed_constant uint_type (uint (2 ^ 64 - 1)))) (number 0)) ≡ 6
int_of_greatest = refl

-- `string(-5) == "-5"`: 1 + 21 + 1 + (1 + 21 + 3)
text_of_an_int : costs (equals
    (converted text_type conversions.IntToText (typed_constant int_type (int (negsuc 4)))) (string (codes "-5"))) ≡ 48
unfolding lib.Utf8.encode
text_of_an_int = refl

-- `bytes("é") == b"\xc3\xa9"`: 1 + 3 + 1 + (1 + 3 + 3)
bytes_of_a_text : costs (equals
    (converted bytes_type conversions.TextToBytes (string (233 ∷ []))) (octets (195 ∷ 169 ∷ []))) ≡ 12
unfolding lib.Utf8.encode
bytes_of_a_text = refl

-- `string(b"\xff") == ""`: 1 + 2 + 1 + (1 + 2 + 1)
text_of_other_bytes : costs (equals
    (converted text_type conversions.BytesToText (octets (255 ∷ []))) (string [])) ≡ 8
unfolding lib.Utf8.encode
text_of_other_bytes = refl

-- ---- sizes

choice_size : sizes (typed_call text_type overloads.Conditional
    (all_of (truth true ∷ string (codes "ab") ∷ string (codes "abc") ∷ []))) ≡ Text 3
unfolding lib.Utf8.encode
choice_size = refl

list_size : sizes (typed_list (list_type text_type)
    (all_of (string (codes "ab") ∷ method ∷ []))) ≡ Many 2 (Text 32)
unfolding lib.Utf8.encode
list_size = refl

headers_size : sizes headers ≡ Table 64 (Text 128) (Text 4096)
headers_size = refl
