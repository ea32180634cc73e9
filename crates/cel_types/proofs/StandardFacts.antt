-- The meaning of expressions computed on examples of the CEL language definition and on borders.
use Rattle.std.proofs.Common.{◌≡◌, pos, negsuc, true, false, [], ◌∷◌, Option, None, refl}
use Rattle.std.specs.Prelude.{codes}
use Rattle.std.specs.Str.{chars}
use Rattle.attributes.specs.declared.protocol.Protocol.TheVariants.{Http11}
use Rattle.attributes.specs.Request.{RequestValue, request_of}
use Rattle.attributes.specs.Conn.{only_scheme}
use Rattle.cel_value.specs.Values.{CelAnswer}
use Rattle.cel_value.specs.declared.error.CelError.TheVariants.{Index, MissingAttribute, NoKey, Overflow, RepeatedKey, ZeroDivisor}
use Rattle.cel_tree.specs.Tree.{CelTree, call, select, no_trees, target}
use Rattle.cel_types.specs.Meaning.{eval}
use Rattle.cel_types.proofs.Written.{all, both, broken, calls, choice, either, equals, error, exists, exists_one, filter_macro, gathered, applied, is_int, list_of, macro, map_macro, map_of_one, map_of_two, name, node, not, number, octets, quotient, string, trees, truth, unsigned, yes}

-- `GET /a?b HTTP/1.1` without fields, over plain HTTP
abbrev plain : RequestValue
plain = request_of (codes "GET") (codes "/a?b") Http11 [] (only_scheme (codes "http"))

abbrev means : CelTree → Option CelAnswer
means t = eval t plain []

-- `&&` is false where either side is false, whatever the other comes to; else the leftmost error

false_and_error : means (both (truth false) broken) ≡ not
false_and_error = refl

error_and_false : means (both broken (truth false)) ≡ not
error_and_false = refl

true_and_error : means (both (truth true) broken) ≡ error ZeroDivisor
true_and_error = refl

error_and_true : means (both broken (truth true)) ≡ error ZeroDivisor
error_and_true = refl

true_and_true : means (both (truth true) (truth true)) ≡ yes
true_and_true = refl

-- `||` is true where either side is true

error_or_true : means (either broken (truth true)) ≡ yes
error_or_true = refl

true_or_error : means (either (truth true) broken) ≡ yes
true_or_error = refl

error_or_false : means (either broken (truth false)) ≡ error ZeroDivisor
error_or_false = refl

false_or_false : means (either (truth false) (truth false)) ≡ not
false_or_false = refl

-- `true ? 1 / 0 : 2`, `false ? 1 / 0 : 2`, and an error of the condition

first_branch : means (choice (truth true) (quotient (number (pos 1)) (number (pos 0))) (number (pos 2))) ≡ error ZeroDivisor
first_branch = refl

second_branch : means (choice (truth false) (quotient (number (pos 1)) (number (pos 0))) (number (pos 2))) ≡ is_int (pos 2)
second_branch = refl

condition_fails : means (choice broken (number (pos 1)) (number (pos 2))) ≡ error ZeroDivisor
condition_fails = refl

-- division is cut towards zero, and a remainder has the dividend's sign

seven_by_two : means (quotient (number (pos 7)) (number (pos 2))) ≡ is_int (pos 3)
seven_by_two = refl

rest_of_seven_by_two : means (applied (number (pos 7)) (codes "_%_") (number (pos 2))) ≡ is_int (pos 1)
rest_of_seven_by_two = refl

minus_seven_by_two : means (quotient (number (negsuc 6)) (number (pos 2))) ≡ is_int (negsuc 2)
minus_seven_by_two = refl

rest_of_minus_seven_by_two : means (applied (number (negsuc 6)) (codes "_%_") (number (pos 2))) ≡ is_int (negsuc 0)
rest_of_minus_seven_by_two = refl

seven_by_minus_two : means (quotient (number (pos 7)) (number (negsuc 1))) ≡ is_int (negsuc 2)
seven_by_minus_two = refl

rest_of_seven_by_minus_two : means (applied (number (pos 7)) (codes "_%_") (number (negsuc 1))) ≡ is_int (pos 1)
rest_of_seven_by_minus_two = refl

minus_seven_by_minus_two : means (quotient (number (negsuc 6)) (number (negsuc 1))) ≡ is_int (pos 3)
minus_seven_by_minus_two = refl

rest_of_minus_seven_by_minus_two : means (applied (number (negsuc 6)) (codes "_%_") (number (negsuc 1))) ≡ is_int (negsuc 0)
rest_of_minus_seven_by_minus_two = refl

-- `9223372036854775807 + 1 == 0`, `-9223372036854775808 % -1`, `-(-9223372036854775808)`, `0u - 1u`

sum_overflows : means (equals (applied (number (pos 9223372036854775807)) (codes "_+_") (number (pos 1))) (number (pos 0))) ≡ error Overflow
sum_overflows = refl

remainder_overflows : means (applied (number (negsuc 9223372036854775807)) (codes "_%_") (number (negsuc 0))) ≡ error Overflow
remainder_overflows = refl

opposite_overflows : means (calls (codes "-_") (number (negsuc 9223372036854775807) ∷ [])) ≡ error Overflow
opposite_overflows = refl

below_zero : means (applied (unsigned 0) (codes "_-_") (unsigned 1)) ≡ error Overflow
below_zero = refl

-- the leftmost error stands

leftmost_error : means (applied (quotient (number (pos 1)) (number (pos 0))) (codes "_+_") (applied (number (pos 9223372036854775807)) (codes "_+_") (number (pos 1)))) ≡ error ZeroDivisor
leftmost_error = refl

-- `size("")`, `"hello".size()`, `size([1, 2])`, `size({"a": 1})`, and code points

size_of_nothing : means (calls (codes "size") (string (codes "") ∷ [])) ≡ is_int (pos 0)
size_of_nothing = refl

size_on_target : means (call node (codes "size") (target (string (codes "hello"))) no_trees) ≡ is_int (pos 5)
size_on_target = refl

size_of_list : means (calls (codes "size") (list_of (number (pos 1) ∷ number (pos 2) ∷ []) ∷ [])) ≡ is_int (pos 2)
size_of_list = refl

size_of_map : means (calls (codes "size") (map_of_one (string (codes "a")) (number (pos 1)) ∷ [])) ≡ is_int (pos 1)
size_of_map = refl

size_in_points : means (calls (codes "size") (string (97 ∷ 233 ∷ 8364 ∷ 119070 ∷ []) ∷ [])) ≡ is_int (pos 4)
size_in_points = refl

size_of_bytes : means (calls (codes "size") (octets (195 ∷ 169 ∷ []) ∷ [])) ≡ is_int (pos 2)
size_of_bytes = refl

-- `2 in [1, 2]`, `3 in [1, 2]`, `"a" in {"a": 1}`, and the two other names of `in`

two_is_in : means (applied (number (pos 2)) (codes "@in") (list_of (number (pos 1) ∷ number (pos 2) ∷ []))) ≡ yes
two_is_in = refl

three_is_not_in : means (applied (number (pos 3)) (codes "_in_") (list_of (number (pos 1) ∷ number (pos 2) ∷ []))) ≡ not
three_is_not_in = refl

key_is_in : means (applied (string (codes "a")) (codes "in") (map_of_one (string (codes "a")) (number (pos 1)))) ≡ yes
key_is_in = refl

-- strings by code point, bytes by their numbers, false before true

text_order : means (applied (string (codes "a")) (codes "_<_") (string (codes "ab"))) ≡ yes
text_order = refl

upper_before_lower : means (applied (string (codes "Z")) (codes "_<_") (string (codes "a"))) ≡ yes
upper_before_lower = refl

order_of_points : means (applied (string (65535 ∷ [])) (codes "_<_") (string (65536 ∷ []))) ≡ yes
order_of_points = refl

bytes_order : means (applied (octets (255 ∷ [])) (codes "_>_") (octets (97 ∷ 98 ∷ []))) ≡ yes
bytes_order = refl

false_first : means (applied (truth false) (codes "_<_") (truth true)) ≡ yes
false_first = refl

-- equality of lists and of maps

equal_lists : means (equals (list_of (number (pos 1) ∷ number (pos 2) ∷ [])) (list_of (number (pos 1) ∷ number (pos 2) ∷ []))) ≡ yes
equal_lists = refl

order_of_items : means (equals (list_of (number (pos 2) ∷ number (pos 1) ∷ [])) (list_of (number (pos 1) ∷ number (pos 2) ∷ []))) ≡ not
order_of_items = refl

equal_maps : means (equals (map_of_two (string (codes "a")) (number (pos 1)) (string (codes "b")) (number (pos 2))) (map_of_two (string (codes "b")) (number (pos 2)) (string (codes "a")) (number (pos 1)))) ≡ yes
equal_maps = refl

-- `[1, 2][1]`, `[1, 2][2]`, `{"a": 1}["a"]`, `{"a": 1}["b"]`, a repeated key

second_item : means (calls (codes "_[_]") (list_of (number (pos 1) ∷ number (pos 2) ∷ []) ∷ number (pos 1) ∷ [])) ≡ is_int (pos 2)
second_item = refl

past_the_end : means (calls (codes "_[_]") (list_of (number (pos 1) ∷ number (pos 2) ∷ []) ∷ number (pos 2) ∷ [])) ≡ error Index
past_the_end = refl

value_at_key : means (calls (codes "_[_]") (map_of_one (string (codes "a")) (number (pos 1)) ∷ string (codes "a") ∷ [])) ≡ is_int (pos 1)
value_at_key = refl

no_such_key : means (calls (codes "_[_]") (map_of_one (string (codes "a")) (number (pos 1)) ∷ string (codes "b") ∷ [])) ≡ error NoKey
no_such_key = refl

repeated_key : means (map_of_two (string (codes "a")) (number (pos 1)) (string (codes "a")) (number (pos 2))) ≡ error RepeatedKey
repeated_key = refl

-- `{"a": 1}.a`, `{"a": 1}.b`, `has({"a": 1}.a)`, `has({"a": 1}.b)`

field_of_map : means (select node (map_of_one (string (codes "a")) (number (pos 1))) (codes "a") false) ≡ is_int (pos 1)
field_of_map = refl

no_such_field : means (select node (map_of_one (string (codes "a")) (number (pos 1))) (codes "b") false) ≡ error NoKey
no_such_field = refl

has_it : means (select node (map_of_one (string (codes "a")) (number (pos 1))) (codes "a") true) ≡ yes
has_it = refl

has_it_not : means (select node (map_of_one (string (codes "a")) (number (pos 1))) (codes "b") true) ≡ not
has_it_not = refl

-- `"hello".contains("ell")`, `"hello".startsWith("he")`, `"hello".endsWith("")`

contains_ell : means (call node (codes "contains") (target (string (codes "hello"))) (trees (string (codes "ell") ∷ []))) ≡ yes
contains_ell = refl

starts_with_he : means (call node (codes "startsWith") (target (string (codes "hello"))) (trees (string (codes "he") ∷ []))) ≡ yes
starts_with_he = refl

ends_with_nothing : means (call node (codes "endsWith") (target (string (codes "hello"))) (trees (string (codes "") ∷ []))) ≡ yes
ends_with_nothing = refl

ends_with_he : means (call node (codes "endsWith") (target (string (codes "hello"))) (trees (string (codes "he") ∷ []))) ≡ not
ends_with_he = refl

-- other names and kinds have no meaning

unknown_function : means (call node (codes "matches") (target (string (codes "a"))) (trees (string (codes "a") ∷ []))) ≡ None
unknown_function = refl

int_plus_text : means (applied (number (pos 1)) (codes "_+_") (string (codes "a"))) ≡ None
int_plus_text = refl

-- `[0, 1].all(x, 1 / x > 1)`: the second element makes it false, whatever the first comes to

all_past_an_error : means (all (list_of (number (pos 0) ∷ number (pos 1) ∷ [])) (codes "x") (applied (quotient (number (pos 1)) (name (codes "x"))) (codes "_>_") (number (pos 1)))) ≡ not
all_past_an_error = refl

-- `[0, 1].all(x, 1 / x == 1)`: no element makes it false, so the error stands

all_with_an_error : means (all (list_of (number (pos 0) ∷ number (pos 1) ∷ [])) (codes "x") (applied (quotient (number (pos 1)) (name (codes "x"))) (codes "_==_") (number (pos 1)))) ≡ error ZeroDivisor
all_with_an_error = refl

-- `[0, 1].exists(x, 1 / x == 1)`, `[true, false, true].all(x, x)`, `[].all(x, x == 0)`

exists_past_an_error : means (exists (list_of (number (pos 0) ∷ number (pos 1) ∷ [])) (codes "x") (applied (quotient (number (pos 1)) (name (codes "x"))) (codes "_==_") (number (pos 1)))) ≡ yes
exists_past_an_error = refl

all_of_three : means (all (list_of (truth true ∷ truth false ∷ truth true ∷ [])) (codes "x") (name (codes "x"))) ≡ not
all_of_three = refl

all_of_none : means (all (list_of []) (codes "x") (equals (name (codes "x")) (number (pos 0)))) ≡ yes
all_of_none = refl

-- `[1, 2].exists_one(x, x == 1)`, `[1, 1].exists_one(x, x == 1)`

one_exists : means (exists_one (list_of (number (pos 1) ∷ number (pos 2) ∷ [])) (codes "x") (equals (name (codes "x")) (number (pos 1)))) ≡ yes
one_exists = refl

two_exist : means (exists_one (list_of (number (pos 1) ∷ number (pos 1) ∷ [])) (codes "x") (equals (name (codes "x")) (number (pos 1)))) ≡ not
two_exist = refl

-- `[1, 2].map(x, x * 2) == [2, 4]`, `[1, 2].filter(x, x > 1) == [2]`

mapped : means (equals (map_macro (list_of (number (pos 1) ∷ number (pos 2) ∷ [])) (codes "x") (applied (name (codes "x")) (codes "_*_") (number (pos 2)))) (list_of (number (pos 2) ∷ number (pos 4) ∷ []))) ≡ yes
mapped = refl

filtered : means (equals (filter_macro (list_of (number (pos 1) ∷ number (pos 2) ∷ [])) (codes "x") (applied (name (codes "x")) (codes "_>_") (number (pos 1)))) (list_of (number (pos 2) ∷ []))) ≡ yes
filtered = refl

-- over a map the element is a key, in ascending order: `{"b": 1, "a": 2}.map(x, x) == ["a", "b"]`

keys_in_order : means (equals (map_macro (map_of_two (string (codes "b")) (number (pos 1)) (string (codes "a")) (number (pos 2))) (codes "x") (name (codes "x"))) (list_of (string (codes "a") ∷ string (codes "b") ∷ []))) ≡ yes
keys_in_order = refl

-- an error of the range or of the condition is the whole answer; one of the first value is kept

range_fails : means (macro (list_of (quotient (number (pos 1)) (number (pos 0)) ∷ [])) (codes "x") (truth true) (truth true) gathered (truth true)) ≡ error ZeroDivisor
range_fails = refl

loop_condition_fails : means (macro (list_of (number (pos 1) ∷ [])) (codes "x") (truth true) broken gathered (truth true)) ≡ error ZeroDivisor
loop_condition_fails = refl

step_fails : means (macro (list_of (number (pos 1) ∷ [])) (codes "x") (truth true) (truth true) broken (either gathered (truth true))) ≡ yes
step_fails = refl

init_fails : means (macro (list_of []) (codes "x") broken (truth true) gathered (either gathered (truth true))) ≡ yes
init_fails = refl

-- the innermost local of a name counts: `[1].all(x, [2].all(x, x == 2))`

shadowed : means (all (list_of (number (pos 1) ∷ [])) (codes "x") (all (list_of (number (pos 2) ∷ [])) (codes "x") (equals (name (codes "x")) (number (pos 2))))) ≡ yes
shadowed = refl

-- a local that is named like a root hides it: `[{"method": 1}].all(request, request.method == 1)`

hidden_root : means (all (list_of (map_of_one (string (codes "method")) (number (pos 1)) ∷ [])) (codes "request") (equals (select node (name (codes "request")) (codes "method") false) (number (pos 1)))) ≡ yes
hidden_root = refl

-- an Ident with dots is the attribute; an absent attribute is an error; a root alone means nothing

dotted_mtls : means (name (codes "connection.mtls")) ≡ error MissingAttribute
dotted_mtls = refl

selected_mtls : means (select node (name (codes "connection")) (codes "mtls") false) ≡ error MissingAttribute
selected_mtls = refl

mtls_as_condition : means (choice (name (codes "connection.mtls")) (truth true) (truth false)) ≡ error MissingAttribute
mtls_as_condition = refl

root_alone : means (name (codes "request")) ≡ None
root_alone = refl

has_of_attribute : means (select node (name (codes "request")) (codes "method") true) ≡ None
has_of_attribute = refl

unknown_attribute : means (select node (name (codes "request")) (codes "color") false) ≡ None
unknown_attribute = refl

-- attributes of the request, in both spellings

dotted_method : means (equals (name (codes "request.method")) (string (codes "GET"))) ≡ yes
unfolding chars
dotted_method = refl

selected_method : means (equals (select node (name (codes "request")) (codes "method") false)
    (string (codes "GET"))) ≡ yes
unfolding chars
selected_method = refl

query : means (equals (name (codes "request.query")) (string (codes "b"))) ≡ yes
unfolding chars
query = refl
