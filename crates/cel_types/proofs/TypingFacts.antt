-- Types of expressions, computed on examples.
use Rattle.std.proofs.Common.{arith, ◌≡◌, ◌≢◌, inl, inr, ℕ, ℤ, pos, true, false, List, [], ◌∷◌, Some, None, refl, sym, subst, ◌≤◌, ◌<◌, zero, suc}
use Rattle.std.specs.Prelude.{codes}
use Rattle.std.specs.FinMap.{find, from_entries, get, get-from_entries}
use Rattle.std.specs.Cmp.{int_cmp_total}
use Rattle.std.specs.Cmp.Lexicographic.{bytes_decides}
use Rattle.std.specs.Ordering.{int_cmp}
use Rattle.proto_wire.specs.declared.refusal.Refusal.TheVariants.{BadReference, BadTypeEntry, Missing, NeedsType, NoOverload, OutOfRange, TooLarge, UnknownName, Unsupported}
use Rattle.cel_value.specs.Types.{ValueType, bool_type, int_type, uint_type, text_type, list_type, map_type, type_of_key}
use Rattle.cel_value.specs.Values.{bool, int, uint, text}
use Rattle.cel_value.specs.declared.cel_type.KeyType.{KeyType}
use Rattle.cel_value.specs.declared.cel_type.KeyType.TheVariants as keys
use Rattle.cel_ops.specs.declared.comparison.CompareOp.TheVariants.{Equal}
use Rattle.cel_ops.specs.declared.arithmetic.ArithmeticOp.TheVariants.{Add}
use Rattle.cel_overload.specs.declared.function.Function.TheVariants as functions
use Rattle.cel_ops.specs.declared.operation.Operation.TheVariants as operations
use Rattle.cel_overload.specs.declared.overload.Overload.TheVariants as overloads
use Rattle.cel_tree.specs.Checked.{CelChecked, CelReference, CelTypeEntry, of_type, dyn_type, unsupported_type}
use Rattle.cel_tree.specs.Tree.{CelTree, constant, ident, select, call, comprehension, list_literal, map_literal, no_target, no_tree_entries, tree_entry, CelTrees, no_trees, tree}
use Rattle.cel_overload.proofs.OneOverload.{unchosen}
use Rattle.cel_overload.specs.Overloads.{IsCall}
use Rattle.cel_types.specs.Typing.{Kinds, Maps, RefAgrees, Types, TypesEach, locals_in}
use Rattle.cel_types.specs.TypingFaults.{CallsFault, CheckFault, IsTyped, too_many_locals, ElementsFault, IdentFault, PairsFault, SelectFault, TypeFault, another_type, of_another_kind, unsupported_kind, unstated, no_elements, in_names, in_init, in_range, in_result, in_turn, no_condition}
use Rattle.cel_types.specs.Agreeing.{EntriesAgree, EntryAgrees}
use Rattle.cel_types.specs.private.Rules.{NamesDiffer}
use Rattle.cel_types.proofs.CheckLaws.{agreeing_typed}
use Rattle.cel_types.proofs.Total.{names_faultless}
use Rattle.cel_types.specs.Elaborated.{Elaborates, no_typed, typed, typed_attribute, typed_call, typed_constant, typed_list, typed_local, typed_loop}
use Rattle.cel_types.specs.Names.{turn_scope}
use Rattle.cel_types.specs.declared.typed.Variables.TheVariants as variables
use Rattle.attributes.specs.declared.attribute.AttrId.{AttrId}

-- ---- `request.method == "GET"`: the call has id 3, the Select 1, the Ident 2, the text 4

abbrev method : CelTree
method = select (pos 1) (ident (pos 2) (codes "request")) (codes "method") false

abbrev method_is_get : CelTree
method_is_get = call (pos 3) (codes "_==_") no_target
    (tree method (tree (constant (pos 4) (text (codes "GET"))) no_trees))

-- type entries, and no references
abbrev with_types : List (ℤ × CelTypeEntry) → Maps
with_types es = record { types = from_entries es; refs = from_entries [] }

abbrev checked : List (ℤ × CelTypeEntry) → CelTree → CelChecked
checked es t = record { tree = t; types = from_entries es; refs = from_entries [] }

-- an entry of the maps is what the list of entries says
says : (es : List (ℤ × CelTypeEntry)) (id : ℤ) (Has : ValueType → Type 0)
    → EntryAgrees (find int_cmp id es) Has → EntryAgrees (get (with_types es).types id) Has
says es id Has h =
    subst (λ o. EntryAgrees o Has) (sym (get-from_entries int_cmp_total es id)) h

no_reference : (es : List (ℤ × CelTypeEntry)) (id : ℤ) (name : List ℕ)
    → RefAgrees (get (with_types es).refs id) name
no_reference es id name = subst (λ o. RefAgrees o name)
    (sym (get-from_entries {X = CelReference} int_cmp_total [] id)) tt

-- whatever the entries say, the Select is a text and the call a bool
method_is_text : (m : Maps) → Types m [] method text_type
method_is_text m = refl

is_bool : (m : Maps) → Types m [] method_is_get bool_type
is_bool m = (
  text_type ∷ text_type ∷ [],
  (refl, (refl, tt)),
  overloads.Operate (operations.Compare Equal),
  (
    functions.Compare Equal,
    refl,
    record {
      function = refl;
      shape = refl;
      operands = (text_type, tt, refl, refl);
    },
  ),
)

-- an entry that is not there agrees with any type
silent : (Has : ValueType → Type 0) → EntryAgrees None Has
silent Has t h = tt

-- with no entries on call and text, and one on the Select that agrees
get_is_typed : (es : List (ℤ × CelTypeEntry))
    → EntryAgrees (find int_cmp (pos 1) es) (Types (with_types es) [] method)
    → find int_cmp (pos 3) es ≡ None → find int_cmp (pos 4) es ≡ None
    → IsTyped (checked es method_is_get) bool_type
get_is_typed es on_select no_call no_text = agreeing_typed (checked es method_is_get) bool_type (record {
  few = omega arith;
  types = is_bool (with_types es);
  entries = (
    says es (pos 3) call_is
        (subst (λ o. EntryAgrees o call_is) (sym no_call) (silent call_is)),
    tt,
    (
      (
        says es (pos 1) (Types (with_types es) [] method) on_select,
        (λ t g. no_reference es (pos 1) (codes "request.method")),
      ),
      (
        says es (pos 4) text_is
            (subst (λ o. EntryAgrees o text_is) (sym no_text) (silent text_is)),
        tt,
      ),
    ),
  );
})
  where
    call_is : ValueType → Type 0
    call_is = Types (with_types es) [] method_is_get

    text_is : ValueType → Type 0
    text_is = Types (with_types es) [] (constant (pos 4) (text (codes "GET")))

without_entries : IsTyped (checked [] method_is_get) bool_type
without_entries = get_is_typed [] (λ t g. tt) refl refl

-- `dyn` says nothing
dyn_on_select : IsTyped (checked ((pos 1, dyn_type) ∷ []) method_is_get) bool_type
dyn_on_select = get_is_typed ((pos 1, dyn_type) ∷ []) (λ t g. tt) refl refl

right_entry : IsTyped (checked ((pos 1, of_type text_type) ∷ []) method_is_get) bool_type
right_entry = get_is_typed ((pos 1, of_type text_type) ∷ [])
    (λ t g. let same : Some text_type ≡ Some t = g in cc) refl refl

-- an entry of a bare root is not used, whatever it says
entry_on_root : IsTyped (checked ((pos 2, unsupported_type) ∷ []) method_is_get) bool_type
entry_on_root = get_is_typed ((pos 2, unsupported_type) ∷ []) (λ t g. tt) refl refl

-- the entry INT64 on the Select is 11

int_on_select : TypeFault (with_types ((pos 1, of_type int_type) ∷ [])) [] method BadTypeEntry
int_on_select = inr (another_type int_type text_type refl
    (get-from_entries int_cmp_total ((pos 1, of_type int_type) ∷ []) (pos 1)) (λ e. cc) refl)

-- `request.color` is 9, as an Ident and as a Select

color : TypeFault (with_types []) []
    (select (pos 1) (ident (pos 2) (codes "request")) (codes "color") false) UnknownName
color = inl (SelectFault.unknown (codes "request") refl refl refl)

dotted_color : TypeFault (with_types []) [] (ident (pos 1) (codes "request.color")) UnknownName
dotted_color = inl (IdentFault.unknown refl refl)

bare_root_alone : TypeFault (with_types []) [] (ident (pos 1) (codes "request")) UnknownName
bare_root_alone = inl (IdentFault.unknown refl refl)

-- `has(request.method)` is 9

has_method : TypeFault (with_types []) []
    (select (pos 1) (ident (pos 2) (codes "request")) (codes "method") true) UnknownName
has_method = inl (SelectFault.asked (codes "request") refl refl refl)

-- a local that is named like a root hides it: `request.method` of a local map

hidden_root : Types (with_types []) ((codes "request", map_type keys.Text int_type) ∷ []) method
    int_type
hidden_root = refl

-- a reference that names another attribute is 12

abbrev path_for_method : Maps
path_for_method = record {
  types = from_entries [];
  refs = from_entries ((pos 1, record { name = codes "request.path"; value = None }) ∷ []);
}

other_reference : TypeFault path_for_method [] (ident (pos 1) (codes "request.method")) BadReference
other_reference = inl (IdentFault.other_reference text_type refl (λ same.
    let named = subst (λ o. RefAgrees o (codes "request.method"))
    (get-from_entries int_cmp_total
    ((pos 1, record { name = codes "request.path"; value = None }) ∷ []) (pos 1)) same in
    cc) refl)

-- ---- several faults, each of them there

-- `request.method` with a reference entry named `request.path` and the type entry INT64: 11 and 12

abbrev two_entries : Maps
two_entries = record {
  types = from_entries ((pos 1, of_type int_type) ∷ []);
  refs = from_entries ((pos 1, record { name = codes "request.path"; value = None }) ∷ []);
}

type_differs : TypeFault two_entries [] (ident (pos 1) (codes "request.method")) BadTypeEntry
type_differs = inr (
  refl,
  another_type int_type text_type refl
      (get-from_entries int_cmp_total ((pos 1, of_type int_type) ∷ []) (pos 1)) (λ e. cc) refl,
)

name_differs : TypeFault two_entries [] (ident (pos 1) (codes "request.method")) BadReference
name_differs = inl (IdentFault.other_reference text_type refl (λ same.
    let named = subst (λ o. RefAgrees o (codes "request.method"))
    (get-from_entries int_cmp_total
    ((pos 1, record { name = codes "request.path"; value = None }) ∷ []) (pos 1)) same in
    cc) refl)

-- `request.method == 1` with the entry INT64 on the Select: 10 and 11

abbrev int_entry : Maps
int_entry = with_types ((pos 1, of_type int_type) ∷ [])

abbrev method_is_one : CelTree
method_is_one = call (pos 3) (codes "_==_") no_target
    (tree method (tree (constant (pos 4) (int (pos 1))) no_trees))

not_comparable : TypeFault int_entry [] method_is_one NoOverload
not_comparable = inl (CallsFault.no_overload (functions.Compare Equal) (text_type ∷ int_type ∷ []) refl
    (refl, (refl, tt)) (unchosen (functions.Compare Equal) false (text_type ∷ int_type ∷ []) refl) refl)

entry_differs : TypeFault int_entry [] method_is_one BadTypeEntry
entry_differs = inl (CallsFault.in_operand (inr (inl int_on_select)))

-- a comprehension that gathers from `true` with the entry INT64, its condition an unknown name: 9
-- and 11

abbrev unknown_condition : CelTree
unknown_condition = comprehension (pos 5) (codes "x") [] (codes "y") (list_literal (pos 6)
    (tree (constant (pos 7) (int (pos 7))) no_trees)) (constant (pos 1) (bool true))
    (ident (pos 8) (codes "nosuch")) (ident (pos 9) (codes "y")) (ident (pos 10) (codes "y"))

condition_unknown : TypeFault int_entry [] unknown_condition UnknownName
condition_unknown = inl (in_turn (int_type ∷ []) bool_type
    (list_type int_type, (int_type, (refl, tt), refl), refl) refl (inl (inl (IdentFault.unknown refl refl))))

init_differs : TypeFault int_entry [] unknown_condition BadTypeEntry
init_differs = inl (in_init (inr (another_type int_type bool_type refl
    (get-from_entries int_cmp_total ((pos 1, of_type int_type) ∷ []) (pos 1)) (λ e. cc) refl)))

-- a comprehension over an unknown name; its result is an unknown name too

abbrev unknown_range : CelTree
unknown_range = comprehension (pos 5) (codes "x") [] (codes "y") (ident (pos 6) (codes "nosuch"))
    (constant (pos 1) (bool true)) (constant (pos 7) (int (pos 7))) (ident (pos 9) (codes "y"))
    (ident (pos 10) (codes "x"))

range_unknown : TypeFault (with_types []) [] unknown_range UnknownName
range_unknown = inl (in_range (inl (IdentFault.unknown refl refl)))

result_unknown : TypeFault (with_types []) [] unknown_range UnknownName
result_unknown = inl (in_result bool_type refl (inl (IdentFault.unknown refl refl)))

-- a comprehension over `[7]`, its condition an int: 10

abbrev int_condition : CelTree
int_condition = comprehension (pos 5) (codes "x") [] (codes "y") (list_literal (pos 6)
    (tree (constant (pos 7) (int (pos 7))) no_trees)) (constant (pos 1) (bool true))
    (constant (pos 8) (int (pos 7))) (ident (pos 9) (codes "y")) (ident (pos 10) (codes "y"))

condition_is_int : TypeFault (with_types []) [] int_condition NoOverload
condition_is_int = inl (no_condition (int_type ∷ []) bool_type int_type
    (list_type int_type, (int_type, (refl, tt), refl), refl) refl refl (λ e. cc) refl)

-- ---- `1 + 1u` and `[1, 2u]` are 10

abbrev one_and_one : CelTrees
one_and_one = tree (constant (pos 1) (int (pos 1))) (tree (constant (pos 2) (uint 1)) no_trees)

int_and_uint : TypesEach (with_types []) [] one_and_one (int_type ∷ uint_type ∷ [])
int_and_uint = (refl, (refl, tt))

no_sum : TypeFault (with_types []) [] (call (pos 3) (codes "_+_") no_target one_and_one) NoOverload
no_sum = inl (CallsFault.no_overload (functions.Arithmetic Add) (int_type ∷ uint_type ∷ []) refl int_and_uint
    (unchosen (functions.Arithmetic Add) false (int_type ∷ uint_type ∷ []) refl) refl)

no_list : TypeFault (with_types []) [] (list_literal (pos 3) one_and_one) NoOverload
no_list = inl (ElementsFault.two_types int_type uint_type (inl refl) (inr (inl refl)) (λ e. cc) refl)

-- `[1, 2u, nosuch]` is 9 and 10

abbrev nosuch : CelTree
nosuch = ident (pos 4) (codes "nosuch")

abbrev three_elements : CelTree
three_elements = list_literal (pos 3) (tree (constant (pos 1) (int (pos 1)))
    (tree (constant (pos 2) (uint 2)) (tree nosuch no_trees)))

different_elements : TypeFault (with_types []) [] three_elements NoOverload
different_elements =
    inl (ElementsFault.two_types int_type uint_type (inl refl) (inr (inl refl)) (λ e. cc) refl)

unknown_element : TypeFault (with_types []) [] three_elements UnknownName
unknown_element =
    inl (ElementsFault.in_element (inr (inr (inl (inl (IdentFault.unknown refl refl))))))

-- `{1: 2, 3u: nosuch}` is 9 and 10, and so is `{nosuch: 2, 1: "a"}`

abbrev different_keys : CelTree
different_keys = map_literal (pos 3)
    (tree_entry (pos 5) (constant (pos 1) (int (pos 1))) (constant (pos 2) (int (pos 2)))
    (tree_entry (pos 6) (constant (pos 7) (uint 3)) nosuch no_tree_entries))

keys_differ : TypeFault (with_types []) [] different_keys NoOverload
keys_differ =
    inl (PairsFault.two_key_types int_type uint_type (inl refl) (inr (inl refl)) (λ e. cc) refl)

unknown_value : TypeFault (with_types []) [] different_keys UnknownName
unknown_value =
    inl (PairsFault.in_entry (inr (inr (inr (inl (inl (IdentFault.unknown refl refl)))))))

abbrev different_values : CelTree
different_values = map_literal (pos 3)
    (tree_entry (pos 5) nosuch (constant (pos 2) (int (pos 2)))
    (tree_entry (pos 6) (constant (pos 7) (int (pos 1))) (constant (pos 8) (text (codes "a")))
    no_tree_entries))

values_differ : TypeFault (with_types []) [] different_values NoOverload
values_differ =
    inl (PairsFault.two_value_types int_type text_type (inl refl) (inr (inl refl)) (λ e. cc) refl)

unknown_key : TypeFault (with_types []) [] different_values UnknownName
unknown_key = inl (PairsFault.in_entry (inl (inl (IdentFault.unknown refl refl))))

-- `{[1]: 2}` is 10

list_as_key : TypeFault (with_types []) [] (map_literal (pos 3) (tree_entry (pos 5)
    (list_literal (pos 6) (tree (constant (pos 1) (int (pos 1))) no_trees))
    (constant (pos 2) (int (pos 2))) no_tree_entries)) NoOverload
list_as_key = inl (PairsFault.no_key_type (list_type int_type) (inl (int_type, (refl, tt), refl))
    no_key refl)
  where
    no_key : (k : KeyType) → list_type int_type ≢ type_of_key k
    no_key keys.Bool e = cc
    no_key keys.Int e = cc
    no_key keys.Uint e = cc
    no_key keys.Text e = cc

-- `[]` is 14 without an entry and with `dyn`, has its entry's type, and is 6 with a kind that is not
-- supported and 11 with a map

abbrev empty_list : CelTree
empty_list = list_literal (pos 1) no_trees

untold_list : TypeFault (with_types []) [] empty_list NeedsType
untold_list = inl (unstated (inl (get-from_entries {X = CelTypeEntry} int_cmp_total [] (pos 1))) refl)

dyn_list : TypeFault (with_types ((pos 1, dyn_type) ∷ [])) [] empty_list NeedsType
dyn_list = inl (unstated (inr (get-from_entries int_cmp_total ((pos 1, dyn_type) ∷ []) (pos 1))) refl)

told_list : Types (with_types ((pos 1, of_type (list_type int_type)) ∷ [])) [] empty_list
    (list_type int_type)
told_list =
    (get-from_entries int_cmp_total ((pos 1, of_type (list_type int_type)) ∷ []) (pos 1), tt)

unsupported_list : TypeFault (with_types ((pos 1, unsupported_type) ∷ [])) [] empty_list Unsupported
unsupported_list = inr (unsupported_kind
    (get-from_entries int_cmp_total ((pos 1, unsupported_type) ∷ []) (pos 1)) refl)

list_of_map_type : TypeFault (with_types ((pos 1, of_type (map_type keys.Int int_type)) ∷ [])) []
    empty_list BadTypeEntry
list_of_map_type = inl (of_another_kind (map_type keys.Int int_type)
    (get-from_entries int_cmp_total ((pos 1, of_type (map_type keys.Int int_type)) ∷ []) (pos 1))
    (λ h. h) refl)

-- ---- how many locals are in scope

-- a comprehension in the condition of a comprehension: the inner condition sees four

abbrev one_loop : CelTree → CelTree
one_loop condition = comprehension (pos 1) (codes "x") [] (codes "y") empty_list (ident (pos 2)
    (codes "a")) condition (ident (pos 2) (codes "a")) (ident (pos 2) (codes "a"))

two_in_one : locals_in (one_loop (ident (pos 2) (codes "a"))) ≡ 2
two_in_one = refl

four_in_two : locals_in (one_loop (one_loop (ident (pos 2) (codes "a")))) ≡ 4
four_in_two = refl

-- in a result the element is not in scope
three_in_result : locals_in (comprehension (pos 1) (codes "x") [] (codes "y") empty_list empty_list
    empty_list empty_list (one_loop empty_list)) ≡ 3
three_in_result = refl

-- ---- a comprehension over `[7]`: `y` is gathered from `true`, each step is `x == 7`

abbrev seven_loop : (x y : List ℕ) → (range : CelTree) → CelTree
seven_loop x y range = comprehension (pos 5) x [] y range (constant (pos 6) (bool true))
    (ident (pos 7) y) (call (pos 8) (codes "_==_") no_target
    (tree (ident (pos 9) x) (tree (constant (pos 10) (int (pos 7))) no_trees)))
    (ident (pos 11) y)

abbrev list_of_seven : CelTree
list_of_seven = list_literal (pos 12) (tree (constant (pos 13) (int (pos 7))) no_trees)

x_is_not_y : codes "x" ≢ codes "y"
x_is_not_y e =
    let same : false ≡ true = (bytes_decides (codes "x") (codes "y")).1 e in cc

x_and_y : NamesDiffer (codes "x") [] (codes "y")
x_and_y = record {
  element = λ e. cc;
  gathered = λ e. cc;
  differ = x_is_not_y;
  second = λ e. cc;
  apart = λ e. cc;
}

equal_ints : IsCall (codes "_==_") false (int_type ∷ int_type ∷ [])
    (overloads.Operate (operations.Compare Equal)) bool_type
equal_ints = (
  functions.Compare Equal,
  refl,
  record {
    function = refl;
    shape = refl;
    operands = (int_type, tt, refl, refl);
  },
)

loop_is_bool : Types (with_types []) [] (seven_loop (codes "x") (codes "y") list_of_seven) bool_type
loop_is_bool = record {
  names = names_faultless (codes "x") [] (codes "y") x_and_y;
  walked = list_type int_type;
  each = int_type ∷ [];
  gathered = bool_type;
  range = (int_type, (refl, tt), refl);
  over = refl;
  init = refl;
  condition = refl;
  step = (
    int_type ∷ int_type ∷ [],
    (refl, (refl, tt)),
    overloads.Operate (operations.Compare Equal),
    equal_ints,
  );
  result = refl;
}

-- with two variables, `x` is the index, `v` the item, and each step is `v == x`

abbrev two_loop : (v : List ℕ) → CelTree
two_loop v = comprehension (pos 5) (codes "x") v (codes "y") list_of_seven (constant (pos 6) (bool true))
    (ident (pos 7) (codes "y")) (call (pos 8) (codes "_==_") no_target
    (tree (ident (pos 9) v) (tree (ident (pos 10) (codes "x")) no_trees)))
    (ident (pos 11) (codes "y"))

three_in_two_variables : locals_in (two_loop (codes "v")) ≡ 3
three_in_two_variables = refl

two_are_bool : Types (with_types []) [] (two_loop (codes "v")) bool_type
two_are_bool = record {
  names = names_faultless (codes "x") (codes "v") (codes "y") (record {
    element = λ e. cc;
    gathered = λ e. cc;
    differ = x_is_not_y;
    second = λ e. let same : false ≡ true = (bytes_decides (codes "x") (codes "v")).1 e in cc;
    apart = λ e. let same : false ≡ true = (bytes_decides (codes "v") (codes "y")).1 e in cc;
  });
  walked = list_type int_type;
  each = int_type ∷ int_type ∷ [];
  gathered = bool_type;
  range = (int_type, (refl, tt), refl);
  over = refl;
  init = refl;
  condition = refl;
  step = (
    int_type ∷ int_type ∷ [],
    (refl, (refl, tt)),
    overloads.Operate (operations.Compare Equal),
    equal_ints,
  );
  result = refl;
}

-- a second name that is another's is 5
second_is_first : TypeFault (with_types []) [] (two_loop (codes "x")) OutOfRange
second_is_first = inl (in_names (inr (inr (inr (λ e. cc, inl refl, refl)))))

second_is_accumulator : TypeFault (with_types []) [] (two_loop (codes "y")) OutOfRange
second_is_accumulator = inl (in_names (inr (inr (inr (λ e. cc, inr refl, refl)))))

-- a name that is not given is 4, one name twice 5, a range of no list and no map 10

nameless : TypeFault (with_types []) [] (seven_loop [] (codes "y") list_of_seven) Missing
nameless = inl (in_names (inl (refl, refl)))

one_name_twice : TypeFault (with_types []) [] (seven_loop (codes "y") (codes "y") list_of_seven)
    OutOfRange
one_name_twice = inl (in_names (inr (inr (inl (refl, refl)))))

range_of_an_int : TypeFault (with_types []) []
    (seven_loop (codes "x") (codes "y") (constant (pos 12) (int (pos 7)))) NoOverload
range_of_an_int = inl (no_elements int_type refl (λ t h. h) refl)

-- ---- elaborations: the attribute, the overload, and locals by how many are outside

method_elaborated : Elaborates (with_types []) [] method_is_get
    (typed_call bool_type (overloads.Operate (operations.Compare Equal))
    (typed (typed_attribute text_type AttrId.RequestMethod)
    (typed (typed_constant text_type (text (codes "GET"))) no_typed)))
method_elaborated = (
  is_bool (with_types []),
  (
    functions.Compare Equal,
    refl,
    record {
      function = refl;
      shape = refl;
      operands = (text_type, tt, refl, refl);
    },
  ),
  (
    (method_is_text (with_types []), codes "request", refl, refl),
    ((refl, refl), tt),
  ),
)

loop_elaborated : Elaborates (with_types []) [] (seven_loop (codes "x") (codes "y") list_of_seven)
    (typed_loop bool_type variables.One
    (typed_list (list_type int_type) (typed (typed_constant int_type (int (pos 7))) no_typed))
    (typed_constant bool_type (bool true)) (typed_local bool_type 0)
    (typed_call bool_type (overloads.Operate (operations.Compare Equal))
    (typed (typed_local int_type 1) (typed (typed_constant int_type (int (pos 7))) no_typed)))
    (typed_local bool_type 0))
loop_elaborated = (
  loop_is_bool,
  refl,
  int_type ∷ [],
  bool_type,
  refl,
  refl,
  ((int_type, (refl, tt), refl), ((refl, refl), tt)),
  (refl, refl),
  (refl, refl),
  (
    (
      int_type ∷ int_type ∷ [],
      (refl, (refl, tt)),
      overloads.Operate (operations.Compare Equal),
      equal_ints,
    ),
    equal_ints,
    ((refl, refl), ((refl, refl), tt)),
  ),
  (refl, refl),
)

-- the accumulator has no local outside, the index one, and the item two
two_elaborated : Elaborates (with_types []) [] (two_loop (codes "v"))
    (typed_loop bool_type variables.Two
    (typed_list (list_type int_type) (typed (typed_constant int_type (int (pos 7))) no_typed))
    (typed_constant bool_type (bool true)) (typed_local bool_type 0)
    (typed_call bool_type (overloads.Operate (operations.Compare Equal))
    (typed (typed_local int_type 2) (typed (typed_local int_type 1) no_typed)))
    (typed_local bool_type 0))
two_elaborated = (
  two_are_bool,
  refl,
  int_type ∷ int_type ∷ [],
  bool_type,
  refl,
  refl,
  ((int_type, (refl, tt), refl), ((refl, refl), tt)),
  (refl, refl),
  (refl, refl),
  (
    (
      int_type ∷ int_type ∷ [],
      (refl, (refl, tt)),
      overloads.Operate (operations.Compare Equal),
      equal_ints,
    ),
    equal_ints,
    ((refl, refl), ((refl, refl), tt)),
  ),
  (refl, refl),
)

-- ---- 64 locals in scope are typed, 65 are too many: comprehensions over `[1]`, each in the step of
-- the one around it

abbrev one_range : CelTree
one_range = list_literal (pos 3) (tree (constant (pos 4) (int (pos 1))) no_trees)

abbrev loops : ℕ → CelTree
loops zero = constant (pos 1) (bool true)
loops (suc n) = comprehension (pos 2) (codes "x") [] (codes "y") one_range
    (constant (pos 5) (bool true)) (ident (pos 6) (codes "y")) (loops n) (ident (pos 7) (codes "y"))

-- all of them in the result of one more
abbrev loops_in_result : ℕ → CelTree
loops_in_result n = comprehension (pos 2) (codes "x") [] (codes "y") one_range
    (constant (pos 5) (bool true)) (ident (pos 6) (codes "y")) (ident (pos 6) (codes "y")) (loops n)

sixty_four : locals_in (loops 32) ≡ 64
sixty_four = refl

sixty_five : locals_in (loops_in_result 32) ≡ 65
sixty_five = refl

loops_are_bool : (ks : Kinds) (n : ℕ) → Types (with_types []) ks (loops n) bool_type
loops_are_bool ks zero = refl
loops_are_bool ks (suc n) = record {
  names = names_faultless (codes "x") [] (codes "y") x_and_y;
  walked = list_type int_type;
  each = int_type ∷ [];
  gathered = bool_type;
  range = (int_type, (refl, tt), refl);
  over = refl;
  init = refl;
  condition = refl;
  step = loops_are_bool (turn_scope (codes "x") [] (codes "y") (int_type ∷ []) bool_type ks) n;
  result = refl;
}

-- where there are no entries they agree
no_entry : (id : ℤ) (Has : ValueType → Type 0) → EntryAgrees (get (with_types []).types id) Has
no_entry id Has = says [] id Has (silent Has)

y_agrees : (id : ℤ) (ks : Kinds) → EntriesAgree (with_types []) ks (ident id (codes "y"))
y_agrees id ks = (
  no_entry id (Types (with_types []) ks (ident id (codes "y"))),
  (λ t h. no_reference [] id (codes "y")),
)

loops_agree : (ks : Kinds) (n : ℕ) → EntriesAgree (with_types []) ks (loops n)
loops_agree ks zero = no_entry (pos 1) (Types (with_types []) ks (constant (pos 1) (bool true)))
loops_agree ks (suc n) = (
  no_entry (pos 2) (Types (with_types []) ks (loops (suc n))),
  (
    no_entry (pos 3) (Types (with_types []) ks one_range),
    (no_entry (pos 4) (Types (with_types []) ks (constant (pos 4) (int (pos 1)))), tt),
  ),
  no_entry (pos 5) (Types (with_types []) ks (constant (pos 5) (bool true))),
  (λ w each a range over init. (
    y_agrees (pos 6) (turn_scope (codes "x") [] (codes "y") each a ks),
    loops_agree (turn_scope (codes "x") [] (codes "y") each a ks) n,
  )),
  (λ a init. y_agrees (pos 7) ((codes "y", a) ∷ ks)),
)

sixty_four_are_typed : IsTyped (checked [] (loops 32)) bool_type
sixty_four_are_typed = agreeing_typed (checked [] (loops 32)) bool_type (record {
  few = subst (λ n. n ≤ 64) (sym sixty_four) (omega arith);
  types = loops_are_bool [] 32;
  entries = loops_agree [] 32;
})

-- the 65 have a type, and the fault all the same
sixty_five_are_bool : Types (with_types []) [] (loops_in_result 32) bool_type
sixty_five_are_bool = record {
  names = names_faultless (codes "x") [] (codes "y") x_and_y;
  walked = list_type int_type;
  each = int_type ∷ [];
  gathered = bool_type;
  range = (int_type, (refl, tt), refl);
  over = refl;
  init = refl;
  condition = refl;
  step = refl;
  result = loops_are_bool ((codes "y", bool_type) ∷ []) 32;
}

sixty_five_are_too_many : CheckFault (checked [] (loops_in_result 32)) TooLarge
sixty_five_are_too_many =
    too_many_locals (subst (λ n. 64 < n) (sym sixty_five) (omega arith)) refl
