-- Messages as cel-go 0.18 and Go's encoder write them, byte by byte, and what they say, so that a wrong rule
-- in the specs does not check.
use Rattle.std.proofs.Common.{◌≡◌, inl, ℕ, suc, ◌+◌, ◌*◌, ◌<◌, ℤ, pos, negsuc, Bool, true, false, ◌&&◌, T, ltb, List, [], ◌∷◌, ◌++◌, None, codes, length, ltb→lt, refl, sym, ap, ap₂, subst, arith}
use Rattle.std.specs.Str.{IsUtf8, chars}
use Rattle.std.proofs.lemmas.Str.{IsUtf8-nil}
use Rattle.std.specs.Ordering.{int_cmp}
use Rattle.std.specs.Cmp.{int_cmp_total}
use Rattle.std.specs.FinMap.{entries, from_entries}
use Rattle.proto_wire.specs.Fields.{Payload, varint, i64, len, i32, Wire, StartsField, Fields}
use Rattle.proto_wire.specs.Merge.{Merges}
use Rattle.proto_wire.specs.Maps.{Entry, int64, map_of}
use Rattle.proto_wire.specs.private.Maps.{Held}
use Rattle.proto_wire.specs.declared.refusal.Refusal.TheVariants.{Missing, Unsupported}
use Rattle.proto_wire.proofs.MapOrder.{both_first, both_second, entries_from_entries}
use Rattle.proto_wire.proofs.MapValues.{held_are_values}
use Rattle.proto_wire.proofs.StandardFacts as wires
use Rattle.cel_value.specs.Texts.{points_of}
use Rattle.cel_value.specs.Types.{bool_type, list_type, map_type, text_type}
use Rattle.cel_value.specs.Values as values
use Rattle.cel_value.specs.declared.cel_type.KeyType.TheVariants as keys
use Rattle.cel_tree.specs.Checked.{CelChecked, CelReference, CelTypeEntry, of_type, unsupported_type}
use Rattle.cel_tree.specs.Constants.{IsConstant, ConstantFault}
use Rattle.cel_tree.specs.Message.{IsChecked, CheckedFault, in_expression}
use Rattle.cel_tree.specs.Nodes.{EntryNode, Node, IsNode, call_node, constant_node, ident_node, list_node, loop_node, map_node, select_node}
use Rattle.proto_wire.specs.Reading.{lacking, in_values}
use Rattle.cel_tree.specs.References.{IsReference}
use Rattle.cel_tree.specs.Tree.{CelTree, call, constant, ident, no_target, no_trees, select, tree}
use Rattle.cel_tree.specs.Trees.{IsTree, in_node, node_count}
use Rattle.cel_tree.specs.TypeEntries.{IsTypeEntry, list_of, map_of as map_of_types, plain}
use Rattle.proto_wire.proofs.StandardFacts.{merged, one_byte}

-- ---- messages whose tags, numbers and sizes are one byte each

abbrev field : ℕ → Payload → Wire
field n p = record { number = n; payload = p }

abbrev written : ℕ → Payload → List ℕ
written k (varint n) = (8 * k + 0) ∷ n ∷ []
written k (len inner) = (8 * k + 2) ∷ length inner ∷ inner
written k _ = []

abbrev message : List Wire → List ℕ
message [] = []
message (f ∷ fs) = written f.number f.payload ++ message fs

abbrev is_short : ℕ → Payload → Bool
is_short k (varint n) = ltb 0 k && (ltb (8 * k + 0) 128 && ltb n 128)
is_short k (len inner) = ltb 0 k && (ltb (8 * k + 2) 128 && ltb (length inner) 128)
is_short k _ = false

abbrev are_short : List Wire → Bool
are_short [] = true
are_short (f ∷ fs) = is_short f.number f.payload && are_short fs

-- what the tests say
bounds : (k tag size : ℕ) → T (ltb 0 k && (ltb tag 128 && ltb size 128))
    → (0 < k) × (tag < 128) × (size < 128)
bounds k tag size short =
    let later : T (ltb tag 128 && ltb size 128) = both_second (ltb 0 k) (ltb tag 128 && ltb size 128) short in (
      ltb→lt 0 k (both_first (ltb 0 k) (ltb tag 128 && ltb size 128) short),
      ltb→lt tag 128 (both_first (ltb tag 128) (ltb size 128) later),
      ltb→lt size 128 (both_second (ltb tag 128) (ltb size 128) later),
    )

starts : (k : ℕ) (p : Payload) (rest : List ℕ) → T (is_short k p)
    → StartsField (written k p ++ rest) (field k p) rest
starts k (varint n) rest short =
    let small = bounds k (8 * k + 0) n short in
    let some : 0 < k = small.0 in
    let tag : 8 * k + 0 < 128 = small.1 in
    record {
      spelling = (8 * k + 0) ∷ n ∷ [];
      spells = record {
        tag = (8 * k + 0) ∷ [];
        behind = n ∷ [];
        numbered = (omega (arith, some), omega (arith, tag));
        spells_tag = one_byte (8 * k + 0) tag;
        spells_payload = one_byte n small.2;
        whole = refl;
      };
      whole = refl;
    }
starts k (len inner) rest short =
    let small = bounds k (8 * k + 2) (length inner) short in
    let some : 0 < k = small.0 in
    let tag : 8 * k + 2 < 128 = small.1 in
    record {
      spelling = (8 * k + 2) ∷ length inner ∷ inner;
      spells = record {
        tag = (8 * k + 2) ∷ [];
        behind = length inner ∷ inner;
        numbered = (omega (arith, some), omega (arith, tag));
        spells_tag = one_byte (8 * k + 2) tag;
        spells_payload = (length inner ∷ [], one_byte (length inner) small.2, refl);
        whole = refl;
      };
      whole = refl;
    }
starts k (i64 n) rest short = absurd short
starts k (i32 n) rest short = absurd short

reads : (fs : List Wire) → T (are_short fs) → Fields (message fs) fs
reads [] short = refl
reads (f ∷ fs) short = (
  message fs,
  starts f.number f.payload (message fs) (both_first (is_short f.number f.payload) (are_short fs) short),
  reads fs (both_second (is_short f.number f.payload) (are_short fs) short),
)

merges : (fs : List Wire) → T (are_short fs) → Merges (message fs ∷ []) fs
merges fs short = merged (message fs) fs (reads fs short)

-- ---- texts

abbrev IsText : List ℕ → Type 0
IsText cs = IsUtf8 cs × (points_of cs ≡ cs)

no_text : IsText []
unfolding lib.Utf8.encode chars
no_text = (([], (refl, refl)), refl)

a_text : IsText (codes "a")
unfolding lib.Utf8.encode chars
a_text = ((codes "a", (refl, refl)), refl)

b_text : IsText (codes "b")
unfolding lib.Utf8.encode chars
b_text = ((codes "b", (refl, refl)), refl)

i_text : IsText (codes "i")
unfolding lib.Utf8.encode chars
i_text = ((codes "i", (refl, refl)), refl)

result_text : IsText (codes "__result__")
unfolding lib.Utf8.encode chars
result_text = ((codes "__result__", (refl, refl)), refl)

request_text : IsText (codes "request")
unfolding lib.Utf8.encode chars
request_text = ((codes "request", (refl, refl)), refl)

method_text : IsText (codes "method")
unfolding lib.Utf8.encode chars
method_text = ((codes "method", (refl, refl)), refl)

equals_text : IsText (codes "_==_")
unfolding lib.Utf8.encode chars
equals_text = ((codes "_==_", (refl, refl)), refl)

get_text : IsText (codes "GET")
unfolding lib.Utf8.encode chars
get_text = ((codes "GET", (refl, refl)), refl)

overload_text : IsText (codes "equals")
unfolding lib.Utf8.encode chars
overload_text = ((codes "equals", (refl, refl)), refl)

-- ---- Constant: `true`, `1`, `-1`, `1u`, `"a"`, `b"a"`, `null` and `1.0` by cel-go's parser, tools/policy/tests/cel_trees.jsonl

-- a constant by its one field
abbrev IsOne : List ℕ → values.CelValue → Type 0
IsOne part v = IsConstant (part ∷ []) v

-- the int -1 in ten bytes
minus_one_reads : Fields (0x18 ∷ wires.minus_one) (field 3 (varint 18446744073709551615) ∷ [])
minus_one_reads = (
  [],
  record {
    spelling = 0x18 ∷ wires.minus_one;
    spells = record {
      tag = 0x18 ∷ [];
      behind = wires.minus_one;
      numbered = (omega arith, omega arith);
      spells_tag = one_byte 0x18 (omega arith);
      spells_payload = wires.varints.all_ones;
      whole = refl;
    };
    whole = refl;
  },
  refl,
)

abbrev one_double : List ℕ
one_double = 0x29 ∷ 0 ∷ 0 ∷ 0 ∷ 0 ∷ 0 ∷ 0 ∷ 0xf0 ∷ 0x3f ∷ []

one_double_reads : Fields one_double (field 5 (i64 4607182418800017408) ∷ [])
one_double_reads = (
  [],
  record {
    spelling = one_double;
    spells = record {
      tag = 0x29 ∷ [];
      behind = 0 ∷ 0 ∷ 0 ∷ 0 ∷ 0 ∷ 0 ∷ 0xf0 ∷ 0x3f ∷ [];
      numbered = (omega arith, omega arith);
      spells_tag = one_byte 0x29 (omega arith);
      spells_payload = (refl, refl);
      whole = refl;
    };
    whole = refl;
  },
  refl,
)

pub record AreConstants : Type 0 where
  pub truth : IsOne (0x10 ∷ 0x01 ∷ []) (values.bool true)
  pub one : IsOne (0x18 ∷ 0x01 ∷ []) (values.int (pos 1))
  pub minus_one : IsOne (0x18 ∷ wires.minus_one) (values.int (negsuc 0))
  pub unsigned : IsOne (0x20 ∷ 0x01 ∷ []) (values.uint 1)
  pub text : IsOne (0x32 ∷ 0x01 ∷ 0x61 ∷ []) (values.text (codes "a"))
  pub bytes : IsOne (0x3a ∷ 0x01 ∷ 0x61 ∷ []) (values.bytes (codes "a"))
  -- neither is supported
  pub null : ConstantFault ((0x08 ∷ 0x00 ∷ []) ∷ []) Unsupported
  pub double : ConstantFault (one_double ∷ []) Unsupported

pub constants : AreConstants
constants = record {
  truth = (field 2 (varint 1) ∷ [], (merges (field 2 (varint 1) ∷ []) tt, refl), refl);
  one = (field 3 (varint 1) ∷ [], (merges (field 3 (varint 1) ∷ []) tt, refl), refl);
  minus_one = (
    field 3 (varint 18446744073709551615) ∷ [],
    (merged (0x18 ∷ wires.minus_one) (field 3 (varint 18446744073709551615) ∷ []) minus_one_reads, refl),
    refl,
  );
  unsigned = (field 4 (varint 1) ∷ [], (merges (field 4 (varint 1) ∷ []) tt, refl), refl);
  text = (
    field 6 (len (codes "a")) ∷ [],
    (merges (field 6 (len (codes "a")) ∷ []) tt, refl),
    (a_text.0, ap values.text (sym a_text.1)),
  );
  bytes = (field 7 (len (codes "a")) ∷ [], (merges (field 7 (len (codes "a")) ∷ []) tt, refl), refl);
  null = in_values (field 1 (varint 0) ∷ []) (merges (field 1 (varint 0) ∷ []) tt) refl;
  double = in_values (field 5 (i64 4607182418800017408) ∷ []) (merged one_double (field 5 (i64 4607182418800017408) ∷ []) one_double_reads) refl;
}

-- ---- Expr: `request.method == "GET"` by cel-go's parser, tools/policy/tests/cel_trees.jsonl

abbrev ident_bytes : List ℕ
ident_bytes = 0x10 ∷ 0x01 ∷ 0x22 ∷ 0x09 ∷ 0x0a ∷ 0x07 ∷ codes "request"

abbrev method_bytes : List ℕ
method_bytes = 0x10 ∷ 0x02 ∷ 0x2a ∷ 0x17 ∷ 0x0a ∷ 0x0d ∷ (ident_bytes ++ 0x12 ∷ 0x06 ∷ codes "method")

abbrev get_bytes : List ℕ
get_bytes = 0x10 ∷ 0x04 ∷ 0x1a ∷ 0x05 ∷ 0x32 ∷ 0x03 ∷ codes "GET"

abbrev pub comparison_bytes : List ℕ
comparison_bytes = 0x10 ∷ 0x03 ∷ 0x32 ∷ 0x2e ∷ 0x12 ∷ 0x04 ∷ (codes "_==_" ++ 0x1a ∷ 0x1b ∷ (method_bytes ++ 0x1a ∷ 0x09 ∷ get_bytes))

abbrev request : CelTree
request = ident (pos 1) (codes "request")

abbrev method : CelTree
method = select (pos 2) request (codes "method") false

abbrev get : CelTree
get = constant (pos 4) (values.text (codes "GET"))

abbrev pub comparison : CelTree
comparison = call (pos 3) (codes "_==_") no_target (tree method (tree get no_trees))

abbrev name_fields : List Wire
name_fields = field 1 (len (codes "request")) ∷ []

abbrev ident_fields : List Wire
ident_fields = field 2 (varint 1) ∷ field 4 (len (message name_fields)) ∷ []

abbrev select_fields : List Wire
select_fields = field 1 (len ident_bytes) ∷ field 2 (len (codes "method")) ∷ []

abbrev method_fields : List Wire
method_fields = field 2 (varint 2) ∷ field 5 (len (message select_fields)) ∷ []

abbrev text_fields : List Wire
text_fields = field 6 (len (codes "GET")) ∷ []

abbrev get_fields : List Wire
get_fields = field 2 (varint 4) ∷ field 3 (len (message text_fields)) ∷ []

abbrev call_fields : List Wire
call_fields = field 2 (len (codes "_==_")) ∷ field 3 (len method_bytes) ∷ field 3 (len get_bytes) ∷ []

abbrev comparison_fields : List Wire
comparison_fields = field 2 (varint 3) ∷ field 6 (len (message call_fields)) ∷ []

ident_is : IsNode (ident_bytes ∷ []) (pos 1) (ident_node (codes "request"))
ident_is = (
  ident_fields,
  (merges ident_fields tt, refl),
  (
    refl,
    (name_fields, (merges name_fields tt, refl), (request_text.0, ap ident_node (sym request_text.1))),
  ),
)

method_is : IsNode (method_bytes ∷ []) (pos 2) (select_node (ident_bytes ∷ []) (codes "method") false)
method_is = (
  method_fields,
  (merges method_fields tt, refl),
  (
    refl,
    (
      select_fields,
      (merges select_fields tt, refl),
      (method_text.0, λ e. cc, ap (λ name. select_node (ident_bytes ∷ []) name false) (sym method_text.1)),
    ),
  ),
)

get_is : IsNode (get_bytes ∷ []) (pos 4) (constant_node (values.text (codes "GET")))
get_is = (
  get_fields,
  (merges get_fields tt, refl),
  (
    refl,
    (
      values.text (codes "GET"),
      (text_fields, (merges text_fields tt, refl), (get_text.0, ap values.text (sym get_text.1))),
      refl,
    ),
  ),
)

call_is : IsNode (comparison_bytes ∷ []) (pos 3) (call_node (codes "_==_") [] (method_bytes ∷ get_bytes ∷ []))
call_is = (
  comparison_fields,
  (merges comparison_fields tt, refl),
  (
    refl,
    (
      call_fields,
      (merges call_fields tt, refl),
      (equals_text.0, ap (λ name. call_node name [] (method_bytes ∷ get_bytes ∷ [])) (sym equals_text.1)),
    ),
  ),
)

request_tree : IsTree 62 (ident_bytes ∷ []) request
request_tree = record {
  id = pos 1;
  node = ident_node (codes "request");
  is = ident_is;
  inside = no_trees;
  are = tt;
  makes = refl;
}

method_tree : IsTree 63 (method_bytes ∷ []) method
method_tree = record {
  id = pos 2;
  node = select_node (ident_bytes ∷ []) (codes "method") false;
  is = method_is;
  inside = tree request no_trees;
  are = (request_tree, tt);
  makes = refl;
}

get_tree : IsTree 63 (get_bytes ∷ []) get
get_tree = record {
  id = pos 4;
  node = constant_node (values.text (codes "GET"));
  is = get_is;
  inside = no_trees;
  are = tt;
  makes = refl;
}

pub comparison_is : IsTree 64 (comparison_bytes ∷ []) comparison
comparison_is = record {
  id = pos 3;
  node = call_node (codes "_==_") [] (method_bytes ∷ get_bytes ∷ []);
  is = call_is;
  inside = tree method (tree get no_trees);
  are = (method_tree, (get_tree, tt));
  makes = refl;
}

-- ---- Expr: `has(a.b)`, `[1]`, `{1: 2}` and `x.map(i, i + 1)` by cel-go's parser, tools/policy/tests/cel_trees.jsonl

-- a variable with a name of one letter
abbrev letter_bytes : ℕ → ℕ → List ℕ
letter_bytes id letter = 0x10 ∷ id ∷ 0x22 ∷ 0x03 ∷ 0x0a ∷ 0x01 ∷ letter ∷ []

-- a small int
abbrev number_bytes : ℕ → ℕ → List ℕ
number_bytes id n = 0x10 ∷ id ∷ 0x1a ∷ 0x02 ∷ 0x18 ∷ n ∷ []

-- the variable `__result__`
abbrev result_bytes : ℕ → List ℕ
result_bytes id = 0x10 ∷ id ∷ 0x22 ∷ 0x0c ∷ 0x0a ∷ 0x0a ∷ codes "__result__"

abbrev has_bytes : List ℕ
has_bytes = 0x10 ∷ 0x04 ∷ 0x2a ∷ 0x0e ∷ 0x0a ∷ 0x07 ∷ (letter_bytes 0x02 0x61 ++ 0x12 ∷ 0x01 ∷ 0x62 ∷ 0x18 ∷ 0x01 ∷ [])

abbrev list_bytes : List ℕ
list_bytes = 0x10 ∷ 0x01 ∷ 0x3a ∷ 0x08 ∷ 0x0a ∷ 0x06 ∷ number_bytes 0x02 0x01

abbrev map_bytes : List ℕ
map_bytes = 0x10 ∷ 0x01 ∷ 0x42 ∷ 0x14 ∷ 0x12 ∷ 0x12 ∷ 0x08 ∷ 0x02 ∷ 0x22 ∷ 0x06 ∷ (number_bytes 0x04 0x02 ++ 0x1a ∷ 0x06 ∷ number_bytes 0x03 0x01)

-- `true`, what goes on while it holds
abbrev always_bytes : List ℕ
always_bytes = 0x10 ∷ 0x09 ∷ 0x1a ∷ 0x02 ∷ 0x10 ∷ 0x01 ∷ []

-- `[]`, what is gathered at first
abbrev empty_bytes : List ℕ
empty_bytes = 0x10 ∷ 0x08 ∷ 0x3a ∷ 0x00 ∷ []

-- `i + 1`
abbrev sum_bytes : List ℕ
sum_bytes = 0x10 ∷ 0x05 ∷ 0x32 ∷ 0x16 ∷ 0x12 ∷ 0x03 ∷ (codes "_+_" ++ 0x1a ∷ 0x07 ∷ (letter_bytes 0x04 0x69 ++ 0x1a ∷ 0x06 ∷ number_bytes 0x06 0x01))

-- `__result__ + [i + 1]`
abbrev step_bytes : List ℕ
step_bytes = 0x10 ∷ 0x0b ∷ 0x32 ∷ 0x39 ∷ 0x12 ∷ 0x03 ∷ (codes "_+_" ++ 0x1a ∷ 0x10 ∷ (result_bytes 0x07 ++ 0x1a ∷ 0x20 ∷ 0x10 ∷ 0x0a ∷ 0x3a ∷ 0x1c ∷ 0x0a ∷ 0x1a ∷ sum_bytes))

abbrev loop_bytes : List ℕ
loop_bytes = 0x10 ∷ 0x0c ∷ 0x4a ∷ 0x77 ∷ 0x0a ∷ 0x01 ∷ 0x69 ∷ 0x12 ∷ 0x07 ∷ (letter_bytes 0x01 0x78
    ++ 0x1a ∷ 0x0a ∷ (codes "__result__" ++ 0x22 ∷ 0x04 ∷ (empty_bytes ++ 0x2a ∷ 0x06 ∷ (always_bytes
    ++ 0x32 ∷ 0x3d ∷ (step_bytes ++ 0x3a ∷ 0x10 ∷ result_bytes 0x07)))))

abbrev map_entry : EntryNode
map_entry = record { id = pos 2; key = number_bytes 0x03 0x01 ∷ []; value = number_bytes 0x04 0x02 ∷ [] }

abbrev loop : List ℕ → List ℕ → Node
loop element gathered = loop_node (record {
  iter_var = element;
  iter_var2 = [];
  accu_var = gathered;
  iter_range = letter_bytes 0x01 0x78 ∷ [];
  accu_init = empty_bytes ∷ [];
  loop_condition = always_bytes ∷ [];
  loop_step = step_bytes ∷ [];
  result = result_bytes 0x07 ∷ [];
})

pub record AreNodes : Type 0 where
  pub has : IsNode (has_bytes ∷ []) (pos 4) (select_node (letter_bytes 0x02 0x61 ∷ []) (codes "b") true)
  pub list : IsNode (list_bytes ∷ []) (pos 1) (list_node (number_bytes 0x02 0x01 ∷ []))
  pub map : IsNode (map_bytes ∷ []) (pos 1) (map_node (map_entry ∷ []))
  pub folded : IsNode (loop_bytes ∷ []) (pos 12) (loop (codes "i") (codes "__result__"))

abbrev has_fields : List Wire
has_fields = field 1 (len (letter_bytes 0x02 0x61)) ∷ field 2 (len (codes "b")) ∷ field 3 (varint 1) ∷ []

abbrev list_fields : List Wire
list_fields = field 1 (len (number_bytes 0x02 0x01)) ∷ []

abbrev entry_fields : List Wire
entry_fields = field 1 (varint 2) ∷ field 4 (len (number_bytes 0x04 0x02)) ∷ field 3 (len (number_bytes 0x03 0x01)) ∷ []

abbrev map_fields : List Wire
map_fields = field 2 (len (message entry_fields)) ∷ []

abbrev loop_fields : List Wire
loop_fields = field 1 (len (codes "i")) ∷ field 2 (len (letter_bytes 0x01 0x78)) ∷ field 3 (len (codes "__result__"))
    ∷ field 4 (len empty_bytes) ∷ field 5 (len always_bytes) ∷ field 6 (len step_bytes) ∷ field 7 (len (result_bytes 0x07)) ∷ []

-- an Expr with a small id and this member
abbrev expr_fields : ℕ → ℕ → List Wire → List Wire
expr_fields id member inner = field 2 (varint id) ∷ field member (len (message inner)) ∷ []

pub nodes : AreNodes
unfolding chars
nodes = record {
  has = (
    expr_fields 4 5 has_fields,
    (merges (expr_fields 4 5 has_fields) tt, refl),
    (
      refl,
      (
        has_fields,
        (merges has_fields tt, refl),
        (b_text.0, λ e. cc, ap (λ name. select_node (letter_bytes 0x02 0x61 ∷ []) name true) (sym b_text.1)),
      ),
    ),
  );
  list = (
    expr_fields 1 7 list_fields,
    (merges (expr_fields 1 7 list_fields) tt, refl),
    (refl, (list_fields, (merges list_fields tt, refl), (refl, refl))),
  );
  map = (
    expr_fields 1 8 map_fields,
    (merges (expr_fields 1 8 map_fields) tt, refl),
    (
      refl,
      (
        map_fields,
        (merges map_fields tt, refl),
        (
          refl,
          map_entry ∷ [],
          (
            (
              entry_fields,
              (merges entry_fields tt, refl),
              record { plain = refl; keyed = refl; there = λ e. cc; id = refl; key = refl; value = refl },
            ),
            tt,
          ),
          refl,
        ),
      ),
    ),
  );
  folded = (
    expr_fields 12 9 loop_fields,
    (merges (expr_fields 12 9 loop_fields) tt, refl),
    (
      refl,
      (
        loop_fields,
        (merges loop_fields tt, refl),
        (
          (i_text.0, (result_text.0, (IsUtf8-nil, tt))),
          (λ e. cc, (λ e. cc, (λ e. cc, (λ e. cc, (λ e. cc, tt))))),
          ap₂ loop (sym i_text.1) (sym result_text.1),
        ),
      ),
    ),
  );
}

-- ---- Type: a string, a bool, a list, a map and a message, as cel-go's checker writes them in examples/filters/conditions.hex

abbrev string_bytes : List ℕ
string_bytes = 0x18 ∷ 0x05 ∷ []

abbrev bool_bytes : List ℕ
bool_bytes = 0x18 ∷ 0x01 ∷ []

abbrev message_bytes : List ℕ
message_bytes = 0x4a ∷ 0x0c ∷ codes "root.request"

pub record AreTypes : Type 0 where
  pub string : IsTypeEntry 64 (string_bytes ∷ []) (of_type text_type)
  pub truth : IsTypeEntry 64 (bool_bytes ∷ []) (of_type bool_type)
  pub list : IsTypeEntry 64 ((0x32 ∷ 0x04 ∷ 0x0a ∷ 0x02 ∷ string_bytes) ∷ []) (of_type (list_type text_type))
  pub map : IsTypeEntry 64 ((0x3a ∷ 0x08 ∷ 0x0a ∷ 0x02 ∷ (string_bytes ++ 0x12 ∷ 0x02 ∷ string_bytes)) ∷ [])
      (of_type (map_type keys.Text text_type))
  pub other : IsTypeEntry 64 (message_bytes ∷ []) unsupported_type

abbrev elem_fields : List Wire
elem_fields = field 1 (len string_bytes) ∷ []

abbrev pair_fields : List Wire
pair_fields = field 1 (len string_bytes) ∷ field 2 (len string_bytes) ∷ []

string_is : (depth : ℕ) → IsTypeEntry (suc depth) (string_bytes ∷ []) (of_type text_type)
string_is depth = (
  plain (of_type text_type),
  (field 3 (varint 5) ∷ [], (merges (field 3 (varint 5) ∷ []) tt, refl), (of_type text_type, refl, refl)),
  refl,
)

pub types : AreTypes
types = record {
  string = string_is 63;
  truth = (
    plain (of_type bool_type),
    (field 3 (varint 1) ∷ [], (merges (field 3 (varint 1) ∷ []) tt, refl), (of_type bool_type, refl, refl)),
    refl,
  );
  list = (
    list_of (string_bytes ∷ []),
    (
      field 6 (len (message elem_fields)) ∷ [],
      (merges (field 6 (len (message elem_fields)) ∷ []) tt, refl),
      (elem_fields, (merges elem_fields tt, refl), (λ e. cc, refl)),
    ),
    (of_type text_type, string_is 62, refl),
  );
  map = (
    map_of_types (string_bytes ∷ []) (string_bytes ∷ []),
    (
      field 7 (len (message pair_fields)) ∷ [],
      (merges (field 7 (len (message pair_fields)) ∷ []) tt, refl),
      (pair_fields, (merges pair_fields tt, refl), (λ e. cc, λ e. cc, refl)),
    ),
    (of_type text_type, of_type text_type, string_is 62, string_is 62, refl),
  );
  other = (
    plain unsupported_type,
    (
      field 9 (len (codes "root.request")) ∷ [],
      (merges (field 9 (len (codes "root.request")) ∷ []) tt, refl),
      refl,
    ),
    refl,
  );
}

-- ---- Reference: of a variable and of an overload, as cel-go's checker writes them in examples/filters/conditions.hex

abbrev variable_bytes : List ℕ
variable_bytes = 0x0a ∷ 0x07 ∷ codes "request"

abbrev overload_bytes : List ℕ
overload_bytes = 0x1a ∷ 0x06 ∷ codes "equals"

abbrev named : List ℕ → CelReference
named name = record { name = name; value = None }

pub record AreReferences : Type 0 where
  pub variable : IsReference (variable_bytes ∷ []) (named (codes "request"))
  pub overload : IsReference (overload_bytes ∷ []) (named [])

pub references : AreReferences
references = record {
  variable = (
    field 1 (len (codes "request")) ∷ [],
    (merges (field 1 (len (codes "request")) ∷ []) tt, refl),
    record { readable = request_text.0; ids = tt; named = sym request_text.1; valued = refl },
  );
  overload = (
    field 3 (len (codes "equals")) ∷ [],
    (merges (field 3 (len (codes "equals")) ∷ []) tt, refl),
    record { readable = no_text.0; ids = (overload_text.0, tt); named = sym no_text.1; valued = refl },
  );
}

-- ---- CheckedExpr: `request.method == "GET"` as cel-go's checker writes it in front of `&&` in examples/filters/conditions.hex

abbrev id_entry : ℕ → List ℕ → List Wire
id_entry id value = field 1 (varint id) ∷ field 2 (len value) ∷ []

abbrev positions_bytes : List ℕ
positions_bytes = 0x12 ∷ 0x07 ∷ (codes "<input>" ++ 0x1a ∷ 0x01 ∷ 0x18 ∷ 0x22 ∷ 0x04 ∷ 0x08 ∷ 0x03 ∷ 0x10 ∷ 0x0f
    ∷ 0x22 ∷ 0x04 ∷ 0x08 ∷ 0x02 ∷ 0x10 ∷ 0x07 ∷ 0x22 ∷ 0x04 ∷ 0x08 ∷ 0x04 ∷ 0x10 ∷ 0x12 ∷ 0x22 ∷ 0x04 ∷ 0x08 ∷ 0x01 ∷ 0x10 ∷ 0x00 ∷ [])

abbrev pub checked_bytes : List ℕ
checked_bytes = 0x12 ∷ 0x0c ∷ 0x08 ∷ 0x03 ∷ 0x12 ∷ 0x08 ∷ (overload_bytes
    ++ 0x12 ∷ 0x0d ∷ 0x08 ∷ 0x01 ∷ 0x12 ∷ 0x09 ∷ (variable_bytes
    ++ 0x1a ∷ 0x06 ∷ 0x08 ∷ 0x04 ∷ 0x12 ∷ 0x02 ∷ (string_bytes
    ++ 0x1a ∷ 0x06 ∷ 0x08 ∷ 0x03 ∷ 0x12 ∷ 0x02 ∷ (bool_bytes
    ++ 0x1a ∷ 0x06 ∷ 0x08 ∷ 0x02 ∷ 0x12 ∷ 0x02 ∷ (string_bytes
    ++ 0x1a ∷ 0x12 ∷ 0x08 ∷ 0x01 ∷ 0x12 ∷ 0x0e ∷ (message_bytes
    ++ 0x22 ∷ 0x32 ∷ (comparison_bytes ++ 0x2a ∷ 0x24 ∷ positions_bytes)))))))

abbrev checked_fields : List Wire
checked_fields = field 2 (len (message (id_entry 3 overload_bytes))) ∷ field 2 (len (message (id_entry 1 variable_bytes)))
    ∷ field 3 (len (message (id_entry 4 string_bytes))) ∷ field 3 (len (message (id_entry 3 bool_bytes)))
    ∷ field 3 (len (message (id_entry 2 string_bytes))) ∷ field 3 (len (message (id_entry 1 message_bytes)))
    ∷ field 4 (len comparison_bytes) ∷ field 5 (len positions_bytes) ∷ []

-- what is said of ids, in their order
abbrev last_type : List (ℤ × CelTypeEntry)
last_type = (pos 4, of_type text_type) ∷ []

abbrev last_types : List (ℤ × CelTypeEntry)
last_types = (pos 3, of_type bool_type) ∷ last_type

abbrev more_types : List (ℤ × CelTypeEntry)
more_types = (pos 2, of_type text_type) ∷ last_types

abbrev types_said : List (ℤ × CelTypeEntry)
types_said = (pos 1, unsupported_type) ∷ more_types

abbrev overloads_said : List (ℤ × CelReference)
overloads_said = (pos 3, named []) ∷ []

abbrev references_said : List (ℤ × CelReference)
references_said = (pos 1, named (codes "request")) ∷ overloads_said

abbrev pub checked : CelChecked
checked = record {
  tree = comparison;
  types = from_entries types_said;
  refs = from_entries references_said;
}

abbrev type_entries : List (Entry int64)
type_entries = (pos 4, string_bytes ∷ []) ∷ (pos 3, bool_bytes ∷ []) ∷ (pos 2, string_bytes ∷ [])
    ∷ (pos 1, message_bytes ∷ []) ∷ []

abbrev types_in_order : List (Entry int64)
types_in_order = (pos 1, message_bytes ∷ []) ∷ (pos 2, string_bytes ∷ []) ∷ (pos 3, bool_bytes ∷ [])
    ∷ (pos 4, string_bytes ∷ []) ∷ []

abbrev reference_entries : List (Entry int64)
reference_entries = (pos 3, overload_bytes ∷ []) ∷ (pos 1, variable_bytes ∷ []) ∷ []

abbrev references_in_order : List (Entry int64)
references_in_order = (pos 1, variable_bytes ∷ []) ∷ (pos 3, overload_bytes ∷ []) ∷ []

types_ordered : entries (map_of int64 type_entries) ≡ types_in_order
types_ordered = entries_from_entries int_cmp int_cmp_total types_in_order tt

references_ordered : entries (map_of int64 reference_entries) ≡ references_in_order
references_ordered = entries_from_entries int_cmp int_cmp_total references_in_order tt

types_held : Held int64 (IsTypeEntry 64) types_in_order types_said
types_held = (
  unsupported_type,
  more_types,
  types.other,
  (
    of_type text_type,
    last_types,
    types.string,
    (
      of_type bool_type,
      last_type,
      types.truth,
      (of_type text_type, [], types.string, refl, refl),
      refl,
    ),
    refl,
  ),
  refl,
)

references_held : Held int64 IsReference references_in_order references_said
references_held = (
  named (codes "request"),
  overloads_said,
  references.variable,
  (named [], [], references.overload, refl, refl),
  refl,
)

pub checked_is : IsChecked (checked_bytes ∷ []) checked
checked_is = (
  checked_fields,
  (merges checked_fields tt, refl),
  record {
    there = λ e. cc;
    tree = comparison_is;
    few = (let four : node_count checked.tree ≡ 4 = refl in omega (arith, four));
    types = (
      type_entries,
      (
        (id_entry 4 string_bytes, (merges (id_entry 4 string_bytes) tt, refl), tt, refl),
        (
          (id_entry 3 bool_bytes, (merges (id_entry 3 bool_bytes) tt, refl), tt, refl),
          (
            (id_entry 2 string_bytes, (merges (id_entry 2 string_bytes) tt, refl), tt, refl),
            ((id_entry 1 message_bytes, (merges (id_entry 1 message_bytes) tt, refl), tt, refl), tt),
          ),
        ),
      ),
      held_are_values int64 (IsTypeEntry 64) (map_of int64 type_entries) types_said
          (subst (λ ns. Held int64 (IsTypeEntry 64) ns types_said) (sym types_ordered) types_held),
    );
    refs = (
      reference_entries,
      (
        (id_entry 3 overload_bytes, (merges (id_entry 3 overload_bytes) tt, refl), tt, refl),
        ((id_entry 1 variable_bytes, (merges (id_entry 1 variable_bytes) tt, refl), tt, refl), tt),
      ),
      held_are_values int64 IsReference (map_of int64 reference_entries) references_said
          (subst (λ ns. Held int64 IsReference ns references_said) (sym references_ordered) references_held),
    );
  },
)

-- ---- CheckedExpr: an Expr with an id alone lacks its kind, by the oneof `expr_kind` of google/api/expr/v1alpha1/syntax.proto

pub no_kind : CheckedFault ((0x22 ∷ 0x02 ∷ 0x10 ∷ 0x01 ∷ []) ∷ []) Missing
no_kind =
    in_values (field 4 (len (0x10 ∷ 0x01 ∷ [])) ∷ []) (merges (field 4 (len (0x10 ∷ 0x01 ∷ [])) ∷ []) tt)
    (in_expression (
      λ e. cc,
      inl (in_node (lacking (field 2 (varint 1) ∷ []) (merges (field 2 (varint 1) ∷ []) tt, refl) refl refl)),
    ))
