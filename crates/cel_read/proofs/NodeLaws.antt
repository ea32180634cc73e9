-- The payloads of a single node are one or have a fault, never both, and are one node at most.
use Rattle.std.proofs.Common.{◌≡◌, ◌≢◌, ◌<◌, ◌⊎◌, inl, inr, ℕ, ℤ, Bool, true, false, List, [], ◌∷◌, Contains, Option, Some, None, arith, refl, sym, ap, subst, ◌∙◌}
use Rattle.std.specs.List.{AllByRecursion, AllZip}
use Rattle.std.specs.Str.{IsUtf8}
use Rattle.proto_wire.specs.Fields.{Wire}
use Rattle.proto_wire.specs.Merge.{SomeOf}
use Rattle.proto_wire.specs.Oneof.{member_run, last_number}
use Rattle.proto_wire.specs.Values.{bool_at, int64_at, bytes_at, payloads, has_field, Utf8Fault, StringFault}
use Rattle.proto_wire.specs.declared.refusal.Refusal.{Refusal}
use Rattle.proto_wire.specs.declared.refusal.Refusal.TheVariants.{BadText, Missing, Unsupported}
use Rattle.cel_value.specs.Texts.{points_of}
use Rattle.cel_tree.specs.Nodes.{EntryNode, Node, constant_node, ident_node, select_node, call_node, list_node, map_node, loop_node, ident_keys, IdentSays, select_keys, SelectSays, SelectLacks, call_keys, CallSays, list_keys, ListSays, ListWrong, key_members, entry_keys, EntrySays, EntryLacks, EntryWrong, optional, key_of_message, IsMapEntry, MapEntryFault, struct_keys, StructSays, StructWrong, bad_name, of_message, in_entry, loop_names, loop_parts, loop_keys, NamesRead, PartsThere, loop_at, LoopSays, LoopLacks, LoopWrong, node_kinds, node_keys, KindSays, KindFault, MemberSays, MemberFails, NodeSays, IsNode, NodeFault, ident_field, select_field, call_field, list_field, entry_field, struct_field, loop_field, node_field}
use Rattle.proto_wire.specs.Reading.{Never, LacksMember, IsUnsupported, OneofFault}
use Rattle.proto_wire.specs.private.Values.{ValuesFault}
use Rattle.cel_tree.specs.declared.kinds.NodeKind.{NodeKind}
use Rattle.cel_tree.specs.declared.kinds.NodeKind.TheVariants as kinds
use Rattle.cel_read.proofs.Basics.{nil_or_not, empty_text, same_or_not, utf8_total, contains_first, contains_later, contains_cases}
use Rattle.cel_read.proofs.ConstantLaws.{constant_total, constant_disjoint, constant_unique}
use Rattle.proto_wire.proofs.ReadingLaws.{reads_total, reads_disjoint, reads_unique, oneof_total, oneof_disjoint, oneof_unique}

-- ---- Ident, Select and Call

ident_total : (fs : List Wire) → ((node : Node) × IdentSays fs node) ⊎ ((e : Refusal) × ValuesFault Never (StringFault ident_field.name) fs e)
ident_total fs = elim (utf8_total (bytes_at ident_field.name fs)) [
  | inl utf8 ↦ inl (ident_node (points_of (bytes_at ident_field.name fs)), (utf8, refl))
  | inr other ↦ inr (BadText, inr (other, refl))
]

ident_disjoint : (fs : List Wire) (node : Node) (e : Refusal) → IdentSays fs node → ValuesFault Never (StringFault ident_field.name) fs e → ⊥
ident_disjoint fs node e says (inl none) = none.0
ident_disjoint fs node e says (inr bad) = bad.0 says.0

ident_unique : (fs : List Wire) (a b : Node) → IdentSays fs a → IdentSays fs b → a ≡ b
ident_unique fs a b x y = x.1 ∙ sym y.1

select_total : (fs : List Wire) → ((node : Node) × SelectSays fs node) ⊎ ((e : Refusal) × ValuesFault SelectLacks (StringFault select_field.field) fs e)
select_total fs = elim (utf8_total (bytes_at select_field.field fs)) [
  | inr other ↦ inr (BadText, inr (other, refl))
  | inl utf8 ↦ elim (nil_or_not (payloads select_field.operand fs)) [
    | inl none ↦ inr (Missing, inl ((utf8, none), refl))
    | inr some ↦ inl (select_node (payloads select_field.operand fs) (points_of (bytes_at select_field.field fs)) (bool_at select_field.test_only fs), (utf8, some, refl))
  ]
]

select_disjoint : (fs : List Wire) (node : Node) (e : Refusal) → SelectSays fs node → ValuesFault SelectLacks (StringFault select_field.field) fs e → ⊥
select_disjoint fs node e says (inl lacks) = says.1 lacks.0.1
select_disjoint fs node e says (inr bad) = bad.0 says.0

select_unique : (fs : List Wire) (a b : Node) → SelectSays fs a → SelectSays fs b → a ≡ b
select_unique fs a b x y = x.2 ∙ sym y.2

call_total : (fs : List Wire) → ((node : Node) × CallSays fs node) ⊎ ((e : Refusal) × ValuesFault Never (StringFault call_field.function) fs e)
call_total fs = elim (utf8_total (bytes_at call_field.function fs)) [
  | inl utf8 ↦ inl (call_node (points_of (bytes_at call_field.function fs)) (payloads call_field.target fs) (payloads call_field.args fs), (utf8, refl))
  | inr other ↦ inr (BadText, inr (other, refl))
]

call_disjoint : (fs : List Wire) (node : Node) (e : Refusal) → CallSays fs node → ValuesFault Never (StringFault call_field.function) fs e → ⊥
call_disjoint fs node e says (inl none) = none.0
call_disjoint fs node e says (inr bad) = bad.0 says.0

call_unique : (fs : List Wire) (a b : Node) → CallSays fs a → CallSays fs b → a ≡ b
call_unique fs a b x y = x.1 ∙ sym y.1

-- ---- literals

false_or_true : (b : Bool) → (b ≡ false) ⊎ (b ≡ true)
false_or_true true = inr refl
false_or_true false = inl refl

not_both : (b : Bool) → b ≡ false → b ≡ true → ⊥
not_both b is other = let clash : false ≡ true = sym is ∙ other in cc

list_total : (fs : List Wire) → ((node : Node) × ListSays fs node) ⊎ ((e : Refusal) × ValuesFault Never ListWrong fs e)
list_total fs = elim (false_or_true (has_field list_field.optional_indices fs)) [
  | inl plain ↦ inl (list_node (payloads list_field.elements fs), (plain, refl))
  | inr there ↦ inr (Unsupported, inr (there, refl))
]

list_disjoint : (fs : List Wire) (node : Node) (e : Refusal) → ListSays fs node → ValuesFault Never ListWrong fs e → ⊥
list_disjoint fs node e says (inl none) = none.0
list_disjoint fs node e says (inr bad) = not_both (has_field list_field.optional_indices fs) says.0 bad.0

list_unique : (fs : List Wire) (a b : Node) → ListSays fs a → ListSays fs b → a ≡ b
list_unique fs a b x y = x.1 ∙ sym y.1

entry_keyed : (fs : List Wire) → bool_at entry_field.optional_entry fs ≡ false → (o : Option ℕ) → last_number key_members fs ≡ o
    → ((entry : EntryNode) × EntrySays fs entry) ⊎ ((e : Refusal) × ValuesFault EntryLacks EntryWrong fs e)
entry_keyed fs plain None none = inr (Missing, inl (inl none, refl))
entry_keyed fs plain (Some n) last = elim (same_or_not n entry_field.map_key) [
  | inr other ↦ inr (Unsupported, inr (key_of_message n last other refl))
  | inl same ↦ elim (nil_or_not (payloads entry_field.value fs)) [
    | inl none ↦ inr (Missing, inl (inr none, refl))
    | inr there ↦ inl (
      record { id = int64_at entry_field.id fs; key = payloads entry_field.map_key (member_run key_members fs); value = payloads entry_field.value fs },
      record { plain = plain; keyed = last ∙ ap Some same; there = there; id = refl; key = refl; value = refl },
    )
  ]
]

entry_says_total : (fs : List Wire) → ((entry : EntryNode) × EntrySays fs entry) ⊎ ((e : Refusal) × ValuesFault EntryLacks EntryWrong fs e)
entry_says_total fs = elim (false_or_true (bool_at entry_field.optional_entry fs)) [
  | inl plain ↦ entry_keyed fs plain (last_number key_members fs) refl
  | inr is ↦ inr (Unsupported, inr (optional is refl))
]

entry_says_disjoint : (fs : List Wire) (entry : EntryNode) (e : Refusal) → EntrySays fs entry → ValuesFault EntryLacks EntryWrong fs e → ⊥
entry_says_disjoint fs entry e says (inl (inl none, is)) = let clash : Some entry_field.map_key ≡ None = sym says.keyed ∙ none in cc
entry_says_disjoint fs entry e says (inl (inr none, is)) = says.there none
entry_says_disjoint fs entry e says (inr (optional bad is)) = not_both (bool_at entry_field.optional_entry fs) says.plain bad
entry_says_disjoint fs entry e says (inr (key_of_message n last other is)) =
    let whole : Some n ≡ Some entry_field.map_key = sym last ∙ says.keyed in
    let same : n ≡ entry_field.map_key = cc in
    other same

entry_says_unique : (fs : List Wire) (a b : EntryNode) → EntrySays fs a → EntrySays fs b → a ≡ b
entry_says_unique fs a b x y =
    let id : a.id ≡ b.id = x.id ∙ sym y.id in
    let key : a.key ≡ b.key = x.key ∙ sym y.key in
    let value : a.value ≡ b.value = x.value ∙ sym y.value in
    λ i. record { id = id i; key = key i; value = value i }

entry_total : (payload : List ℕ) → ((entry : EntryNode) × IsMapEntry payload entry) ⊎ ((e : Refusal) × MapEntryFault payload e)
entry_total payload = reads_total entry_keys EntrySays EntryLacks EntryWrong entry_says_total (payload ∷ [])

entry_disjoint : (payload : List ℕ) (entry : EntryNode) (e : Refusal) → IsMapEntry payload entry → MapEntryFault payload e → ⊥
entry_disjoint payload = reads_disjoint entry_keys EntrySays EntryLacks EntryWrong entry_says_disjoint (payload ∷ [])

entry_unique : (payload : List ℕ) (a b : EntryNode) → IsMapEntry payload a → IsMapEntry payload b → a ≡ b
entry_unique payload = reads_unique entry_keys EntrySays entry_says_unique (payload ∷ [])

entries_total : (payloads : List (List ℕ))
    → ((es : List EntryNode) × AllZip IsMapEntry payloads es)
    ⊎ ((payload : List ℕ) × Contains payloads payload × (e : Refusal) × MapEntryFault payload e)
entries_total [] = inl ([], tt)
entries_total (p ∷ ps) = elim (entry_total p) [
  | inr (e, bad) ↦ inr (p, contains_first p ps, e, bad)
  | inl (entry, is) ↦ elim (entries_total ps) [
    | inl (es, are) ↦ inl (entry ∷ es, (is, are))
    | inr (q, here, e, bad) ↦ inr (q, contains_later p q ps here, e, bad)
  ]
]

entries_disjoint : (payloads : List (List ℕ)) (es : List EntryNode) (payload : List ℕ) (e : Refusal)
    → AllZip IsMapEntry payloads es → Contains payloads payload → MapEntryFault payload e → ⊥
entries_disjoint [] es payload e are here bad = let lt : here.0 < 0 = here.1 in absurd (omega arith)
entries_disjoint (p ∷ ps) [] payload e are here bad = are
entries_disjoint (p ∷ ps) (x ∷ es) payload e are here bad = elim (contains_cases p payload ps here) [
  | inl same ↦ let P : List ℕ → Type 0 = λ q. MapEntryFault q e in entry_disjoint p x e are.0 (subst P (sym same) bad)
  | inr later ↦ entries_disjoint ps es payload e are.1 later bad
]

entries_unique : (payloads : List (List ℕ)) (es ds : List EntryNode) → AllZip IsMapEntry payloads es → AllZip IsMapEntry payloads ds → es ≡ ds
entries_unique [] [] [] a b = refl
entries_unique [] [] (d ∷ ds) a b = absurd b
entries_unique [] (x ∷ es) ds a b = absurd a
entries_unique (p ∷ ps) [] ds a b = absurd a
entries_unique (p ∷ ps) (x ∷ es) [] a b = absurd b
entries_unique (p ∷ ps) (x ∷ es) (d ∷ ds) a b =
    let first : x ≡ d = entry_unique p x d a.0 b.0 in
    let others : es ≡ ds = entries_unique ps es ds a.1 b.1 in
    cc

struct_total : (fs : List Wire) → ((node : Node) × StructSays fs node) ⊎ ((e : Refusal) × ValuesFault Never StructWrong fs e)
struct_total fs = elim (nil_or_not (bytes_at struct_field.message_name fs)) [
  | inr named ↦ inr (Unsupported, inr (of_message named refl))
  | inl plain ↦ elim (entries_total (payloads struct_field.entries fs)) [
    | inl (es, are) ↦ inl (map_node es, (plain, es, are, refl))
    | inr (p, here, e, bad) ↦ inr (e, inr (in_entry p here bad))
  ]
]

struct_disjoint : (fs : List Wire) (node : Node) (e : Refusal) → StructSays fs node → ValuesFault Never StructWrong fs e → ⊥
struct_disjoint fs node e says (inl none) = none.0
struct_disjoint fs node e says (inr (bad_name bad)) = bad.0 (empty_text (bytes_at struct_field.message_name fs) says.0)
struct_disjoint fs node e says (inr (of_message named is)) = named says.0
struct_disjoint fs node e (plain, es, are, same) (inr (in_entry p here bad)) = entries_disjoint (payloads struct_field.entries fs) es p e are here bad

struct_unique : (fs : List Wire) (a b : Node) → StructSays fs a → StructSays fs b → a ≡ b
struct_unique fs a b (plain, es, are, is) (plain', ds, are', is') =
    is ∙ ap map_node (entries_unique (payloads struct_field.entries fs) es ds are are') ∙ sym is'

-- ---- comprehensions

names_total : (fs : List Wire) → NamesRead fs ⊎ ((e : Refusal) × LoopWrong fs e)
names_total fs = elim (utf8_total (bytes_at loop_field.iter_var fs)) [
  | inr other ↦ inr (BadText, inl (other, refl))
  | inl iter ↦ elim (utf8_total (bytes_at loop_field.accu_var fs)) [
    | inr other ↦ inr (BadText, inr (inl (other, refl)))
    | inl accu ↦ elim (utf8_total (bytes_at loop_field.iter_var2 fs)) [
      | inr other ↦ inr (BadText, inr (inr (inl (other, refl))))
      | inl second ↦ inl (iter, (accu, (second, tt)))
    ]
  ]
]

parts_total : (fs : List Wire) → PartsThere fs ⊎ SomeOf (λ n. payloads n fs ≡ []) loop_parts
parts_total fs = elim (nil_or_not (payloads loop_field.iter_range fs)) [
  | inl none ↦ inr (inl none)
  | inr range ↦ elim (nil_or_not (payloads loop_field.accu_init fs)) [
    | inl none ↦ inr (inr (inl none))
    | inr init ↦ elim (nil_or_not (payloads loop_field.loop_condition fs)) [
      | inl none ↦ inr (inr (inr (inl none)))
      | inr condition ↦ elim (nil_or_not (payloads loop_field.loop_step fs)) [
        | inl none ↦ inr (inr (inr (inr (inl none))))
        | inr step ↦ elim (nil_or_not (payloads loop_field.result fs)) [
          | inl none ↦ inr (inr (inr (inr (inr (inl none)))))
          | inr result ↦ inl (range, (init, (condition, (step, (result, tt)))))
        ]
      ]
    ]
  ]
]

loop_total : (fs : List Wire) → ((node : Node) × LoopSays fs node) ⊎ ((e : Refusal) × ValuesFault LoopLacks LoopWrong fs e)
loop_total fs = elim (names_total fs) [
  | inr (e, bad) ↦ inr (e, inr bad)
  | inl names ↦ elim (parts_total fs) [
    | inr lacks ↦ inr (Missing, inl ((names, lacks), refl))
    | inl parts ↦ inl (loop_node (loop_at fs), (names, parts, refl))
  ]
]

parts_disjoint : (fs : List Wire) → (ns : List ℕ) → AllByRecursion (λ n. payloads n fs ≢ []) ns
    → SomeOf (λ n. payloads n fs ≡ []) ns → ⊥
parts_disjoint fs [] there lacks = lacks
parts_disjoint fs (n ∷ ns) there (inl none) = there.0 none
parts_disjoint fs (n ∷ ns) there (inr later) = parts_disjoint fs ns there.1 later

names_disjoint : (fs : List Wire) (e : Refusal) → (ns : List ℕ) → AllByRecursion (λ n. IsUtf8 (bytes_at n fs)) ns
    → SomeOf (λ n. Utf8Fault (bytes_at n fs) e) ns → ⊥
names_disjoint fs e [] read bad = bad
names_disjoint fs e (n ∷ ns) read (inl bad) = bad.0 read.0
names_disjoint fs e (n ∷ ns) read (inr later) = names_disjoint fs e ns read.1 later

loop_disjoint : (fs : List Wire) (node : Node) (e : Refusal) → LoopSays fs node → ValuesFault LoopLacks LoopWrong fs e → ⊥
loop_disjoint fs node e says (inl lacks) = parts_disjoint fs loop_parts says.1 lacks.0.1
loop_disjoint fs node e says (inr bad) = names_disjoint fs e loop_names says.0 bad

loop_unique : (fs : List Wire) (a b : Node) → LoopSays fs a → LoopSays fs b → a ≡ b
loop_unique fs a b x y = x.2 ∙ sym y.2

-- ---- all kinds

kind_total : (kind : NodeKind) (parts : List (List ℕ)) → ((node : Node) × KindSays kind parts node) ⊎ ((e : Refusal) × KindFault kind parts e)
kind_total kinds.Constant parts = elim (constant_total parts) [
  | inl (v, is) ↦ inl (constant_node v, (v, is, refl))
  | inr bad ↦ inr bad
]
kind_total kinds.Ident parts = reads_total ident_keys IdentSays Never (StringFault ident_field.name) ident_total parts
kind_total kinds.Select parts = reads_total select_keys SelectSays SelectLacks (StringFault select_field.field) select_total parts
kind_total kinds.Call parts = reads_total call_keys CallSays Never (StringFault call_field.function) call_total parts
kind_total kinds.List parts = reads_total list_keys ListSays Never ListWrong list_total parts
kind_total kinds.Struct parts = reads_total struct_keys StructSays Never StructWrong struct_total parts
kind_total kinds.Comprehension parts = reads_total loop_keys LoopSays LoopLacks LoopWrong loop_total parts

kind_disjoint : (kind : NodeKind) (parts : List (List ℕ)) (node : Node) (e : Refusal) → KindSays kind parts node → KindFault kind parts e → ⊥
kind_disjoint kinds.Constant parts node e (v, is, same) bad = constant_disjoint parts v e is bad
kind_disjoint kinds.Ident parts node e says bad = reads_disjoint ident_keys IdentSays Never (StringFault ident_field.name) ident_disjoint parts node e says bad
kind_disjoint kinds.Select parts node e says bad = reads_disjoint select_keys SelectSays SelectLacks (StringFault select_field.field) select_disjoint parts node e says bad
kind_disjoint kinds.Call parts node e says bad = reads_disjoint call_keys CallSays Never (StringFault call_field.function) call_disjoint parts node e says bad
kind_disjoint kinds.List parts node e says bad = reads_disjoint list_keys ListSays Never ListWrong list_disjoint parts node e says bad
kind_disjoint kinds.Struct parts node e says bad = reads_disjoint struct_keys StructSays Never StructWrong struct_disjoint parts node e says bad
kind_disjoint kinds.Comprehension parts node e says bad = reads_disjoint loop_keys LoopSays LoopLacks LoopWrong loop_disjoint parts node e says bad

kind_unique : (kind : NodeKind) (parts : List (List ℕ)) (a b : Node) → KindSays kind parts a → KindSays kind parts b → a ≡ b
kind_unique kinds.Constant parts a b (v, is, same) (w, also, same') = same ∙ ap constant_node (constant_unique parts v w is also) ∙ sym same'
kind_unique kinds.Ident parts a b x y = reads_unique ident_keys IdentSays ident_unique parts a b x y
kind_unique kinds.Select parts a b x y = reads_unique select_keys SelectSays select_unique parts a b x y
kind_unique kinds.Call parts a b x y = reads_unique call_keys CallSays call_unique parts a b x y
kind_unique kinds.List parts a b x y = reads_unique list_keys ListSays list_unique parts a b x y
kind_unique kinds.Struct parts a b x y = reads_unique struct_keys StructSays struct_unique parts a b x y
kind_unique kinds.Comprehension parts a b x y = reads_unique loop_keys LoopSays loop_unique parts a b x y

-- ---- nodes

numbered_total : (fs : List Wire) → ((x : ℤ × Node) × NodeSays fs x)
    ⊎ ((e : Refusal) × ValuesFault (LacksMember node_kinds) (OneofFault node_kinds IsUnsupported MemberFails) fs e)
numbered_total fs =
    elim (oneof_total node_kinds MemberSays MemberFails (λ m n run. kind_total m (payloads n run)) fs) [
      | inl (node, says) ↦ inl ((int64_at node_field.id fs, node), (refl, says))
      | inr bad ↦ inr bad
    ]

numbered_disjoint : (fs : List Wire) (x : ℤ × Node) (e : Refusal) → NodeSays fs x
    → ValuesFault (LacksMember node_kinds) (OneofFault node_kinds IsUnsupported MemberFails) fs e → ⊥
numbered_disjoint fs x e says bad =
    oneof_disjoint node_kinds MemberSays MemberFails (λ m n run node d a b. kind_disjoint m (payloads n run) node d a b)
    fs x.1 e says.1 bad

numbered_unique : (fs : List Wire) (x y : ℤ × Node) → NodeSays fs x → NodeSays fs y → x ≡ y
numbered_unique fs x y a b =
    let id : x.0 ≡ y.0 = a.0 ∙ sym b.0 in
    let node : x.1 ≡ y.1 = oneof_unique node_kinds MemberSays Never (λ p q c d. absurd c)
    (λ m n run p q c d. kind_unique m (payloads n run) p q c d) fs x.1 y.1 a.1 b.1 in
    λ i. (id i, node i)

pub node_total : (parts : List (List ℕ)) → ((id : ℤ) × (node : Node) × IsNode parts id node) ⊎ ((e : Refusal) × NodeFault parts e)
node_total parts =
    elim (reads_total node_keys NodeSays (LacksMember node_kinds) (OneofFault node_kinds IsUnsupported MemberFails) numbered_total parts) [
      | inl (x, is) ↦ inl (x.0, x.1, is)
      | inr bad ↦ inr bad
    ]

pub node_disjoint : (parts : List (List ℕ)) (id : ℤ) (node : Node) (e : Refusal) → IsNode parts id node → NodeFault parts e → ⊥
node_disjoint parts id node e is bad =
    reads_disjoint node_keys NodeSays (LacksMember node_kinds) (OneofFault node_kinds IsUnsupported MemberFails) numbered_disjoint
    parts (id, node) e is bad

pub node_unique : (parts : List (List ℕ)) (x y : ℤ × Node) → IsNode parts x.0 x.1 → IsNode parts y.0 y.1 → x ≡ y
node_unique parts x y a b = reads_unique node_keys NodeSays numbered_unique parts x y a b
