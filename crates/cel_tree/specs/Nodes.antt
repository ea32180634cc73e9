-- Messages of single nodes; the messages of the expressions inside are not read:
-- `google/api/expr/v1alpha1/syntax.proto`, Expr and the messages inside it.
use Rattle.std.specs.Prelude.{◌≡◌, ◌≢◌, ◌⊎◌, ℕ, ℤ, Bool, true, false, List, [], ◌∷◌, ◌++◌, map, Option, Some, None, Contains}
use Rattle.std.specs.List.{AllByRecursion, AllZip}
use Rattle.std.specs.Map.{keys_of}
use Rattle.std.specs.Str.{IsUtf8}
use Rattle.proto_wire.specs.Fields.{Wire}
use Rattle.proto_wire.specs.Keys.{len_key, varint_key}
use Rattle.proto_wire.specs.Merge.{Merges, SomeOf}
use Rattle.proto_wire.specs.Oneof.{member_run, last_number}
use Rattle.proto_wire.specs.Values.{bool_at, int64_at, bytes_at, payloads, has_field, StringFault}
use Rattle.proto_wire.specs.declared.key.Key.{Key}
use Rattle.proto_wire.specs.declared.refusal.Refusal.{Refusal}
use Rattle.proto_wire.specs.declared.refusal.Refusal.TheVariants.{Unsupported}
use Rattle.cel_value.specs.Texts.{points_of}
use Rattle.cel_value.specs.Values.{CelValue}
use Rattle.cel_tree.specs.Constants.{IsConstant, ConstantFault}
use Rattle.proto_wire.specs.Reading.{Reads, ReadFault, Never, OneofSays, LacksMember, IsUnsupported, OneofFault, IsPart, IsElement, StandsIn}
use Rattle.cel_tree.specs.declared.kinds.NodeKind.{NodeKind}
use Rattle.cel_tree.specs.declared.kinds.NodeKind.TheVariants as kinds

-- the payloads of a message, which may have several
abbrev pub Parts : Type 0
Parts = List (List ℕ)

-- ---- the contents of a node, without its id

-- an entry of a map literal: its id, and the parts of its key and of its value
pub record EntryNode : Type 0 where
  pub id : ℤ
  pub key : Parts
  pub value : Parts

-- the names of a comprehension, and the parts of its expressions; iter_var2 is empty if there is one
-- variable
pub record LoopNode : Type 0 where
  pub iter_var : List ℕ
  pub iter_var2 : List ℕ
  pub accu_var : List ℕ
  pub iter_range : Parts
  pub accu_init : Parts
  pub loop_condition : Parts
  pub loop_step : Parts
  pub result : Parts

-- a node; a call without a target has no parts of it
pub data Node : Type 0 where
  constant_node : CelValue → Node
  ident_node : (name : List ℕ) → Node
  select_node : (operand : Parts) (field : List ℕ) (test_only : Bool) → Node
  call_node : (function : List ℕ) (target : Parts) (args : List (List ℕ)) → Node
  list_node : (elements : List (List ℕ)) → Node
  map_node : (entries : List EntryNode) → Node
  loop_node : LoopNode → Node

-- messages that have one payload each
abbrev pub singles : List (List ℕ) → List Parts
singles payloads = map (λ p. p ∷ []) payloads

-- the message with these parts; none if there are no parts
abbrev pub if_there : Parts → List Parts
if_there [] = []
if_there (part ∷ parts) = (part ∷ parts) ∷ []

-- the keys and values of entries
abbrev pub entry_children : List EntryNode → List Parts
entry_children [] = []
entry_children (e ∷ es) = e.key ∷ e.value ∷ entry_children es

-- the expressions of a comprehension
abbrev pub loop_children : LoopNode → List Parts
loop_children p = p.iter_range ∷ p.accu_init ∷ p.loop_condition ∷ p.loop_step ∷ p.result ∷ []

-- the expressions inside a node, in order
abbrev pub children : Node → List Parts
children (constant_node v) = []
children (ident_node name) = []
children (select_node operand field test_only) = operand ∷ []
children (call_node function target args) = if_there target ++ singles args
children (list_node elements) = singles elements
children (map_node entries) = entry_children entries
children (loop_node p) = loop_children p

-- ---- Ident

-- the field of an Ident
abbrev pub ident_field : record { name : ℕ }
ident_field = record { name = 1 }

-- the keys of all fields of an Ident
abbrev pub ident_keys : List Key
ident_keys = len_key ident_field.name ∷ []

-- the fields mean the node
abbrev pub IdentSays : List Wire → Node → Type 0
IdentSays fs node = IsUtf8 (bytes_at ident_field.name fs)
    × (node ≡ ident_node (points_of (bytes_at ident_field.name fs)))

-- ---- Select

-- the fields of a Select
abbrev pub select_field : record { operand : ℕ; field : ℕ; test_only : ℕ }
select_field = record { operand = 1; field = 2; test_only = 3 }

-- the keys of all fields of a Select
abbrev pub select_keys : List Key
select_keys = len_key select_field.operand ∷ len_key select_field.field
    ∷ varint_key select_field.test_only ∷ []

-- the fields mean the node
abbrev pub SelectSays : List Wire → Node → Type 0
SelectSays fs node = IsUtf8 (bytes_at select_field.field fs)
    × (payloads select_field.operand fs ≢ [])
    × (node ≡ select_node (payloads select_field.operand fs)
    (points_of (bytes_at select_field.field fs)) (bool_at select_field.test_only fs))

-- the operand is absent; this is a fault only if the field's name is UTF-8
abbrev pub SelectLacks : List Wire → Type 0
SelectLacks fs = IsUtf8 (bytes_at select_field.field fs) × (payloads select_field.operand fs ≡ [])

-- ---- Call

-- the fields of a Call
abbrev pub call_field : record { target : ℕ; function : ℕ; args : ℕ }
call_field = record { target = 1; function = 2; args = 3 }

-- the keys of all fields of a Call
abbrev pub call_keys : List Key
call_keys = len_key call_field.target ∷ len_key call_field.function ∷ len_key call_field.args ∷ []

-- the fields mean the node
abbrev pub CallSays : List Wire → Node → Type 0
CallSays fs node = IsUtf8 (bytes_at call_field.function fs)
    × (node ≡ call_node (points_of (bytes_at call_field.function fs))
    (payloads call_field.target fs) (payloads call_field.args fs))

-- ---- CreateList

-- the fields of a CreateList; optional_indices, packed or not, are not supported
abbrev pub list_field : record { elements : ℕ; optional_indices : ℕ }
list_field = record { elements = 1; optional_indices = 2 }

-- the keys of all fields of a CreateList
abbrev pub list_keys : List Key
list_keys = len_key list_field.elements ∷ len_key list_field.optional_indices
    ∷ varint_key list_field.optional_indices ∷ []

-- the fields mean the node
abbrev pub ListSays : List Wire → Node → Type 0
ListSays fs node = (has_field list_field.optional_indices fs ≡ false)
    × (node ≡ list_node (payloads list_field.elements fs))

-- there are optional_indices
abbrev pub ListWrong : List Wire → Refusal → Type 0
ListWrong fs e = (has_field list_field.optional_indices fs ≡ true) × (e ≡ Unsupported)

-- ---- CreateStruct.Entry

-- the fields of an Entry; a field_key, and an optional_entry that is true, are not supported
abbrev pub entry_field : record { id : ℕ; field_key : ℕ; map_key : ℕ; value : ℕ; optional_entry : ℕ }
entry_field = record { id = 1; field_key = 2; map_key = 3; value = 4; optional_entry = 5 }

-- the members of the oneof
abbrev pub key_members : List Key
key_members = len_key entry_field.field_key ∷ len_key entry_field.map_key ∷ []

-- the keys of all fields of an Entry of a CreateStruct
abbrev pub entry_keys : List Key
entry_keys = varint_key entry_field.id ∷ len_key entry_field.field_key
    ∷ len_key entry_field.map_key ∷ len_key entry_field.value
    ∷ varint_key entry_field.optional_entry ∷ []

-- the fields mean the entry
pub record EntrySays (fs : List Wire) (entry : EntryNode) : Type 0 where
  pub plain : bool_at entry_field.optional_entry fs ≡ false
  pub keyed : last_number key_members fs ≡ Some entry_field.map_key
  pub there : payloads entry_field.value fs ≢ []
  pub id : entry.id ≡ int64_at entry_field.id fs
  pub key : entry.key ≡ payloads entry_field.map_key (member_run key_members fs)
  pub value : entry.value ≡ payloads entry_field.value fs

-- the key or the value is absent
abbrev pub EntryLacks : List Wire → Type 0
EntryLacks fs = (last_number key_members fs ≡ None) ⊎ (payloads entry_field.value fs ≡ [])

-- the entry is optional, or has a field_key
pub data EntryWrong (fs : List Wire) (e : Refusal) : Type 0 where
  optional : bool_at entry_field.optional_entry fs ≡ true → e ≡ Unsupported → EntryWrong fs e
  key_of_message : (n : ℕ) → last_number key_members fs ≡ Some n → n ≢ entry_field.map_key
      → e ≡ Unsupported → EntryWrong fs e

-- the payload is an entry
abbrev pub IsMapEntry : List ℕ → EntryNode → Type 0
IsMapEntry payload entry = Reads entry_keys EntrySays (payload ∷ []) entry

-- a fault of an entry's payload
abbrev pub MapEntryFault : List ℕ → Refusal → Type 0
MapEntryFault payload e = ReadFault entry_keys EntryLacks EntryWrong (payload ∷ []) e

-- ---- CreateStruct

-- the fields of a CreateStruct; a message_name that is not empty is not supported
abbrev pub struct_field : record { message_name : ℕ; entries : ℕ }
struct_field = record { message_name = 1; entries = 2 }

-- the keys of all fields of a CreateStruct
abbrev pub struct_keys : List Key
struct_keys = len_key struct_field.message_name ∷ len_key struct_field.entries ∷ []

-- the fields mean the node
abbrev pub StructSays : List Wire → Node → Type 0
StructSays fs node = (bytes_at struct_field.message_name fs ≡ [])
    × (entries : List EntryNode) × AllZip IsMapEntry (payloads struct_field.entries fs) entries
    × (node ≡ map_node entries)

-- a fault of the fields: a message_name that is not empty, or a fault of an entry
pub data StructWrong (fs : List Wire) (e : Refusal) : Type 0 where
  bad_name : StringFault struct_field.message_name fs e → StructWrong fs e
  of_message : bytes_at struct_field.message_name fs ≢ [] → e ≡ Unsupported → StructWrong fs e
  in_entry : (payload : List ℕ) → Contains (payloads struct_field.entries fs) payload
      → MapEntryFault payload e → StructWrong fs e

-- ---- Comprehension

-- the fields of a Comprehension
abbrev pub loop_field : record { iter_var : ℕ; iter_range : ℕ; accu_var : ℕ; accu_init : ℕ; loop_condition : ℕ; loop_step : ℕ; result : ℕ; iter_var2 : ℕ }
loop_field = record { iter_var = 1; iter_range = 2; accu_var = 3; accu_init = 4; loop_condition = 5; loop_step = 6; result = 7; iter_var2 = 8 }

-- its names
abbrev pub loop_names : List ℕ
loop_names = loop_field.iter_var ∷ loop_field.accu_var ∷ loop_field.iter_var2 ∷ []

-- its expressions
abbrev pub loop_parts : List ℕ
loop_parts = loop_field.iter_range ∷ loop_field.accu_init ∷ loop_field.loop_condition
    ∷ loop_field.loop_step ∷ loop_field.result ∷ []

-- the keys of all fields of a Comprehension
abbrev pub loop_keys : List Key
loop_keys = map len_key (loop_names ++ loop_parts)

-- the names are UTF-8
abbrev pub NamesRead : List Wire → Type 0
NamesRead fs = AllByRecursion (λ n. IsUtf8 (bytes_at n fs)) loop_names

-- each expression is present
abbrev pub PartsThere : List Wire → Type 0
PartsThere fs = AllByRecursion (λ n. payloads n fs ≢ []) loop_parts

-- the names and parts in the fields
abbrev pub loop_at : List Wire → LoopNode
loop_at fs = record {
  iter_var = points_of (bytes_at loop_field.iter_var fs);
  iter_var2 = points_of (bytes_at loop_field.iter_var2 fs);
  accu_var = points_of (bytes_at loop_field.accu_var fs);
  iter_range = payloads loop_field.iter_range fs;
  accu_init = payloads loop_field.accu_init fs;
  loop_condition = payloads loop_field.loop_condition fs;
  loop_step = payloads loop_field.loop_step fs;
  result = payloads loop_field.result fs;
}

-- the fields mean the node
abbrev pub LoopSays : List Wire → Node → Type 0
LoopSays fs node = NamesRead fs × PartsThere fs × (node ≡ loop_node (loop_at fs))

-- some expression is absent; this is a fault only if all names are UTF-8
abbrev pub LoopLacks : List Wire → Type 0
LoopLacks fs = NamesRead fs × SomeOf (λ n. payloads n fs ≡ []) loop_parts

-- a name is not UTF-8
abbrev pub LoopWrong : List Wire → Refusal → Type 0
LoopWrong fs e = SomeOf (λ n. StringFault n fs e) loop_names

-- ---- Expr

-- the fields of an Expr
abbrev pub node_field : record { id : ℕ; const_expr : ℕ; ident_expr : ℕ; select_expr : ℕ; call_expr : ℕ; list_expr : ℕ; struct_expr : ℕ; comprehension_expr : ℕ }
node_field = record { id = 2; const_expr = 3; ident_expr = 4; select_expr = 5; call_expr = 6; list_expr = 7; struct_expr = 8; comprehension_expr = 9 }

-- the members of the oneof
abbrev pub node_kinds : List (Key × Option NodeKind)
node_kinds = (len_key node_field.const_expr, Some kinds.Constant)
    ∷ (len_key node_field.ident_expr, Some kinds.Ident)
    ∷ (len_key node_field.select_expr, Some kinds.Select)
    ∷ (len_key node_field.call_expr, Some kinds.Call)
    ∷ (len_key node_field.list_expr, Some kinds.List)
    ∷ (len_key node_field.struct_expr, Some kinds.Struct)
    ∷ (len_key node_field.comprehension_expr, Some kinds.Comprehension) ∷ []

-- the keys of the oneof's members
abbrev pub kind_keys : List Key
kind_keys = keys_of node_kinds

-- the keys of all fields of an Expr
abbrev pub node_keys : List Key
node_keys = varint_key node_field.id ∷ kind_keys

-- the parts merge to a message of this kind, which means the node
abbrev pub KindSays : NodeKind → Parts → Node → Type 0
KindSays kinds.Constant parts node =
    (v : CelValue) × IsConstant parts v × (node ≡ constant_node v)
KindSays kinds.Ident parts node = Reads ident_keys IdentSays parts node
KindSays kinds.Select parts node = Reads select_keys SelectSays parts node
KindSays kinds.Call parts node = Reads call_keys CallSays parts node
KindSays kinds.List parts node = Reads list_keys ListSays parts node
KindSays kinds.Struct parts node = Reads struct_keys StructSays parts node
KindSays kinds.Comprehension parts node = Reads loop_keys LoopSays parts node

-- a fault of the message of this kind
abbrev pub KindFault : NodeKind → Parts → Refusal → Type 0
KindFault kinds.Constant parts e = ConstantFault parts e
KindFault kinds.Ident parts e = ReadFault ident_keys Never (StringFault ident_field.name) parts e
KindFault kinds.Select parts e =
    ReadFault select_keys SelectLacks (StringFault select_field.field) parts e
KindFault kinds.Call parts e = ReadFault call_keys Never (StringFault call_field.function) parts e
KindFault kinds.List parts e = ReadFault list_keys Never ListWrong parts e
KindFault kinds.Struct parts e = ReadFault struct_keys Never StructWrong parts e
KindFault kinds.Comprehension parts e = ReadFault loop_keys LoopLacks LoopWrong parts e

-- the run of the member means the node
abbrev pub MemberSays : NodeKind → ℕ → List Wire → Node → Type 0
MemberSays kind n run node = KindSays kind (payloads n run) node

-- a fault of the member's run
abbrev pub MemberFails : NodeKind → ℕ → List Wire → Refusal → Type 0
MemberFails kind n run e = KindFault kind (payloads n run) e

-- the fields mean the id and the node
abbrev pub NodeSays : List Wire → ℤ × Node → Type 0
NodeSays fs x = (x.0 ≡ int64_at node_field.id fs) × OneofSays node_kinds Never MemberSays fs x.1

-- the parts merge to an Expr with this id and node; the expressions inside may be anything
abbrev pub IsNode : Parts → ℤ → Node → Type 0
IsNode parts id node = Reads node_keys NodeSays parts (id, node)

-- a fault of an Expr's own message
abbrev pub NodeFault : Parts → Refusal → Type 0
NodeFault = ReadFault node_keys (LacksMember node_kinds)
    (OneofFault node_kinds IsUnsupported MemberFails)

-- ---- the expressions inside a node's message, even if the message has other faults

-- the child is the key or the value in an Entry's fields
abbrev pub InEntry : List Wire → Parts → Type 0
InEntry fs child = ((last_number key_members fs ≡ Some entry_field.map_key)
    × (child ≡ payloads entry_field.map_key (member_run key_members fs)))
    ⊎ IsPart entry_field.value fs child

-- the child is an expression in the fields of a member's message
abbrev pub InKind : NodeKind → List Wire → Parts → Type 0
InKind kinds.Select fs child = IsPart select_field.operand fs child
InKind kinds.Call fs child = IsPart call_field.target fs child ⊎ IsElement call_field.args fs child
InKind kinds.List fs child = IsElement list_field.elements fs child
InKind kinds.Struct fs child = (entry : List ℕ) × (own : List Wire)
    × Contains (payloads struct_field.entries fs) entry × Merges (entry ∷ []) own
    × InEntry own child
InKind kinds.Comprehension fs child = SomeOf (λ n. IsPart n fs child) loop_parts
InKind _ fs child = ⊥

-- the child is an expression inside an Expr
abbrev pub IsChild : Parts → Parts → Type 0
IsChild = StandsIn node_kinds InKind
