-- Where in the messages of an expression a fault is: the node that has it, or the entry of a map.
use Rattle.std.specs.Prelude.{◌≡◌, ◌≢◌, ◌⊎◌, ◌<◌, ◌+◌, ℕ, zero, suc, ℤ, List, [], ◌∷◌, ◌++◌, Some}
use Rattle.std.specs.FinMap.{entries, find}
use Rattle.std.specs.Ordering.{int_cmp}
use Rattle.proto_wire.specs.Fields.{Broken, Fields, Wire}
use Rattle.proto_wire.specs.Maps.{Entry, Readable, SomeEntryFault, int64, map_of}
use Rattle.proto_wire.specs.Messages.{MessageFault, IsMessage}
use Rattle.proto_wire.specs.Places.{Path, BeginsWith, path_at}
use Rattle.proto_wire.specs.Values.{int64_at, payloads}
use Rattle.proto_wire.specs.declared.fault.WireError.{WireError}
use Rattle.proto_wire.specs.declared.refusal.Refusal.{Refusal}
use Rattle.proto_wire.specs.declared.refusal.Refusal.TheVariants.{Missing, TooLarge}
use Rattle.cel_tree.specs.Message.{checked_field, checked_keys, most_nodes, tree_depth, ExprParts, checked_parts, unchecked_parts}
use Rattle.cel_tree.specs.Nodes.{Parts, Node, IsNode, NodeFault, children, node_field}
use Rattle.cel_tree.specs.Places.{NamesEntry, NamesNode}
use Rattle.cel_tree.specs.References.{ReferenceFault}
use Rattle.cel_tree.specs.Tree.{CelTree}
use Rattle.cel_tree.specs.Trees.{IsTree, node_count}
use Rattle.cel_tree.specs.TypeEntries.{TypeEntryFault}

-- ---- nodes

-- the fields of a payload: all of them, or those before bytes that are no field
abbrev pub AreWhole : List ℕ → List Wire → Type 0
AreWhole bytes fs = Fields bytes fs ⊎ ((e : WireError) × Broken bytes fs e)

-- those of each payload, in order
abbrev pub AreWholeOf : Parts → List Wire → Type 0
AreWholeOf [] fs = fs ≡ []
AreWholeOf (part ∷ parts) fs =
    (own others : List Wire) × AreWhole part own × AreWholeOf parts others × (fs ≡ own ++ others)

-- the path names an expression by the id in its message. If a payload is no list of fields, those before the fault count
abbrev pub NamesExpr : Parts → Path → Type 0
NamesExpr parts path = (fs : List Wire) × AreWholeOf parts fs × NamesNode (int64_at node_field.id fs) path

-- a fault of an expression itself, which may have `depth` levels and `left` nodes. It is one level too deep or one node
-- too many, or its own message has a fault
pub data OwnFault (depth left : ℕ) (parts : Parts) (e : Refusal) : Type 0 where
  too_deep : depth ≡ 0 → e ≡ TooLarge → OwnFault depth left parts e
  too_many : left ≡ 0 → e ≡ TooLarge → OwnFault depth left parts e
  of_message : 0 < depth → NodeFault parts e → OwnFault depth left parts e

-- the first of the expressions that does not read has the fault at this path; `left` nodes may be read
abbrev pub FirstAt : (ℕ → Parts → Path → Refusal → Type 0) → ℕ → ℕ → List Parts → Path → Refusal → Type 0
FirstAt Below depth left [] path e = ⊥
FirstAt Below depth left (child ∷ children) path e = Below left child path e
    ⊎ ((t : CelTree) × (rest : ℕ) × IsTree depth child t × (rest + node_count t ≡ left)
    × FirstAt Below depth rest children path e)

-- the path names the expression, and the fault is its own; or this holds of the first expression inside that does not read
abbrev pub TreeFaultAt : ℕ → ℕ → Parts → Path → Refusal → Type 0
TreeFaultAt zero left parts path e = NamesExpr parts path × OwnFault zero left parts e
TreeFaultAt (suc depth) left parts path e = (NamesExpr parts path × OwnFault (suc depth) left parts e)
    ⊎ ((id : ℤ) × (node : Node) × (rest : ℕ) × IsNode parts id node × (rest + 1 ≡ left)
    × FirstAt (TreeFaultAt depth) depth rest (children node) path e)

-- the same of the first of these expressions that does not read
abbrev pub SomeFaultAt : ℕ → ℕ → List Parts → Path → Refusal → Type 0
SomeFaultAt depth left cs path e = FirstAt (TreeFaultAt depth) depth left cs path e

-- ---- maps

-- the path names an entry whose payloads have this fault as a value
abbrev pub ValueFaultAt : (List (List ℕ) → Refusal → Type 0) → List (Entry int64) → Path → Refusal → Type 0
ValueFaultAt ValueFault es path e = (id : ℤ) × (parts : List (List ℕ)) × (find int_cmp id es ≡ Some parts)
    × ValueFault parts e × NamesEntry id path

-- a fault of a map from ids: of a payload that is no entry, or of the entry that the path names
pub data MapFaultAt (ValueFault : List (List ℕ) → Refusal → Type 0) (parts : List (List ℕ)) (path : Path) (e : Refusal)
    : Type 0 where
  of_payload : SomeEntryFault int64 parts e → path ≡ path_at 0 → MapFaultAt ValueFault parts path e
  of_value : (read : List (Entry int64)) → Readable int64 parts read
      → ValueFaultAt ValueFault (entries (map_of int64 read)) path e → MapFaultAt ValueFault parts path e

-- ---- checked expressions

-- a fault in the fields of a CheckedExpr
pub data CheckedWrongAt (fs : List Wire) (path : Path) (e : Refusal) : Type 0 where
  no_expr : payloads checked_field.expr fs ≡ [] → e ≡ Missing → path ≡ path_at checked_field.expr
      → CheckedWrongAt fs path e
  in_expr : (inner : Path) → payloads checked_field.expr fs ≢ []
      → TreeFaultAt tree_depth most_nodes (payloads checked_field.expr fs) inner e
      → BeginsWith checked_field.expr 0 inner path → CheckedWrongAt fs path e
  in_types : (inner : Path) → MapFaultAt (TypeEntryFault tree_depth) (payloads checked_field.type_map fs) inner e
      → BeginsWith checked_field.type_map 0 inner path → CheckedWrongAt fs path e
  in_refs : (inner : Path) → MapFaultAt ReferenceFault (payloads checked_field.reference_map fs) inner e
      → BeginsWith checked_field.reference_map 0 inner path → CheckedWrongAt fs path e

-- a fault of the payloads of a checked expression
pub data CheckedFaultAt (parts : List (List ℕ)) (path : Path) (e : Refusal) : Type 0 where
  of_fields : MessageFault checked_keys parts e → path ≡ path_at 0 → CheckedFaultAt parts path e
  in_fields : (fs : List Wire) → IsMessage checked_keys parts fs → CheckedWrongAt fs path e
      → CheckedFaultAt parts path e

-- a fault of the payloads of an expression without entries
abbrev pub UncheckedFaultAt : List (List ℕ) → Path → Refusal → Type 0
UncheckedFaultAt parts path e = TreeFaultAt tree_depth most_nodes parts path e

-- a fault of the payloads of a condition
abbrev pub ExprFaultAt : ExprParts → Path → Refusal → Type 0
ExprFaultAt (checked_parts parts) path e = CheckedFaultAt parts path e
ExprFaultAt (unchecked_parts parts) path e = UncheckedFaultAt parts path e
