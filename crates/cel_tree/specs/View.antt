-- The trees, entries and constants that values of the code mean.
use Rattle.std.specs.Prelude.{ℕ, ℤ, List, [], ◌∷◌, Option, Some, None, map, option_map}
use Rattle.std.specs.Arc.{arc_slice_items}
use Rattle.std.specs.FinMap.{FinMap, from_entries}
use Rattle.std.specs.Ordering.{int_cmp}
use Rattle.std.specs.declared.alloc.Global.{Global}
use Rattle.std.specs.declared.sync.ArcStr.{ArcStr}
use Rattle.cel_value.specs.Texts.{text_view}
use Rattle.cel_value.specs.Types.{type_view}
use Rattle.cel_value.specs.Values.{CelValue, bool, int, uint, text, bytes}
use Rattle.cel_tree.specs.Tree.{CelTree, constant, ident, select, call, list_literal, map_literal, comprehension, CelTarget, no_target, target, CelTrees, no_trees, tree, CelTreeEntries, no_tree_entries, tree_entry}
use Rattle.cel_tree.specs.Checked.{CelTypeEntry, of_type, dyn_type, unsupported_type, CelReference, CelChecked}
use Rattle.cel_tree.specs.declared.tree.Constant.{Constant}
use Rattle.cel_tree.specs.declared.tree.Constant.TheVariants as constants
use Rattle.cel_tree.specs.declared.tree.Tree.{Tree, fold-Tree}
use Rattle.cel_tree.specs.declared.tree.Tree.TheOpen.{Tree-F, TreeEntry-F, Comprehension-F}
use Rattle.cel_tree.specs.declared.checked.TypeEntry.{TypeEntry}
use Rattle.cel_tree.specs.declared.checked.TypeEntry.TheVariants as entries
use Rattle.cel_tree.specs.declared.checked.Reference.{Reference}
use Rattle.cel_tree.specs.declared.checked.TypeMap.{TypeMap}
use Rattle.cel_tree.specs.declared.checked.ReferenceMap.{ReferenceMap}
use Rattle.cel_tree.specs.declared.checked.Checked.{Checked}

-- ---- constants and entries

-- the value that a constant means
abbrev pub constant_view : Constant → CelValue
constant_view (constants.Bool b) = bool b
constant_view (constants.Int i) = int i
constant_view (constants.Uint n) = uint n
constant_view (constants.Text t) = text (text_view t)
constant_view (constants.Bytes bs) = bytes (arc_slice_items bs)

-- the entry that a `TypeEntry` means
abbrev pub type_entry_view : TypeEntry → CelTypeEntry
type_entry_view (entries.Type t) = of_type (type_view t)
type_entry_view entries.Dyn = dyn_type
type_entry_view entries.Unsupported = unsupported_type

-- a name; an empty one is not kept
abbrev pub name_view : Option (ArcStr Global) → List ℕ
name_view None = []
name_view (Some name) = text_view name

-- the entry that a `Reference` means
abbrev pub reference_view : Reference → CelReference
reference_view r = record {
  name = name_view r.name;
  value = option_map constant_view r.value;
}

-- ---- trees

-- an entry of a map literal
pub record EntryParts : Type 0 where
  pub id : ℤ
  pub key : CelTree
  pub value : CelTree

-- the names and parts of a comprehension
pub record LoopParts : Type 0 where
  pub iter_var : List ℕ
  pub iter_var2 : List ℕ
  pub accu_var : List ℕ
  pub iter_range : CelTree
  pub accu_init : CelTree
  pub loop_condition : CelTree
  pub loop_step : CelTree
  pub result : CelTree

-- trees in order
abbrev pub trees_of : List CelTree → CelTrees
trees_of [] = no_trees
trees_of (t ∷ ts) = tree t (trees_of ts)

-- entries in order
abbrev pub tree_entries_of : List EntryParts → CelTreeEntries
tree_entries_of [] = no_tree_entries
tree_entries_of (e ∷ es) = tree_entry e.id e.key e.value (tree_entries_of es)

-- an optional target
abbrev pub target_of : Option CelTree → CelTarget
target_of None = no_target
target_of (Some t) = target t

-- the comprehension of these parts
abbrev pub loop_of : ℤ → LoopParts → CelTree
loop_of id p = comprehension id p.iter_var p.iter_var2 p.accu_var p.iter_range p.accu_init p.loop_condition p.loop_step p.result

-- one level of a comprehension, whose inner trees are already translated
abbrev pub loop_level : Comprehension-F CelTree LoopParts EntryParts → LoopParts
loop_level c = record {
  iter_var = text_view c.iter_var;
  iter_var2 = text_view c.iter_var2;
  accu_var = text_view c.accu_var;
  iter_range = c.iter_range;
  accu_init = c.accu_init;
  loop_condition = c.loop_condition;
  loop_step = c.loop_step;
  result = c.result;
}

-- one level of an entry, whose inner trees are already translated
abbrev pub entry_level : TreeEntry-F CelTree LoopParts EntryParts → EntryParts
entry_level e = record { id = e.id; key = e.key; value = e.value }

-- one level of a tree, whose inner trees are already translated
abbrev pub tree_level : Tree-F CelTree LoopParts EntryParts → CelTree
tree_level (Tree-F.Constant id c) = constant id (constant_view c)
tree_level (Tree-F.Ident id n) = ident id (text_view n)
tree_level (Tree-F.Select id o f t) = select id o.value (text_view f) t
tree_level (Tree-F.Call id f t ts) = call id (text_view f) (target_of (option_map (λ b. b.value) t)) (trees_of ts.items)
tree_level (Tree-F.List id es) = list_literal id (trees_of es.items)
tree_level (Tree-F.Map id es) = map_literal id (tree_entries_of es.items)
tree_level (Tree-F.Comprehension id c) = loop_of id c.value

-- the tree that a `Tree` means
abbrev pub tree_view : Tree → CelTree
tree_view = fold-Tree CelTree LoopParts EntryParts tree_level loop_level entry_level

-- ---- checked expressions

-- the entries that a `TypeMap` means, by the ids of nodes
abbrev pub types_view : TypeMap → FinMap int_cmp CelTypeEntry
types_view m = from_entries (map (λ e. (e.0, type_entry_view e.1)) m.entries)

-- the entries that a `ReferenceMap` means, by the ids of nodes
abbrev pub references_view : ReferenceMap → FinMap int_cmp CelReference
references_view m = from_entries (map (λ e. (e.0, reference_view e.1)) m.entries)

-- the checked expression that a `Checked` means
abbrev pub checked_view : Checked → CelChecked
checked_view c = record {
  tree = tree_view c.tree;
  types = types_view c.types;
  refs = references_view c.refs;
}
