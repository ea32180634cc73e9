-- The meaning of lists, of optional trees, and of parts of trees in the code.
use Rattle.std.specs.Prelude.{List, Option, map, option_map}
use Rattle.std.specs.declared.alloc.Global.{Global}
use Rattle.std.specs.declared.boxed.Box.{Box}
use Rattle.cel_value.specs.Texts.{text_view}
use Rattle.cel_tree.specs.Tree.{CelTree, CelTreeEntries, CelTrees}
use Rattle.cel_tree.specs.View.{EntryParts, LoopParts, tree_entries_of, tree_view, trees_of}
use Rattle.cel_tree.specs.declared.tree.Tree.{Tree}
use Rattle.cel_tree.specs.declared.tree.TreeEntry.{TreeEntry}
use Rattle.cel_tree.specs.declared.tree.Comprehension.{Comprehension}

-- an optional tree in a box
abbrev pub boxed_view : Option (Box Tree Global) → Option CelTree
boxed_view t = option_map (λ b. tree_view b.value) t

-- trees in order
abbrev pub trees_view : List Tree → CelTrees
trees_view ts = trees_of (map tree_view ts)

-- an entry of a map literal
abbrev pub entry_view : TreeEntry → EntryParts
entry_view e = record { id = e.id; key = tree_view e.key; value = tree_view e.value }

-- entries of a map literal in order
abbrev pub tree_entries_view : List TreeEntry → CelTreeEntries
tree_entries_view es = tree_entries_of (map entry_view es)

-- the names and parts of a comprehension
abbrev pub loop_view : Comprehension → LoopParts
loop_view c = record {
  iter_var = text_view c.iter_var;
  iter_var2 = text_view c.iter_var2;
  accu_var = text_view c.accu_var;
  iter_range = tree_view c.iter_range;
  accu_init = tree_view c.accu_init;
  loop_condition = tree_view c.loop_condition;
  loop_step = tree_view c.loop_step;
  result = tree_view c.result;
}
