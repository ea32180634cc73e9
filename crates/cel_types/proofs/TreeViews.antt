-- How trees of the code are seen.
use Rattle.std.proofs.Common.{ℤ, rules, ◌≡◌, Option}
use Rattle.std.specs.declared.alloc.Global.{Global}
use Rattle.std.specs.declared.boxed.Box.{Box}
use Rattle.std.specs.declared.vec.Vec.{Vec}
use Rattle.cel_tree.specs.Tree.{call, ident, map_literal}
use Rattle.cel_tree.specs.View.{loop_of as tree_loop, target_of, tree_view}
use Rattle.cel_tree.specs.private.TreeViews.{boxed_view, loop_view, tree_entries_view, trees_view}
use Rattle.cel_tree.specs.declared.tree.Comprehension.{Comprehension}
use Rattle.cel_tree.specs.declared.tree.Tree.{Tree, the_lemmas as tree_lemmas}
use Rattle.cel_tree.specs.declared.tree.Tree as trees
use Rattle.cel_tree.specs.declared.tree.TreeEntry.{TreeEntry}
use Rattle.std.specs.declared.sync.ArcStr.{ArcStr}
use Rattle.cel_value.specs.Texts.{text_view}

pub tree_ident : (id : ℤ) (n : ArcStr Global) → tree_view (trees.Ident id n) ≡ ident id (text_view n)
tree_ident id n = search (rules, tree_lemmas)

pub tree_call : (id : ℤ) (f : ArcStr Global) (on : Option (Box Tree Global)) (ts : Vec Tree Global)
    → tree_view (trees.Call id f on ts)
    ≡ call id (text_view f) (target_of (boxed_view on)) (trees_view ts.items)
tree_call id f on ts = search (rules, tree_lemmas)

pub tree_map : (id : ℤ) (es : Vec TreeEntry Global)
    → tree_view (trees.Map id es) ≡ map_literal id (tree_entries_view es.items)
tree_map id es = search (rules, tree_lemmas)

pub tree_comprehension : (id : ℤ) (b : Box Comprehension Global)
    → tree_view (trees.Comprehension id b) ≡ tree_loop id (loop_view b.value)
tree_comprehension id b = search (rules, tree_lemmas)
