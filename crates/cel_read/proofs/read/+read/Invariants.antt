use Rattle.std.proofs.Common.{◌≡◌, ◌+◌, ◌*◌, take}
use Rattle.proto_wire.specs.Merge.{parts_view}
use Rattle.cel_tree.specs.Nodes.{singles}
use Rattle.cel_tree.specs.Trees.{IsTree, AreTrees, trees_count}
use Rattle.cel_tree.specs.private.TreeViews.{trees_view, tree_entries_view}
use Rattle.cel_read.specs.private.EntryViews.{entry_nodes_view}
use Rattle.cel_read.specs.private.Inside.{AreEntryTrees}
use Rattle.cel_read.proofs.read.+read.Given as goal

abbrev pub decreases-read_tree : goal.decreases-read_tree
decreases-read_tree l = 7 * l.depth

abbrev pub decreases-read_two : goal.decreases-read_two
decreases-read_two l = 7 * l.depth + 1

abbrev pub decreases-read_target : goal.decreases-read_target
decreases-read_target l = 7 * l.depth + 1

abbrev pub decreases-read_trees : goal.decreases-read_trees
decreases-read_trees l = 7 * l.depth + 1

abbrev pub decreases-read_entry_trees : goal.decreases-read_entry_trees
decreases-read_entry_trees l = 7 * l.depth + 2

abbrev pub decreases-read_loop_body : goal.decreases-read_loop_body
decreases-read_loop_body l = 7 * l.depth + 2

abbrev pub decreases-read_loop_trees : goal.decreases-read_loop_trees
decreases-read_loop_trees l = 7 * l.depth + 3

abbrev pub decreases-select_tree : goal.decreases-select_tree
decreases-select_tree l = 7 * l.depth + 2

abbrev pub decreases-call_tree : goal.decreases-call_tree
decreases-call_tree l = 7 * l.depth + 2

abbrev pub decreases-list_tree : goal.decreases-list_tree
decreases-list_tree l = 7 * l.depth + 2

abbrev pub decreases-map_tree : goal.decreases-map_tree
decreases-map_tree l = 7 * l.depth + 3

abbrev pub decreases-lent_loop_tree : goal.decreases-lent_loop_tree
decreases-lent_loop_tree l = 7 * l.depth + 4

abbrev pub decreases-loop_tree : goal.decreases-loop_tree
decreases-loop_tree l = 7 * l.depth + 5

abbrev pub decreases-read_inside : goal.decreases-read_inside
decreases-read_inside l = 7 * l.depth + 6

abbrev pub invariant-read_trees-loop-payload : goal.invariant-read_trees-loop-payload
invariant-read_trees-loop-payload l =
    AreTrees (IsTree l.depth) (singles (parts_view (take l.payload-index l.payloads))) (trees_view l.trees.items)
    × (l.left + trees_count (trees_view l.trees.items) ≡ l.initial.left)

abbrev pub invariant-read_entry_trees-loop-node : goal.invariant-read_entry_trees-loop-node
invariant-read_entry_trees-loop-node l =
    AreEntryTrees l.depth (entry_nodes_view (take l.node-index l.nodes)) (tree_entries_view l.entries.items) l.left l.initial.left
