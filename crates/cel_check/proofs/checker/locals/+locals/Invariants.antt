use Rattle.std.proofs.Common.{◌≡◌, drop}
use Rattle.cel_tree.specs.private.TreeViews.{tree_entries_view, trees_view}
use Rattle.cel_check.specs.Places.{first_crowded_each, first_crowded_entry}
use Rattle.cel_check.proofs.checker.locals.+locals.Given as goal

-- the first of those that are left is the first of all
abbrev pub invariant-crowded_in_each-loop-tree : goal.invariant-crowded_in_each-loop-tree
invariant-crowded_in_each-loop-tree l =
    first_crowded_each l.around (trees_view (drop l.tree-index l.trees)) ≡ first_crowded_each l.around (trees_view l.trees)

abbrev pub invariant-crowded_in_entries-loop-entry : goal.invariant-crowded_in_entries-loop-entry
invariant-crowded_in_entries-loop-entry l =
    first_crowded_entry l.around (tree_entries_view (drop l.entry-index l.entries))
    ≡ first_crowded_entry l.around (tree_entries_view l.entries)
