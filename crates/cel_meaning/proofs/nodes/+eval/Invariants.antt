use Rattle.std.proofs.Common.{◌≡◌, ◌+◌, drop, map}
use Rattle.cel_tree.specs.private.TreeViews.{loop_view, tree_entries_view, trees_view}
use Rattle.cel_meaning.specs.Origin.{placed_each, placed_entries}
use Rattle.cel_meaning.specs.Places.{placed_view}
use Rattle.cel_meaning.specs.Steps.{steps_each, steps_entries}
use Rattle.cel_meaning.specs.private.Counting.{turns_steps}
use Rattle.cel_meaning.specs.private.Plain.{around_view, behind, turn_view, turns}
use Rattle.cel_meaning.proofs.nodes.+eval.Given as goal

-- the answers so far, with those of the trees that are left, are all; and so are the steps
abbrev pub invariant-eval_each-loop-tree : goal.invariant-eval_each-loop-tree
invariant-eval_each-loop-tree l =
    (placed_each l.around.request.now (around_view l.around) (trees_view l.trees)
    ≡ behind (map placed_view l.answers.items)
    (placed_each l.around.request.now (around_view l.around) (trees_view (drop l.tree-index l.trees))))
    × (l.initial.left + steps_each l.around.request.now (around_view l.around) (trees_view (drop l.tree-index l.trees))
    ≡ steps_each l.around.request.now (around_view l.around) (trees_view l.trees) + l.left)

-- likewise
abbrev pub invariant-eval_entries-loop-entry : goal.invariant-eval_entries-loop-entry
invariant-eval_entries-loop-entry l =
    (placed_entries l.around.request.now (around_view l.around) (tree_entries_view l.entries)
    ≡ behind (map placed_view l.answers.items)
    (placed_entries l.around.request.now (around_view l.around) (tree_entries_view (drop l.entry-index l.entries))))
    × (l.initial.left
    + steps_entries l.around.request.now (around_view l.around) (tree_entries_view (drop l.entry-index l.entries))
    ≡ steps_entries l.around.request.now (around_view l.around) (tree_entries_view l.entries) + l.left)

-- what is left to be walked evaluates to what the whole does, and takes the steps that are left of the whole's
abbrev pub invariant-eval_turns-loop-number : goal.invariant-eval_turns-loop-number
invariant-eval_turns-loop-number l =
    (turns (loop_view l.parts) l.around.request.now (around_view l.around) 0 (map turn_view l.each)
    (placed_view l.initial.gathered)
    ≡ turns (loop_view l.parts) l.around.request.now (around_view l.around) l.number
    (map turn_view (drop l.number l.each)) (placed_view l.gathered))
    × (l.initial.left
    + turns_steps (loop_view l.parts) l.around.request.now (around_view l.around) l.number
    (map turn_view (drop l.number l.each)) (placed_view l.gathered)
    ≡ turns_steps (loop_view l.parts) l.around.request.now (around_view l.around) 0 (map turn_view l.each)
    (placed_view l.initial.gathered) + l.left)
