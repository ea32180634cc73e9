use Rattle.std.proofs.Common.{map, take}
use Rattle.cel_tree.specs.View.{checked_view}
use Rattle.cel_tree.specs.private.TreeViews.{tree_entries_view, trees_view}
use Rattle.cel_types.specs.Elaborated.{ElaboratesPairs}
use Rattle.cel_types.specs.Typing.{maps_of}
use Rattle.cel_types.specs.Agreeing.{PairsAgree}
use Rattle.cel_types.specs.View.{expr_view}
use Rattle.cel_types.specs.private.ExprViews.{exprs_view}
use Rattle.cel_check.specs.private.Checks.{AreFound}
use Rattle.cel_check.specs.private.Scopes.{scope_view}
use Rattle.cel_check.proofs.checker.nodes.+check.Given as goal

-- the expressions so far are found
abbrev pub invariant-check_each-loop-tree : goal.invariant-check_each-loop-tree
invariant-check_each-loop-tree l =
    AreFound (maps_of (checked_view l.checked)) (scope_view l.scope)
    (trees_view (take l.tree-index l.trees)) (map expr_view l.initial.typed.items)
    (map expr_view l.typed.items)

-- the keys and values so far are
abbrev pub invariant-check_pairs-loop-entry : goal.invariant-check_pairs-loop-entry
invariant-check_pairs-loop-entry l =
    ElaboratesPairs (maps_of (checked_view l.checked)) (scope_view l.scope)
    (tree_entries_view (take l.entry-index l.entries)) (exprs_view l.pairs.items)
    × PairsAgree (maps_of (checked_view l.checked)) (scope_view l.scope)
    (tree_entries_view (take l.entry-index l.entries))
