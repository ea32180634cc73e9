use Rattle.std.proofs.Common.{◌≡◌, ◌≤◌, None, Some, sym, arith, rules, to_z, of_z, w64, ◌∙◌}
use Rattle.cel_tree.specs.View.{tree_view}
use Rattle.cel_types.specs.Typing.{most_locals}
use Rattle.cel_check.specs.Places.{first_crowded}
use Rattle.cel_check.proofs.Crowded.{none_few}
use Rattle.cel_check.proofs.checker.locals.require_few_locals.Goals as goal

pub returns-in-None-clause-found : goal.returns-in-None-clause-found
returns-in-None-clause-found c =
    let none : first_crowded 0 (tree_view c.args.tree.now) ≡ None = sym c.crowded_node-found.ensures ∙ c.in-None.is in
    let few = none_few 0 (tree_view c.args.tree.now) none in
    omega (arith, few)

pub returns-in-Some-clause-fault : goal.returns-in-Some-clause-fault
returns-in-Some-clause-fault c =
    let some : first_crowded 0 (tree_view c.args.tree.now) ≡ Some c.number_of.result =
    rw c.number_of.ensures (sym c.crowded_node-found.ensures ∙ c.in-Some.is) in
    let same : to_z w64 (of_z w64 c.number_of.result) ≡ c.number_of.result = search rules in
    (c.fault_of_node.ensures.refusal, c.number_of.result, some, rw same at c.fault_of_node.ensures.place)
