use Rattle.std.proofs.Common.{◌≡◌, ◌∙◌, sym, to_z, of_z, w64, rules}
use Rattle.cel_tree.specs.View.{checked_view}
use Rattle.cel_types.specs.TypingFaults.{CheckFault}
use Rattle.proto_wire.proofs.PlaceExits.{exit_memory_or, exit_with}
use Rattle.rbac_policy.specs.Budget.{OverIn}
use Rattle.rbac_policy.specs.Places.{NodeOr}
use Rattle.rbac_policy.specs.private.Conditions.{ExpressionFault, untyped}
use Rattle.rbac_policy.proofs.Places.{untyped_node}
use Rattle.rbac_policy.proofs.condition.condition_of.Goals as goal

pub enforced-requires : goal.enforced-requires
enforced-requires c =
    (c.requires.0, checked_view c.args.checked.now, c.requires.1, c.in_ok-typed.ensures.found)

pub returns-in_err-typed-clause-fault : goal.returns-in_err-typed-clause-fault
returns-in_err-typed-clause-fault c =
    exit_memory_or (CheckFault (checked_view c.args.checked.now))
    (ExpressionFault (checked_view c.args.checked.now) c.args.limits.now c.args.left)
    c.from_residual.result c.in_err-typed.field-0.0 c.from_residual.ensures.1 c.in_err-typed.ensures.fault
    (λ d bad. untyped bad)

pub returns-in_err-typed-clause-place : goal.returns-in_err-typed-clause-place
returns-in_err-typed-clause-place c =
    exit_with (NodeOr (OverIn c.args.limits.now c.args.left (checked_view c.args.checked.now)) (checked_view c.args.checked.now)) c.from_residual.result c.in_err-typed.field-0.0
    c.from_residual.ensures.1
    (untyped_node (OverIn c.args.limits.now c.args.left (checked_view c.args.checked.now)) (checked_view c.args.checked.now) c.in_err-typed.field-0.0 c.in_err-typed.ensures.place)

pub returns-clause-found : goal.returns-clause-found
returns-clause-found c =
    c.enforced.ensures.found (checked_view c.args.checked.now) c.in_ok-typed.ensures.found

pub returns-clause-fault : goal.returns-clause-fault
returns-clause-fault c =
    c.enforced.ensures.fault (checked_view c.args.checked.now) c.in_ok-typed.ensures.found

pub returns-clause-place : goal.returns-clause-place
returns-clause-place c =
    let same : to_z w64 (of_z w64 c.id_of.result) ≡ c.id_of.result = search rules in
    c.enforced.ensures.place (checked_view c.args.checked.now) c.in_ok-typed.ensures.found
    (sym (same ∙ c.id_of.ensures))
