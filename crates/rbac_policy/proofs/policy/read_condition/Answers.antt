use Rattle.std.proofs.Common.{Some, Ok, Err, map}
use Rattle.proto_wire.specs.Fields.{field_view}
use Rattle.proto_wire.specs.Places.{FaultOr}
use Rattle.proto_wire.proofs.PlaceExits.{exit_memory_or, exit_with}
use Rattle.cel_tree.specs.Message.{ExprFault, ExprParts, ArePresent}
use Rattle.cel_tree.specs.View.{checked_view}
use Rattle.rbac_policy.specs.Message.{condition_in}
use Rattle.cost_bound.specs.Budgets.{Covers}
use Rattle.rbac_policy.specs.Budget.{OverInCondition}
use Rattle.rbac_policy.specs.Places.{ConditionPartOr}
use Rattle.rbac_policy.specs.private.Conditions.{ConditionFault, ExpressionFault, expression, unreadable}
use Rattle.rbac_policy.specs.Condition.{IsProgramOf}
use Rattle.rbac_policy.specs.Named.{program_view}
use Rattle.rbac_policy.proofs.Places.{expr_exit, node_out, of_expr_fault, of_expr_found}
use Rattle.rbac_policy.proofs.policy.read_condition.Goals as goal

pub condition_of-requires : goal.condition_of-requires
condition_of-requires c = (condition_in (map field_view c.args.fields.now), c.in_ok-checked.ensures.found)

pub returns-in_err-checked-clause-fault : goal.returns-in_err-checked-clause-fault
returns-in_err-checked-clause-fault c =
    let parts : ExprParts = condition_in (map field_view c.args.fields.now) in
    exit_memory_or (ExprFault parts) (λ e. ArePresent parts × ConditionFault parts c.args.limits.now c.args.left e)
    c.from_residual.result c.in_err-checked.field-0.0 c.from_residual.ensures.1 c.in_err-checked.ensures.fault
    (λ e bad. (c.if-not-has_condition.ensures, unreadable bad))

pub returns-in_err-checked-clause-place : goal.returns-in_err-checked-clause-place
returns-in_err-checked-clause-place c =
    let parts : ExprParts = condition_in (map field_view c.args.fields.now) in
    expr_exit (OverInCondition c.args.limits.now c.args.left parts) parts c.from_residual.result c.in_err-checked.field-0.0 c.from_residual.ensures.1
    c.if-not-has_condition.ensures c.in_err-checked.ensures.place

pub returns-in_err-condition-clause-fault : goal.returns-in_err-condition-clause-fault
returns-in_err-condition-clause-fault c =
    let parts : ExprParts = condition_in (map field_view c.args.fields.now) in
    let x = checked_view c.in_ok-checked.checked in
    exit_with (FaultOr (λ e. ArePresent parts × ConditionFault parts c.args.limits.now c.args.left e))
    c.from_residual-in_err-condition.result c.in_err-condition.field-0.0 c.from_residual-in_err-condition.ensures.1
    (of_expr_fault parts (ExpressionFault x c.args.limits.now c.args.left)
    (λ e. ArePresent parts × ConditionFault parts c.args.limits.now c.args.left e) c.condition_of.result
    (Err c.in_err-condition.field-0.0) c.in_err-condition.ensures c.condition_of.ensures.fault
    (λ e bad. (c.if-not-has_condition.ensures, expression x c.in_ok-checked.ensures.found bad)))

pub returns-in_err-condition-clause-place : goal.returns-in_err-condition-clause-place
returns-in_err-condition-clause-place c =
    let parts : ExprParts = condition_in (map field_view c.args.fields.now) in
    exit_with (ConditionPartOr (OverInCondition c.args.limits.now c.args.left parts) parts) c.from_residual-in_err-condition.result c.in_err-condition.field-0.0
    c.from_residual-in_err-condition.ensures.1
    (node_out c.args.limits.now c.args.left parts (checked_view c.in_ok-checked.checked) c.condition_of.result (Err c.in_err-condition.field-0.0)
    c.in_err-condition.ensures c.if-not-has_condition.ensures c.in_ok-checked.ensures.found c.condition_of.ensures.place)

pub returns-clause-found : goal.returns-clause-found
returns-clause-found c =
    let parts : ExprParts = condition_in (map field_view c.args.fields.now) in
    let x = checked_view c.in_ok-checked.checked in (
      Some x,
      (c.if-not-has_condition.ensures, c.in_ok-checked.ensures.found),
      of_expr_found parts (λ made. IsProgramOf c.args.limits.now x (program_view made)) c.condition_of.result
          (Ok c.in_ok-condition.condition) c.in_ok-condition.ensures c.condition_of.ensures.found,
    )

pub returns-clause-covered : goal.returns-clause-covered
returns-clause-covered c =
    of_expr_found (condition_in (map field_view c.args.fields.now)) (λ made. Covers c.args.left made.needs) c.condition_of.result
    (Ok c.in_ok-condition.condition) c.in_ok-condition.ensures c.condition_of.ensures.covered
