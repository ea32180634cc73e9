use Rattle.std.proofs.Common.{◌⊎◌, inl, inr, List}
use Rattle.proto_wire.specs.Maps.{Entry, text}
use Rattle.proto_wire.proofs.PlaceExits.{exit_memory_or, exit_with}
use Rattle.rbac_policy.specs.Admission.{Fault, in_message}
use Rattle.rbac_policy.specs.Budget.{OverAt}
use Rattle.rbac_policy.specs.Fault.{FilterFault, HoldsPolicies}
use Rattle.rbac_policy.specs.Places.{PlacedOr, of_filter}
use Rattle.rbac_policy.specs.private.Conditions.{ConditionsFault}
use Rattle.rbac_policy.proofs.Spending.{conditions_fail}
use Rattle.rbac_policy.proofs.admission.admit_at.Goals as goal

pub returns-in_err-rules-clause-fault : goal.returns-in_err-rules-clause-fault
returns-in_err-rules-clause-fault c =
    exit_memory_or (λ e. FilterFault c.args.bytes.now e ⊎ ((policies : List (Entry text)) × HoldsPolicies c.args.bytes.now policies
    × ConditionsFault policies c.args.limits.now c.args.left.now e))
    (λ e. Fault e c.args.bytes.now c.args.limits.now c.args.left.now)
    c.from_residual.result c.in_err-rules.field-0.0 c.from_residual.ensures.1 c.in_err-rules.ensures.fault
    (λ e bad. elim bad [
      | inl own ↦ in_message own
      | inr (policies, holds, cost) ↦ conditions_fail c.args.bytes.now c.args.limits.now c.args.left.now e policies holds cost
    ])

pub returns-clause-found : goal.returns-clause-found
returns-clause-found c = rw c.new.ensures.filter c.in_ok-rules.ensures.found

pub returns-in_err-rules-clause-place : goal.returns-in_err-rules-clause-place
returns-in_err-rules-clause-place c =
    exit_with (PlacedOr (OverAt c.args.bytes.now c.args.limits.now c.args.left.now c.read_filter.new.left) (of_filter c.args.bytes.now)) c.from_residual.result c.in_err-rules.field-0.0 c.from_residual.ensures.1
    c.in_err-rules.ensures.place
