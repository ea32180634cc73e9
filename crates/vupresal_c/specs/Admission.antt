-- Admission of a filter for C (this project's own): what is admitted, and why a message is not.
use Rattle.std.specs.Prelude.{◌≡◌, ◌⊎◌, ℕ, List, None, IsSomeAnd, ◌==◌, if◌then◌else◌}
use Rattle.attributes.specs.Limits.{LimitsValue}
use Rattle.c_inputs.specs.Bounds.{limits_given}
use Rattle.c_inputs.specs.declared.bounds.Bounds.{Bounds}
use Rattle.cel_tree.specs.Checked.{CelChecked}
use Rattle.cost_bound.specs.Budgets.{IsBudget}
use Rattle.cost_bound.specs.declared.budget.Budget.{Budget}
use Rattle.proto_wire.specs.Refusal.{MemoryOr}
use Rattle.rbac_policy.specs.Admission.{Admits, Fault as MessageFault}
use Rattle.rbac_policy.specs.Admitted.{filter_view, limits_view}
use Rattle.rbac_policy.specs.Filter.{Filter}
use Rattle.rbac_policy.specs.declared.filter.Admitted.{Admitted}
use Rattle.vupresal_c.specs.declared.admission.NotAdmitted.{NotAdmitted}
use Rattle.vupresal_c.specs.declared.admission.NotAdmitted.TheVariants as why
use Rattle.vupresal_c.specs.declared.fault.Fault.{Fault}
use Rattle.vupresal_c.specs.declared.fault.Fault.TheVariants.{Empty, OutOfRange, Refused, OutOfSteps, BadFacts, Unfinished, Head}

-- the budget of so many steps, with the visits of the bounds; 0 visits are the usual number
abbrev pub budget_given : Bounds → ℕ → Budget
budget_given bounds steps = record {
  steps = steps;
  visits = if bounds.visits == 0 then 4194304 else bounds.visits;
}

-- `P` holds of the limits that are given, and the budget is in its range
abbrev pub IsInRange : Bounds → ℕ → (LimitsValue → Type 0) → Type 0
IsInRange bounds steps P = IsBudget (budget_given bounds steps) × IsSomeAnd (limits_given bounds) P

-- the message was admitted for requests within the limits that are given, and within the budget
abbrev pub IsAdmission : List ℕ → Bounds → ℕ → Admitted → Type 0
IsAdmission message bounds steps a = IsInRange bounds steps (λ limits. (limits_view a ≡ limits)
    × (filter : Filter CelChecked) × Admits message limits (budget_given bounds steps) filter (filter_view a))

-- the message is not admitted, with this fault
abbrev pub AdmitFails : List ℕ → Bounds → ℕ → Fault → Type 0
AdmitFails message bounds steps OutOfRange = (limits_given bounds ≡ None) ⊎ (IsBudget (budget_given bounds steps) → ⊥)
AdmitFails message bounds steps (Refused refusal) =
    IsInRange bounds steps
    (λ limits. MemoryOr (λ e. MessageFault e message limits (budget_given bounds steps)) refusal)
AdmitFails message bounds steps Empty = ⊥
AdmitFails message bounds steps OutOfSteps = ⊥
AdmitFails message bounds steps BadFacts = ⊥
AdmitFails message bounds steps Unfinished = ⊥
AdmitFails message bounds steps (Head fault) = ⊥

-- the fault of a message, without its place
abbrev pub fault_in : NotAdmitted → Fault
fault_in why.OutOfRange = OutOfRange
fault_in (why.Refused placed) = Refused placed.refusal
