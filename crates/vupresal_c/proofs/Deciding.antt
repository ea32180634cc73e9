-- What an admission and a decision give, from the contracts of the calls inside.
use Rattle.std.proofs.Common.{◌≡◌, ◌≢◌, ℕ, ℤ, Bool, List, Option, Some, None, Result, Ok, Err, IfOk, IfErr, refl}
use Rattle.cost_bound.specs.Budgets.{IsBudget}
use Rattle.attributes.specs.Limits.{InLimits, LimitsValue}
use Rattle.attributes.specs.Request.{RequestValue}
use Rattle.c_inputs.specs.Bounds.{limits_given}
use Rattle.c_inputs.specs.declared.bounds.Bounds.{Bounds}
use Rattle.c_inputs.specs.declared.facts.FactsInput.{FactsInput}
use Rattle.cel_tree.specs.Checked.{CelChecked}
use Rattle.http_front.specs.declared.fault.HeadFault.{HeadFault}
use Rattle.rbac_policy.specs.Admission.{Admits, IsAdmittedAs}
use Rattle.rbac_policy.specs.Admitted.{filter_view, limits_view}
use Rattle.rbac_policy.specs.Filter.{Filter}
use Rattle.rbac_policy.specs.declared.filter.Admitted.{Admitted}
use Rattle.rbac_policy.specs.declared.filter.Verdict.{Verdict}
use Rattle.stack_machine.specs.declared.error.RunError.{RunError}
use Rattle.vupresal_c.specs.Admission.{IsAdmission, budget_given}
use Rattle.vupresal_c.specs.Decisions.{Asking, FailsFor, IsAnswer, IsDecision, decision_of, decision_with, matched_in, refused}
use Rattle.vupresal_c.specs.Kept.{RequestFailsFor}
use Rattle.vupresal_c.specs.Statuses.{done, of_run, status_of}
use Rattle.vupresal_c.specs.declared.decision.Decision.{Decision}
use Rattle.vupresal_c.specs.declared.fault.Fault.{Fault}

-- what `admit` gives for the limits that are given is an admission
pub is_admission : (message : List ℕ) (bounds : Bounds) (steps : ℕ) (limits : LimitsValue) (a : Admitted)
    → limits_given bounds ≡ Some limits → IsBudget (budget_given bounds steps) → limits_view a ≡ limits
    → ((filter : Filter CelChecked) × Admits message limits (budget_given bounds steps) filter (filter_view a))
    → IsAdmission message bounds steps a
is_admission message bounds steps limits a given range same admits = (range, rw given (same, admits.0, admits.1))

-- a run that fails on a request within the limits is out of memory
pub run_fails : (Has : LimitsValue → HeadFault → Type 0) (IsOpen IsOut : Type 0) (facts : FactsInput) (a : Admitted)
    (r : RequestValue) (answer : Result Verdict RunError) (e : RunError)
    → answer ≡ Err e → InLimits r (limits_view a)
    → ((filter : Filter CelChecked) → IsAdmittedAs (limits_view a) filter (filter_view a)
    → InLimits r (limits_view a) → answer ≢ Err RunError.OutOfSteps)
    → FailsFor Has IsOpen IsOut facts a (of_run e)
run_fails Has IsOpen IsOut facts a r answer RunError.Memory is within never = refl
run_fails Has IsOpen IsOut facts a r answer RunError.OutOfSteps is within never = λ filter admitted. never filter admitted within is

-- the same on a request that was made before
pub made_run_fails : (a : Admitted) (r : RequestValue) (answer : Result Verdict RunError) (e : RunError)
    → answer ≡ Err e → InLimits r (limits_view a)
    → ((filter : Filter CelChecked) → IsAdmittedAs (limits_view a) filter (filter_view a)
    → InLimits r (limits_view a) → answer ≢ Err RunError.OutOfSteps)
    → RequestFailsFor a r (of_run e)
made_run_fails a r answer RunError.Memory is within never = refl
made_run_fails a r answer RunError.OutOfSteps is within never = λ filter admitted. never filter admitted within is

pub allowed_of : (allowed : Bool) (matched : Option ℕ) → (decision_with allowed matched).is_allowed ≡ allowed
allowed_of allowed (Some k) = refl
allowed_of allowed None = refl

matched_of : (allowed : Bool) (matched : Option ℕ) → matched_in (decision_with allowed matched) ≡ matched
matched_of allowed (Some k) = refl
matched_of allowed None = refl

-- the decision of an answer
pub decision_is : (Asks : Asking) (a : Admitted) (v : Verdict) → IsAnswer Asks a v → IsDecision Asks a (decision_of v)
decision_is Asks a v found =
    (found.0, found.1, rw (allowed_of v.allowed v.matched, matched_of v.allowed v.matched) found.2)

-- what C gets of an answer, if the status says that it is done
pub decided : (answer : Result Verdict Fault) (Asks : Asking) (a : Admitted) (status : ℤ) (d : Decision)
    → IfOk answer (λ v. (status ≡ done) × (d ≡ decision_of v))
    → IfErr answer (λ e. (status ≡ status_of e) × (status ≢ done) × (d ≡ refused))
    → IfOk answer (IsAnswer Asks a) → status ≡ done → IsDecision Asks a d
decided (Ok v) Asks a status d reported failed found is = rw reported.1 (decision_is Asks a v found)
decided (Err e) Asks a status d reported failed found is = absurd (failed.1 is)

-- why C gets no decision, if the status says so
pub no_decision : (answer : Result Verdict Fault) (Bad : Fault → Type 0) (status : ℤ) (d : Decision)
    → IfOk answer (λ v. (status ≡ done) × (d ≡ decision_of v))
    → IfErr answer (λ e. (status ≡ status_of e) × (status ≢ done) × (d ≡ refused))
    → IfErr answer Bad → status ≢ done → (e : Fault) × Bad e × (status ≡ status_of e)
no_decision (Ok v) Bad status d reported failed bad fails = absurd (fails reported.0)
no_decision (Err e) Bad status d reported failed bad fails = (e, bad, failed.0)

-- what C gets of this fault
pub reported : (answer : Result Verdict Fault) (e : Fault) (status : ℤ) (d : Decision)
    → IfErr answer (λ other. (status ≡ status_of other) × (status ≢ done) × (d ≡ refused))
    → answer ≡ Err e → status ≡ status_of e
reported (Ok v) e status d failed is = absurd cc
reported (Err other) e status d failed is = let same : other ≡ e = cc in rw (← same) failed.0
