-- The outcome of a policy file, and of a request head under it.
use Rattle.std.specs.Prelude.{◌≡◌, ⊤, true, false, ℕ, Bool, IfSome, List, Option, codes, option_and_then, slice_get}
use Rattle.std.specs.FinMap.{keys, len}
use Rattle.attributes.specs.Conn.{Facts, only_scheme}
use Rattle.attributes.specs.Limits.{largest}
use Rattle.attributes.specs.Request.{RequestValue}
use Rattle.cel_tree.specs.Checked.{CelChecked}
use Rattle.http_front.specs.declared.fault.HeadFault.{HeadFault}
use Rattle.http_front.specs.declared.fault.HeadFault.TheVariants.{Unfinished}
use Rattle.http_front.specs.Asks.{HasFault, HeadAsks, IsUnfinished}
use Rattle.proto_wire.specs.Refusal.{MemoryOr}
use Rattle.proto_wire.specs.declared.refusal.Refusal.{Refusal}
use Rattle.cost_bound.specs.declared.budget.Budget.{Budget}
use Rattle.rbac_policy.specs.Admission.{Admissible, Admits, Fault}
use Rattle.rbac_policy.specs.Condition.{Program, is_met}
use Rattle.rbac_policy.specs.Enforced.{total_bound}
use Rattle.rbac_policy.specs.Filter.{Filter}
use Rattle.rbac_policy.specs.Verdict.{IsVerdict}
use Rattle.rbac_judge.specs.Explain.{Explains}
use Rattle.rbac_judge.specs.declared.explain.Explanation.{Explanation}
use Rattle.rbac_judge.specs.declared.outcome.Outcome.{Outcome}
use Rattle.rbac_judge.specs.declared.outcome.Outcome.TheVariants as outcomes

-- a connection of which only the scheme `http` is known
abbrev pub plain_facts : Facts
plain_facts = only_scheme (codes "http")

-- the bytes are all bytes of the input, if these are known
abbrev pub IsAllOf : Option (List ℕ) → List ℕ → Type 0
IsAllOf input bytes = IfSome input (λ all. bytes ≡ all)

-- the policy is admitted as a filter. The bytes begin with a head whose request, on a connection with these facts, has
-- this verdict. The name is that of the policy that matched, and the explanation is that of the request
pub record IsDecided (policy : List ℕ) (budget : Budget) (facts : Facts) (bytes : List ℕ)
    (name : Option (List ℕ)) (explanation : Explanation) (allowed : Bool) (matched : Option ℕ)
    : Type 0 where
  pub filter : Filter CelChecked
  pub enforced : Filter Program
  pub admitted : Admits policy largest budget filter enforced
  pub request : RequestValue
  pub asks : HeadAsks bytes largest facts request
  pub verdict : IsVerdict (is_met request) request filter allowed matched
  pub named : name ≡ option_and_then (slice_get (keys enforced.policies)) matched
  pub explained : Explains request filter explanation

-- the bytes are all that arrive on a connection with these facts, and ask for no request, because of this fault
pub data InputFault (facts : Facts) (bytes : List ℕ) (fault : HeadFault) : Type 0 where
  present : HasFault bytes largest facts fault → InputFault facts bytes fault
  unfinished : IsUnfinished bytes → fault ≡ Unfinished → InputFault facts bytes fault

-- the policy is refused for this reason: it has the fault, or memory ran out
abbrev pub IsRefusedFor : List ℕ → Budget → Refusal → Type 0
IsRefusedFor policy budget = MemoryOr (λ e. Fault e policy largest budget)

-- the outcome is that of checking the policy alone
abbrev pub IsCheckOf : List ℕ → Budget → Outcome → Type 0
IsCheckOf policy budget (outcomes.Admitted policies bound) =
    (filter : Filter CelChecked) × (enforced : Filter Program)
    × Admits policy largest budget filter enforced
    × (policies ≡ len enforced.policies) × (bound ≡ total_bound enforced)
IsCheckOf policy budget (outcomes.Refused reason) = IsRefusedFor policy budget reason
IsCheckOf policy budget outcomes.Memory = ⊤
IsCheckOf policy budget _ = ⊥

-- the outcome is that of the policy, the facts and the bytes, with the name of the policy that matched and the
-- explanation. No condition exceeds its steps, since the request is within the limits
abbrev pub IsOutcomeOf : List ℕ → Budget → Facts → List ℕ → Option (List ℕ) → Explanation → Outcome
    → Type 0
IsOutcomeOf policy budget facts bytes name explanation (outcomes.Allowed matched) =
    IsDecided policy budget facts bytes name explanation true matched
IsOutcomeOf policy budget facts bytes name explanation (outcomes.Denied matched) =
    IsDecided policy budget facts bytes name explanation false matched
IsOutcomeOf policy budget facts bytes name explanation (outcomes.Refused reason) = IsRefusedFor policy budget reason
IsOutcomeOf policy budget facts bytes name explanation (outcomes.Fault fault) =
    Admissible policy largest budget × InputFault facts bytes fault
IsOutcomeOf policy budget facts bytes name explanation outcomes.Memory = ⊤
IsOutcomeOf policy budget facts bytes name explanation outcomes.OutOfSteps = ⊥
IsOutcomeOf policy budget facts bytes name explanation (outcomes.Admitted policies bound) = ⊥

-- the outcome is a verdict
abbrev pub IsDecision : Outcome → Type 0
IsDecision (outcomes.Allowed matched) = ⊤
IsDecision (outcomes.Denied matched) = ⊤
IsDecision _ = ⊥
