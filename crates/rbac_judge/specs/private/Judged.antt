-- The outcome of one head under an admitted filter.
use Rattle.std.specs.Prelude.{◌≡◌, ⊤, Bool, true, false, ℕ, List, Option, None, IfNone, option_and_then, slice_get}
use Rattle.std.specs.FinMap.{keys}
use Rattle.attributes.specs.Conn.{Facts}
use Rattle.attributes.specs.Limits.{InLimits, largest}
use Rattle.attributes.specs.Request.{RequestValue}
use Rattle.cel_tree.specs.Checked.{CelChecked}
use Rattle.http_front.specs.Asks.{IfFault, IfJudge}
use Rattle.http_front.specs.declared.fault.HeadFault.TheVariants.{Unfinished}
use Rattle.http_front.specs.declared.read.HeadAsk.{HeadAsk}
use Rattle.cost_bound.specs.declared.budget.Budget.{Budget}
use Rattle.rbac_policy.specs.Admission.{Admits, IsAdmittedAs}
use Rattle.rbac_policy.specs.Condition.{Program, is_met}
use Rattle.rbac_policy.specs.Filter.{Filter}
use Rattle.rbac_policy.specs.Verdict.{IsVerdict}
use Rattle.rbac_judge.specs.Explain.{Explains}
use Rattle.rbac_judge.specs.Judging.{IsOutcomeOf}
use Rattle.rbac_judge.specs.declared.explain.Explanation.{Explanation}
use Rattle.rbac_judge.specs.declared.outcome.Outcome.{Outcome}
use Rattle.rbac_judge.specs.declared.outcome.Outcome.TheVariants as outcomes

-- the number of the policy that matched, if the outcome has one
abbrev pub matched_in : Outcome → Option ℕ
matched_in (outcomes.Allowed matched) = matched
matched_in (outcomes.Denied matched) = matched
matched_in _ = None

-- the name is that of the policy that matched
abbrev pub IsNameOf : Filter Program → Outcome → Option (List ℕ) → Type 0
IsNameOf enforced outcome name =
    name ≡ option_and_then (slice_get (keys enforced.policies)) (matched_in outcome)

-- the outcome is the filter's answer to the request
abbrev pub IsAnswerTo : Filter Program → RequestValue → Outcome → Type 0
IsAnswerTo enforced request (outcomes.Allowed matched) = (filter : Filter CelChecked)
    → IsAdmittedAs largest filter enforced → IsVerdict (is_met request) request filter true matched
IsAnswerTo enforced request (outcomes.Denied matched) = (filter : Filter CelChecked)
    → IsAdmittedAs largest filter enforced → IsVerdict (is_met request) request filter false matched
IsAnswerTo enforced request outcomes.OutOfSteps = (filter : Filter CelChecked)
    → IsAdmittedAs largest filter enforced → ¬ (InLimits request largest)
IsAnswerTo enforced request outcomes.Memory = ⊤
IsAnswerTo enforced request _ = ⊥

-- the outcome is that of what was found: a request, a fault, or no whole head
pub record IsOutcomeOfAsk (enforced : Filter Program) (found : Option HeadAsk) (outcome : Outcome)
    : Type 0 where
  pub judged : IfJudge found (λ request. IsAnswerTo enforced request outcome)
  pub fault : IfFault found (λ fault. outcome ≡ outcomes.Fault fault)
  pub none : IfNone found (outcome ≡ outcomes.Fault Unfinished)

-- the explanation is that of the filter's answer to a request that is not outside the limits
abbrev pub IsExplanationOf : Filter Program → RequestValue → Explanation → Type 0
IsExplanationOf enforced request explanation = (filter : Filter CelChecked)
    → IsAdmittedAs largest filter enforced → ¬ (¬ (InLimits request largest))
    → Explains request filter explanation

-- take any policy that is admitted as this filter. Its outcome and its explanation for the facts and the bytes are
-- these, with the name of the policy that matched
abbrev pub IsOutcomeUnder : Filter Program → Facts → List ℕ → Explanation → Outcome → Type 0
IsOutcomeUnder enforced facts bytes explanation outcome = (policy : List ℕ) (budget : Budget)
    (filter : Filter CelChecked) (name : Option (List ℕ))
    → Admits policy largest budget filter enforced → IsNameOf enforced outcome name
    → IsOutcomeOf policy budget facts bytes name explanation outcome
