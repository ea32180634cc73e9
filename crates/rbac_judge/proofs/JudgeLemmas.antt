-- From what is found under an admitted filter to what is found under its policy.
use Rattle.std.proofs.Common.{◌≡◌, ◌↔◌, ℕ, Bool, true, false, List, [], Option, Some, None, Result, Ok, Err, OnErr, refl, option_map, string_bytes}
use Rattle.std.specs.Prelude.{IfOk}
use Rattle.std.proofs.lemmas.Result.{IfOk-weaker}
use Rattle.attributes.specs.Conn.{Facts}
use Rattle.attributes.specs.Limits.{InLimits, largest}
use Rattle.attributes.specs.Request.{RequestValue}
use Rattle.cel_tree.specs.Checked.{CelChecked}
use Rattle.http_front.specs.Asks.{HeadAsks, IfJudge}
use Rattle.http_front.specs.declared.read.HeadAsk.{HeadAsk}
use Rattle.http_front.specs.declared.read.HeadAsk.TheVariants.{Judge, Fault}
use Rattle.cost_bound.specs.declared.budget.Budget.{Budget}
use Rattle.rbac_policy.specs.Admission.{Admits}
use Rattle.rbac_policy.specs.Condition.{Program}
use Rattle.rbac_policy.specs.Filter.{Filter}
use Rattle.rbac_judge.specs.Explain.{Explains, IsGiven}
use Rattle.rbac_judge.specs.Judging.{InputFault, IsAllOf, IsDecided, IsDecision, IsOutcomeOf}
use Rattle.rbac_judge.specs.Reports.{without_trials}
use Rattle.rbac_judge.specs.private.Judged.{IsAnswerTo, IsExplanationOf, IsNameOf, IsOutcomeOfAsk, IsOutcomeUnder}
use Rattle.rbac_judge.specs.Reports.{bare}
use Rattle.rbac_judge.specs.private.Reading.{IsFound}
use Rattle.rbac_judge.specs.declared.explain.Explanation.{Explanation}
use Rattle.rbac_judge.specs.declared.explain.Explanation.TheVariants as explanations
use Rattle.rbac_judge.specs.declared.judge.Finding.{Finding}
use Rattle.rbac_judge.specs.declared.outcome.Outcome.{Outcome}
use Rattle.rbac_judge.specs.declared.outcome.Outcome.TheVariants as outcomes

-- there are bytes that an input may give
pub some_bytes : (input : Option (List ℕ)) → (bytes : List ℕ) × IsAllOf input bytes
some_bytes (Some all) = (all, refl)
some_bytes None = ([], tt)

-- what explains a request does where less is reported
less_explains : (r : RequestValue) (filter : Filter CelChecked) (explanation : Explanation)
    → Explains r filter explanation → Explains r filter (without_trials explanation)
less_explains r filter explanations.Absent explains = tt
less_explains r filter (explanations.Trials trials) explains = refl
less_explains r filter (explanations.Unavailable cause) explains = explains

module _ (policy : List ℕ) (budget : Budget) (facts : Facts) (bytes : List ℕ) where
  -- a verdict with another explanation that its request has
  explained_as : (name : Option (List ℕ)) (explanation other : Explanation) (allowed : Bool)
      (matched : Option ℕ)
      → ((r : RequestValue) (filter : Filter CelChecked) → Explains r filter explanation → Explains r filter other)
      → IsDecided policy budget facts bytes name explanation allowed matched
      → IsDecided policy budget facts bytes name other allowed matched
  explained_as name explanation other allowed matched explains decided = record {
    filter = decided.filter;
    enforced = decided.enforced;
    admitted = decided.admitted;
    request = decided.request;
    asks = decided.asks;
    verdict = decided.verdict;
    named = decided.named;
    explained = explains decided.request decided.filter decided.explained;
  }

  -- so with an outcome
  found_as : (name : Option (List ℕ)) (explanation other : Explanation) (outcome : Outcome)
      → ((r : RequestValue) (filter : Filter CelChecked) → Explains r filter explanation → Explains r filter other)
      → IsOutcomeOf policy budget facts bytes name explanation outcome
      → IsOutcomeOf policy budget facts bytes name other outcome
  found_as name explanation other (outcomes.Allowed matched) explains found =
      explained_as name explanation other true matched explains found
  found_as name explanation other (outcomes.Denied matched) explains found =
      explained_as name explanation other false matched explains found
  found_as name explanation other (outcomes.Refused reason) explains found = found
  found_as name explanation other (outcomes.Fault fault) explains found = found
  found_as name explanation other outcomes.Memory explains found = tt
  found_as name explanation other outcomes.OutOfSteps explains found = found
  found_as name explanation other (outcomes.Admitted policies bound) explains found = found

  -- an outcome is one where less is reported
  pub less_found : (name : Option (List ℕ)) (explanation : Explanation) (outcome : Outcome)
      → IsOutcomeOf policy budget facts bytes name explanation outcome
      → IsOutcomeOf policy budget facts bytes name (without_trials explanation) outcome
  less_found name explanation outcome found =
      found_as name explanation (without_trials explanation) outcome
      (λ r filter explains. less_explains r filter explanation explains) found

  -- a request that is asked for is not outside the limits
  within_limits : (r : RequestValue) → HeadAsks bytes largest facts r → ¬ (¬ (InLimits r largest))
  within_limits r asks outside =
      outside asks.in_limits

  module _ (enforced : Filter Program) (filter : Filter CelChecked) (name : Option (List ℕ))
      (admits : Admits policy largest budget filter enforced) where
    -- what a request is answered, and why, is an outcome of the bytes that ask for it
    answer_found : (r : RequestValue) (outcome : Outcome) (explanation : Explanation)
        → HeadAsks bytes largest facts r → IsAnswerTo enforced r outcome
        → IsExplanationOf enforced r explanation → IsNameOf enforced outcome name
        → IsOutcomeOf policy budget facts bytes name explanation outcome
    answer_found r (outcomes.Allowed matched) explanation asks answer explains named = record {
      filter = filter;
      enforced = enforced;
      admitted = admits;
      request = r;
      asks = asks;
      verdict = answer filter (policy, budget, admits);
      named = named;
      explained = explains filter (policy, budget, admits) (within_limits r asks);
    }
    answer_found r (outcomes.Denied matched) explanation asks answer explains named = record {
      filter = filter;
      enforced = enforced;
      admitted = admits;
      request = r;
      asks = asks;
      verdict = answer filter (policy, budget, admits);
      named = named;
      explained = explains filter (policy, budget, admits) (within_limits r asks);
    }
    answer_found r outcomes.OutOfSteps explanation asks answer explains named =
        within_limits r asks (answer filter (policy, budget, admits))
    answer_found r outcomes.Memory explanation asks answer explains named = tt
    answer_found r (outcomes.Refused reason) explanation asks answer explains named = absurd answer
    answer_found r (outcomes.Fault fault) explanation asks answer explains named = absurd answer
    answer_found r (outcomes.Admitted policies bound) explanation asks answer explains named = absurd answer

-- what was found of the bytes, under the admitted filter
pub under_found : (enforced : Filter Program) (facts : Facts) (bytes : List ℕ) (found : Option HeadAsk)
    (outcome : Outcome) (explanation : Explanation) → IsFound largest facts bytes found
    → IsOutcomeOfAsk enforced found outcome
    → IfJudge found (λ r. IsExplanationOf enforced r explanation)
    → IsOutcomeUnder enforced facts bytes explanation outcome
under_found enforced facts bytes (Some (Judge r)) outcome explanation is answers explains policy budget filter name admits named =
    answer_found policy budget facts bytes enforced filter name admits r outcome explanation is.judged answers.judged explains named
under_found enforced facts bytes (Some (Fault fault)) outcome explanation is answers explains policy budget filter name admits named =
    rw answers.fault ((_, admits.admissible), InputFault.present is.fault)
under_found enforced facts bytes None outcome explanation is answers explains policy budget filter name admits named =
    rw answers.none ((_, admits.admissible), InputFault.unfinished is.none refl)

module _ {E : Type 0} where
  -- what is found under the admitted filter, or out of memory, is found under the policy
  pub found_under : (policy : List ℕ) (budget : Budget) (facts : Facts) (known : Option (List ℕ))
      (enforced : Filter Program) (filter : Filter CelChecked) → Admits policy largest budget filter enforced
      → (answer ended : Result Finding E)
      → IfOk answer (λ f. (bytes : List ℕ) × IsAllOf known bytes × IsOutcomeUnder enforced facts bytes f.explanation f.outcome)
      → IfOk answer (λ f. IsNameOf enforced f.outcome (option_map string_bytes f.name))
      → IfOk answer (λ f. ended ≡ Ok f)
      → OnErr answer (IfOk ended (λ f. f ≡ bare outcomes.Memory))
      → IfOk ended (λ f. (bytes : List ℕ) × IsAllOf known bytes
      × IsOutcomeOf policy budget facts bytes (option_map string_bytes f.name) f.explanation f.outcome)
  found_under policy budget facts known enforced filter admits (Ok f) ended (bytes, all, under) named kept memory =
      rw kept (bytes, all, under policy budget filter _ admits named)
  found_under policy budget facts known enforced filter admits (Err e) ended outcome named kept memory =
      IfOk-weaker ended _ _ (λ f none. let (bytes, all) = some_bytes known in rw none (bytes, all, tt)) memory

  -- and an explanation is given as it was
  pub given_under : (A : Type 0) (answer ended : Result Finding E)
      → IfOk answer (λ f. IsGiven f.explanation ↔ (A × IsDecision f.outcome))
      → IfOk answer (λ f. ended ≡ Ok f)
      → OnErr answer (IfOk ended (λ f. f ≡ bare outcomes.Memory))
      → IfOk ended (λ f. IsGiven f.explanation ↔ (A × IsDecision f.outcome))
  given_under A (Ok f) ended given kept memory = rw kept given
  given_under A (Err e) ended given kept memory =
      IfOk-weaker ended _ _ (λ f none. rw none (λ g. absurd g, λ p. p.1)) memory
