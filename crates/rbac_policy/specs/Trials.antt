-- How a filter finds its answer: which policies are tried, and why each matches or does not. Envoy RBAC,
-- "RBAC.policies" and "Policy" (config.rbac.v3).
use Rattle.std.specs.Prelude.{◌≡◌, ◌≢◌, ℕ, ◌+◌, Bool, true, false, List, [], ◌∷◌, Some, None, IsSomeAnd, MatchBool}
use Rattle.attributes.specs.Limits.{LimitsValue}
use Rattle.attributes.specs.Request.{RequestValue}
use Rattle.cel_value.specs.Values.{CelAnswer, CelValue, bool, fails, value}
use Rattle.cel_tree.specs.Checked.{CelChecked}
use Rattle.cel_types.specs.Meaning.{eval}
use Rattle.rbac_match.specs.Formula.{some_hold}
use Rattle.machine_code.specs.Machine.{Ends}
use Rattle.rbac_policy.specs.Condition.{IsProgramOf, Program}
use Rattle.rbac_policy.specs.Filter.{Policy}
use Rattle.rbac_policy.specs.Verdict.{sides_match}
use Rattle.rbac_policy.specs.declared.reason.Reason.{Reason}
use Rattle.rbac_policy.specs.declared.reason.Reason.TheVariants.{NoPermission, NoPrincipal, Matches, ConditionFalse, ConditionFails, ConditionTrue}
use Rattle.rbac_policy.specs.declared.trials.Trial.{Trial}

-- whether the reason is one to match
abbrev pub is_match : Reason → Bool
is_match Matches = true
is_match (ConditionTrue steps bound) = true
is_match _ = false

-- why a policy matches or does not. `Comes` relates a condition to its answer, and `Takes` to the steps of
-- its run and their bound
module _ {C : Type 0} (Comes : C → CelAnswer → Type 0) (Takes : C → (steps bound : ℕ) → Type 0) where
  -- the condition gives this reason
  abbrev pub IsReasonOf : C → Reason → Type 0
  IsReasonOf c ConditionFalse = (v : CelValue) × (v ≢ bool true) × Comes c (value v)
  IsReasonOf c (ConditionFails e) = Comes c (fails e)
  IsReasonOf c (ConditionTrue steps bound) = Comes c (value (bool true)) × Takes c steps bound
  IsReasonOf c _ = ⊥

  -- the policy has this reason, by its permissions, its principals, and then its condition
  abbrev pub HasReason : RequestValue → Policy C → Reason → Type 0
  HasReason r p NoPermission = some_hold r p.permissions ≡ false
  HasReason r p NoPrincipal =
      (some_hold r p.permissions ≡ true) × (some_hold r p.principals ≡ false)
  HasReason r p Matches = (sides_match r p ≡ true) × (p.condition ≡ None)
  HasReason r p reason =
      (sides_match r p ≡ true) × IsSomeAnd p.condition (λ c. IsReasonOf c reason)

-- the answer that a condition means on the request
abbrev pub Means : RequestValue → CelChecked → CelAnswer → Type 0
Means r c answer = eval c.tree r [] ≡ Some answer

-- the run of the condition's program takes `steps` steps, and may take `bound`
abbrev pub TakesSteps : LimitsValue → RequestValue → CelChecked → (steps bound : ℕ) → Type 0
TakesSteps limits r c steps bound = (program : Program) × IsProgramOf limits c program
    × (bound ≡ program.bound) × (answer : CelAnswer) × Ends program.code r answer steps

-- the trials are those of the policies, in order, each with its number and its name, up to the first that
-- matches
abbrev pub AreTrials : {P : Type 0} → (P → Reason → Type 0) → ℕ → List (List ℕ × P) → List Trial
    → Type 0
AreTrials Has number [] trials = trials ≡ []
AreTrials Has number ((name, policy) ∷ policies) [] = ⊥
AreTrials Has number ((name, policy) ∷ policies) (trial ∷ trials) =
    (trial.number ≡ number) × (trial.name.now ≡ name) × Has policy trial.reason
    × MatchBool (is_match trial.reason) (trials ≡ []) (AreTrials Has (number + 1) policies trials)
