-- What is wrong with the condition of one policy, and of one among others that spent some of the budget.
use Rattle.std.proofs.Common.{◌≡◌, ◌⊎◌, inl, inr, ℕ, List, [], ◌∷◌, ◌++◌, refl, sym, ap, ◌∙◌}
use Rattle.attributes.specs.Limits.{LimitsValue}
use Rattle.proto_wire.specs.Fields.{Wire}
use Rattle.proto_wire.specs.Maps.{Entry, text}
use Rattle.proto_wire.specs.Merge.{Merges}
use Rattle.proto_wire.specs.declared.refusal.Refusal.{Refusal}
use Rattle.std.specs.Prelude.{Result, Ok, Err, IfOk}
use Rattle.cel_tree.specs.Checked.{CelChecked}
use Rattle.cost_bound.specs.Budgets.{nothing, sum_of}
use Rattle.cost_bound.specs.declared.budget.Budget.{Budget}
use Rattle.cost_bound.proofs.BudgetLaws.{nothing_before, nothing_more, sum_assoc, too_small_before}
use Rattle.rbac_policy.specs.Budget.{EntriesCost}
use Rattle.rbac_policy.specs.Condition.{Program}
use Rattle.rbac_policy.specs.Enforced.{policies_need, program_needs}
use Rattle.rbac_policy.specs.Admission.{Fault, too_much}
use Rattle.rbac_policy.specs.Fault.{HoldsPolicies, PolicyFault, PolicyHas, not_bool, unreadable, untyped}
use Rattle.rbac_policy.specs.Filter.{Policy}
use Rattle.cel_tree.specs.Message.{ArePresent}
use Rattle.rbac_policy.specs.Message.{condition_in}
use Rattle.rbac_policy.specs.private.Conditions as step
use Rattle.rbac_policy.specs.private.Conditions.{ConditionFault, ConditionsFault, ExpressionFault, IsEnforced, cost_too_much}
use Rattle.rbac_policy.proofs.Besides.{Beside}
use Rattle.rbac_policy.proofs.Enforcing.{all_cost, cost_of_one, costs_append, policy_costs}

module _ (limits : LimitsValue) (name : List ℕ) (parts : List (List ℕ)) (left : Budget) (e : Refusal) where
  expression_fails : (c : CelChecked) → PolicyHas parts c → ExpressionFault c limits left e
      → PolicyFault parts e ⊎ ConditionsFault ((name, parts) ∷ []) limits left e
  expression_fails c has (step.untyped bad) = inl (untyped c has bad)
  expression_fails c has (step.not_bool t typed other is) = inl (not_bool c t has typed other is)
  expression_fails c has (step.too_much needs costs small) =
      inr (cost_too_much needs (inr (c, needs, nothing, has, costs, refl, sym (nothing_more needs))) small)

  -- the fault of a policy's condition is one of the policy, or one of its cost
  pub condition_fails : (fs : List Wire) → Merges parts fs → ArePresent (condition_in fs)
      → ConditionFault (condition_in fs) limits left e
      → PolicyFault parts e ⊎ ConditionsFault ((name, parts) ∷ []) limits left e
  condition_fails fs merges there (step.unreadable bad) = inl (unreadable fs merges there bad)
  condition_fails fs merges there (step.expression c reads bad) =
      expression_fails c (record { fs = fs; merges = merges; reads = reads }) bad

-- what one more policy costs
pub needs_push : (vs : List (List ℕ × Policy Program)) (name : List ℕ) (v : Policy Program)
    → policies_need (vs ++ (name, v) ∷ []) ≡ sum_of (policies_need vs) (program_needs v.condition)
needs_push [] name v =
    nothing_more (program_needs v.condition) ∙ sym (nothing_before (program_needs v.condition))
needs_push (u ∷ vs) name v =
    ap (sum_of (program_needs (u.1).condition)) (needs_push vs name v)
    ∙ sym (sum_assoc (program_needs (u.1).condition) (policies_need vs) (program_needs v.condition))

-- one policy among others, of which those before leave this of the budget
pub one_fails : (limits : LimitsValue) (budget left : Budget) (e : Refusal) (ns : List (Entry text)) (n : Entry text)
    (more : List (Entry text)) (vs : List (List ℕ × Policy Program)) → Beside (IsEnforced limits) ns vs
    → sum_of (policies_need vs) left ≡ budget → ConditionsFault (n ∷ []) limits left e
    → ConditionsFault (ns ++ n ∷ more) limits budget e
one_fails limits budget left e ns n more vs held leaves (cost_too_much needs costs small) =
    cost_too_much (sum_of (policies_need vs) needs)
    (costs_append limits ns (n ∷ more) (policies_need vs) needs (all_cost limits ns vs held) (cost_of_one limits n more needs costs))
    (too_small_before budget left (policies_need vs) needs e leaves small)

-- what is wrong with the costs of a filter's conditions is wrong with its bytes
pub conditions_fail : (bytes : List ℕ) (limits : LimitsValue) (budget : Budget) (e : Refusal) (policies : List (Entry text))
    → HoldsPolicies bytes policies → ConditionsFault policies limits budget e
    → Fault e bytes limits budget
conditions_fail bytes limits budget e policies holds (cost_too_much needs costs small) =
    too_much policies needs holds costs small

-- what policies cost of which something is enforced
pub entries_cost : (limits : LimitsValue) (ns : List (Entry text)) (vs : List (List ℕ × Policy Program))
    → Beside (IsEnforced limits) ns vs → EntriesCost limits ns (policies_need vs)
entries_cost limits [] vs beside = rw beside refl
entries_cost limits (n ∷ ns) vs (v, others, (p, is, enforces), rest, made) = rw made (
  p,
  program_needs v.condition,
  policies_need others,
  is,
  policy_costs limits p v enforces,
  entries_cost limits ns others rest,
  refl,
)

-- what holds of an answer in two ways
pub both_ok : {S E : Type 0} (P Q R : S → Type 0) (r : Result S E) → IfOk r P → IfOk r Q
    → ((x : S) → P x → Q x → R x) → IfOk r R
both_ok P Q R (Ok x) p q both = both x p q
both_ok P Q R (Err e) p q both = tt
