-- What is enforced for a filter: its conditions as programs.
use Rattle.std.specs.Prelude.{◌≡◌, ℕ, List, [], ◌∷◌, Option, Some, None, IsSomeAnd, MatchOption}
use Rattle.std.specs.FinMap.{entries, get}
use Rattle.attributes.specs.Limits.{LimitsValue}
use Rattle.cel_tree.specs.Checked.{CelChecked}
use Rattle.cost_bound.specs.Budgets.{nothing, sum_of}
use Rattle.cost_bound.specs.declared.budget.Budget.{Budget}
use Rattle.rbac_policy.specs.Condition.{IsProgramOf, Program}
use Rattle.rbac_policy.specs.Filter.{Filter, Policy}

-- this is enforced for the policy: its permissions and principals, and its condition's program
pub record EnforcesPolicy (limits : LimitsValue) (policy : Policy CelChecked)
    (enforced : Policy Program) : Type 0 where
  pub permissions : enforced.permissions ≡ policy.permissions
  pub principals : enforced.principals ≡ policy.principals
  pub condition : MatchOption policy.condition (enforced.condition ≡ None)
      (λ c. IsSomeAnd enforced.condition (IsProgramOf limits c))

-- this is enforced for the filter: its action, and for each name what is enforced for the policy of this name
pub record Enforces (limits : LimitsValue) (filter : Filter CelChecked) (enforced : Filter Program)
    : Type 0 where
  pub action : enforced.action ≡ filter.action
  pub policies : (name : List ℕ) → MatchOption (get filter.policies name)
      (get enforced.policies name ≡ None)
      (λ policy. IsSomeAnd (get enforced.policies name) (EnforcesPolicy limits policy))

-- how many steps a policy's condition may take, and the visits of its measuring
abbrev pub program_needs : Option Program → Budget
program_needs None = nothing
program_needs (Some program) = record { steps = program.bound; visits = program.visits }

-- the same of the policies' conditions together
abbrev pub policies_need : List (List ℕ × Policy Program) → Budget
policies_need [] = nothing
policies_need ((name, policy) ∷ others) = sum_of (program_needs policy.condition) (policies_need others)

-- the same of the conditions of a filter together
abbrev pub total_needs : Filter Program → Budget
total_needs enforced = policies_need (entries enforced.policies)

-- how many steps the conditions of a filter together may take
abbrev pub total_bound : Filter Program → ℕ
total_bound enforced = (total_needs enforced).steps
