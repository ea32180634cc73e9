-- What conditions take of a budget: the costs and the visits of their elaborated expressions (this project's
-- measures).
use Rattle.std.specs.Prelude.{◌≡◌, ℕ, List, [], ◌∷◌, MatchOption}
use Rattle.std.specs.FinMap.{entries}
use Rattle.attributes.specs.Limits.{LimitsValue}
use Rattle.cel_value.specs.Types.{bool_type}
use Rattle.cel_tree.specs.Checked.{CelChecked}
use Rattle.cel_types.specs.Elaborated.{IsElaborated, TypedTree, kind}
use Rattle.cost_bound.specs.Budgets.{needs_of, nothing, sum_of}
use Rattle.cost_bound.specs.declared.budget.Budget.{Budget}
use Rattle.rbac_policy.specs.Filter.{Filter, Policy}

-- the condition has the type bool, and takes these steps and visits for requests within the limits
pub record Costs (limits : LimitsValue) (condition : CelChecked) (needs : Budget) : Type 0 where
  pub e : TypedTree
  pub elaborated : IsElaborated condition e
  pub has_type : kind e ≡ bool_type
  pub is : needs ≡ needs_of e limits

-- what the policy's condition takes; nothing if it has none
abbrev pub PolicyCosts : LimitsValue → Policy CelChecked → Budget → Type 0
PolicyCosts limits policy needs =
    MatchOption policy.condition (needs ≡ nothing) (λ condition. Costs limits condition needs)

-- what the policies' conditions take together
abbrev pub PoliciesCost : LimitsValue → List (List ℕ × Policy CelChecked) → Budget → Type 0
PoliciesCost limits [] needs = needs ≡ nothing
PoliciesCost limits ((name, policy) ∷ others) needs = (own rest : Budget) × PolicyCosts limits policy own
    × PoliciesCost limits others rest × (needs ≡ sum_of own rest)

-- all conditions of the filter have the type bool, and this is what they take together
abbrev pub FilterCosts : LimitsValue → Filter CelChecked → Budget → Type 0
FilterCosts limits filter = PoliciesCost limits (entries filter.policies)
