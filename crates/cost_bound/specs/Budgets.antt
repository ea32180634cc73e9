-- Budgets: how many steps the conditions of a filter may take when they run, and how many visits when they are
-- measured (this project's measures).
use Rattle.std.specs.Prelude.{◌≡◌, ◌≤◌, ◌<◌, ◌⊎◌, ◌+◌, [], ℕ}
use Rattle.attributes.specs.Limits.{LimitsValue}
use Rattle.proto_wire.specs.declared.refusal.Refusal.{Refusal}
use Rattle.proto_wire.specs.declared.refusal.Refusal.TheVariants.{TooCostly, TooLarge}
use Rattle.cel_types.specs.Elaborated.{TypedTree}
use Rattle.cel_costs.specs.Costs.{cost_of}
use Rattle.cel_costs.specs.Visits.{visits_of}
use Rattle.cost_bound.specs.declared.budget.Budget.{Budget}

-- a budget that may be declared: 1 to 100,000,000 steps, and 1 to 2^63 - 1 visits
abbrev pub IsBudget : Budget → Type 0
IsBudget budget = (1 ≤ budget.steps) × (budget.steps ≤ 100000000) × (1 ≤ budget.visits)
    × (budget.visits ≤ 9223372036854775807)

-- so many steps, and the visits of a filter for which none are declared
abbrev pub of_steps : ℕ → Budget
of_steps steps = record { steps = steps; visits = 4194304 }

-- what an expression takes of a budget, for requests within the limits: its cost in steps, and its visits
abbrev pub needs_of : TypedTree → LimitsValue → Budget
needs_of e limits = record { steps = cost_of e limits []; visits = visits_of e limits [] }

-- no steps and no visits
abbrev pub nothing : Budget
nothing = record { steps = 0; visits = 0 }

-- the steps and the visits of two together
abbrev pub sum_of : Budget → Budget → Budget
sum_of a b = record { steps = a.steps + b.steps; visits = a.visits + b.visits }

-- the budget has these steps and these visits
abbrev pub Covers : Budget → Budget → Type 0
Covers budget needs = (needs.steps ≤ budget.steps) × (needs.visits ≤ budget.visits)

-- the refusal of what takes more than a budget has: of steps, or of visits
abbrev pub IsTooSmallFor : Budget → Budget → Refusal → Type 0
IsTooSmallFor budget needs e = ((e ≡ TooCostly) × (budget.steps < needs.steps))
    ⊎ ((e ≡ TooLarge) × (budget.visits < needs.visits))
