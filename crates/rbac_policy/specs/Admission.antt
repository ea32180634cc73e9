-- Which bytes are admitted as a filter under limits and a budget, and the faults of all others.
use Rattle.std.specs.Prelude.{ℕ, List}
use Rattle.attributes.specs.Limits.{LimitsValue}
use Rattle.cel_tree.specs.Checked.{CelChecked}
use Rattle.proto_wire.specs.Maps.{Entry, text}
use Rattle.proto_wire.specs.declared.refusal.Refusal.{Refusal}
use Rattle.cost_bound.specs.Budgets.{Covers, IsTooSmallFor}
use Rattle.cost_bound.specs.declared.budget.Budget.{Budget}
use Rattle.rbac_policy.specs.Condition.{Program}
use Rattle.rbac_policy.specs.Costs.{FilterCosts}
use Rattle.rbac_policy.specs.Enforced.{Enforces}
use Rattle.rbac_policy.specs.Filter.{Filter}
use Rattle.rbac_policy.specs.Message.{IsFilter}
use Rattle.rbac_policy.specs.Fault.{FilterFault, HoldsPolicies, SomeCost}

-- the bytes are the message of the filter. Its conditions are all of type bool, and together take at most the
-- steps and the visits of the budget
pub record IsAdmissibleAs (bytes : List ℕ) (limits : LimitsValue) (budget : Budget)
    (filter : Filter CelChecked) : Type 0 where
  pub message : IsFilter bytes filter
  pub needs : Budget
  pub costs : FilterCosts limits filter needs
  pub covered : Covers budget needs

-- the bytes are admissible as some filter
abbrev pub Admissible : List ℕ → LimitsValue → Budget → Type 0
Admissible bytes limits budget =
    (filter : Filter CelChecked) × IsAdmissibleAs bytes limits budget filter

-- the bytes are admitted as the filter, and this is enforced for it
pub record Admits (bytes : List ℕ) (limits : LimitsValue) (budget : Budget) (filter : Filter CelChecked)
    (enforced : Filter Program) : Type 0 where
  pub admissible : IsAdmissibleAs bytes limits budget filter
  pub enforces : Enforces limits filter enforced

-- the bytes have a fault with this refusal, for requests within these limits and with this budget. It is a
-- fault of the message, or conditions that take more than the budget has, whatever else the bytes have
pub data Fault (e : Refusal) (bytes : List ℕ) (limits : LimitsValue) (budget : Budget) : Type 0 where
  in_message : FilterFault bytes e → Fault e bytes limits budget
  too_much : (policies : List (Entry text)) (needs : Budget) → HoldsPolicies bytes policies
      → SomeCost limits policies needs → IsTooSmallFor budget needs e → Fault e bytes limits budget

-- some bytes were admitted as the filter, under some budget, and this is enforced for it
abbrev pub IsAdmittedAs : LimitsValue → Filter CelChecked → Filter Program → Type 0
IsAdmittedAs limits filter enforced =
    (bytes : List ℕ) × (budget : Budget) × Admits bytes limits budget filter enforced
