-- Why conditions are not admitted, step by step.
use Rattle.std.specs.Prelude.{◌≡◌, ◌≢◌, ℕ, List, Option, None, IsSomeAnd, MatchOption}
use Rattle.attributes.specs.Limits.{LimitsValue}
use Rattle.cel_value.specs.Types.{ValueType, bool_type}
use Rattle.cel_tree.specs.Checked.{CelChecked}
use Rattle.cel_tree.specs.Message.{ExprFault, ExprParts, IsExprOf}
use Rattle.cel_types.specs.TypingFaults.{CheckFault, IsTyped}
use Rattle.proto_wire.specs.Maps.{Entry, text}
use Rattle.proto_wire.specs.declared.refusal.Refusal.{Refusal}
use Rattle.proto_wire.specs.declared.refusal.Refusal.TheVariants.{NotBool}
use Rattle.cost_bound.specs.Budgets.{IsTooSmallFor}
use Rattle.cost_bound.specs.declared.budget.Budget.{Budget}
use Rattle.rbac_policy.specs.Condition.{IsProgramOf, Program}
use Rattle.rbac_policy.specs.Costs.{Costs}
use Rattle.rbac_policy.specs.Enforced.{EnforcesPolicy}
use Rattle.rbac_policy.specs.Fault.{SomeCost}
use Rattle.rbac_policy.specs.Filter.{Policy}
use Rattle.rbac_policy.specs.Message.{IsCondition, IsPolicy}

-- why a condition is not admitted if this is left of the budget
pub data ExpressionFault (condition : CelChecked) (limits : LimitsValue) (left : Budget) (e : Refusal)
    : Type 0 where
  untyped : CheckFault condition e → ExpressionFault condition limits left e
  not_bool : (t : ValueType) → IsTyped condition t → t ≢ bool_type → e ≡ NotBool
      → ExpressionFault condition limits left e
  too_much : (needs : Budget) → Costs limits condition needs → IsTooSmallFor left needs e
      → ExpressionFault condition limits left e

-- the same for the payloads of a condition, which may have faults
pub data ConditionFault (parts : ExprParts) (limits : LimitsValue) (left : Budget) (e : Refusal)
    : Type 0 where
  unreadable : ExprFault parts e → ConditionFault parts limits left e
  expression : (condition : CelChecked) → IsExprOf parts condition
      → ExpressionFault condition limits left e → ConditionFault parts limits left e

-- the program is that of the condition in the payloads; without payloads there is none
abbrev pub HasProgram : LimitsValue → ExprParts → Option Program → Type 0
HasProgram limits parts program = (condition : Option CelChecked) × IsCondition parts condition
    × MatchOption condition (program ≡ None) (λ c. IsSomeAnd program (IsProgramOf limits c))

-- the parts are a policy, and this is enforced for it
abbrev pub IsEnforced : LimitsValue → List (List ℕ) → Policy Program → Type 0
IsEnforced limits parts enforced =
    (policy : Policy CelChecked) × IsPolicy parts policy × EnforcesPolicy limits policy enforced

-- why policies are not admitted if this is left of the budget: their conditions take more
pub data ConditionsFault (policies : List (Entry text)) (limits : LimitsValue) (left : Budget) (e : Refusal)
    : Type 0 where
  cost_too_much : (needs : Budget) → SomeCost limits policies needs → IsTooSmallFor left needs e
      → ConditionsFault policies limits left e
