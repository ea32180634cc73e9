-- Where a filter's conditions together take more than the budget has. That is at the first condition, in the order of the
-- policies' names, with which the sum is above it.
use Rattle.std.specs.Prelude.{◌≡◌, ◌++◌, ℕ, List, [], ◌∷◌, length}
use Rattle.std.specs.FinMap.{entries}
use Rattle.attributes.specs.Limits.{LimitsValue}
use Rattle.cel_tree.specs.Checked.{CelChecked}
use Rattle.cel_tree.specs.Message.{ArePresent, ExprParts, IsExprOf}
use Rattle.proto_wire.specs.Fields.{Wire}
use Rattle.proto_wire.specs.Maps.{Entry, text, Readable, map_of}
use Rattle.proto_wire.specs.Merge.{Merges}
use Rattle.proto_wire.specs.Places.{BeginsWith, Path}
use Rattle.proto_wire.specs.Values.{payloads}
use Rattle.proto_wire.specs.declared.refusal.Refusal.{Refusal}
use Rattle.cost_bound.specs.Budgets.{IsTooSmallFor, nothing, sum_of}
use Rattle.cost_bound.specs.declared.budget.Budget.{Budget}
use Rattle.rbac_policy.specs.Costs.{Costs, PolicyCosts}
use Rattle.rbac_policy.specs.Filter.{Policy}
use Rattle.rbac_policy.specs.Keys.{filter_field, rules_field}
use Rattle.rbac_policy.specs.Message.{IsPolicy, condition_in}
use Rattle.rbac_policy.specs.Places.{IsOfExpr, condition_field}

-- the entries are policies, and this is what their conditions take together
abbrev pub EntriesCost : LimitsValue → List (Entry text) → Budget → Type 0
EntriesCost limits [] needs = needs ≡ nothing
EntriesCost limits ((name, parts) ∷ others) needs = (policy : Policy CelChecked) × (own rest : Budget)
    × IsPolicy parts policy × PolicyCosts limits policy own × EntriesCost limits others rest
    × (needs ≡ sum_of own rest)

-- the condition takes more than is left; the path is that of the expression itself
abbrev pub OverIn : LimitsValue → Budget → CelChecked → Path → Refusal → Type 0
OverIn limits left x path e = (needs : Budget) × Costs limits x needs × IsTooSmallFor left needs e × (path.steps ≡ [])

-- the same at this path of a condition
abbrev pub OverInCondition : LimitsValue → Budget → ExprParts → Path → Refusal → Type 0
OverInCondition limits left parts path e = (x : CelChecked) × (inner : Path) × IsExprOf parts x
    × OverIn limits left x inner e × IsOfExpr parts inner path

-- the same at this path of a policy with these fields
abbrev pub OverInFields : LimitsValue → Budget → List Wire → Path → Refusal → Type 0
OverInFields limits left fs path e = ArePresent (condition_in fs) × (inner : Path)
    × OverInCondition limits left (condition_in fs) inner e
    × BeginsWith (condition_field (condition_in fs)) 0 inner path

-- the same at this path of a policy
abbrev pub OverInPolicy : LimitsValue → Budget → List (List ℕ) → Path → Refusal → Type 0
OverInPolicy limits left parts path e = (fs : List Wire) × Merges parts fs × OverInFields limits left fs path e

-- the same at this path of a filter's rules, whose policies at this position are the entry
abbrev pub OverInEntry : LimitsValue → Budget → ℕ → Entry text → Path → Refusal → Type 0
OverInEntry limits left position entry path e = (inner : Path) × OverInPolicy limits left entry.1 inner e
    × BeginsWith rules_field.policies position inner path

-- the conditions before one together take what the budget has more than is left, and this one takes more
pub record OverInPolicies (limits : LimitsValue) (budget left : Budget) (policies : List (Entry text)) (path : Path)
    (e : Refusal) : Type 0 where
  pub before : List (Entry text)
  pub entry : Entry text
  pub after : List (Entry text)
  pub whole : policies ≡ before ++ entry ∷ after
  pub spent : Budget
  pub costs : EntriesCost limits before spent
  pub leaves : sum_of spent left ≡ budget
  pub over : OverInEntry limits left (length before) entry path e

-- the same at this path of a filter's rules with these fields
abbrev pub OverInRules : LimitsValue → Budget → Budget → List Wire → Path → Refusal → Type 0
OverInRules limits budget left fs path e = (read : List (Entry text))
    × Readable text (payloads rules_field.policies fs) read
    × OverInPolicies limits budget left (entries (map_of text read)) path e

-- the same at this path of a filter
pub record OverAt (bytes : List ℕ) (limits : LimitsValue) (budget left : Budget) (path : Path) (e : Refusal)
    : Type 0 where
  pub top : List Wire
  pub fs : List Wire
  pub inner : Path
  pub outside : Merges (bytes ∷ []) top
  pub inside : Merges (payloads filter_field.rules top) fs
  pub over : OverInRules limits budget left fs inner e
  pub begins : BeginsWith filter_field.rules 0 inner path
