-- The faults of bytes that are no admissible filter, each with its refusal.
use Rattle.std.specs.Prelude.{◌≡◌, ◌≢◌, ◌⊎◌, ℕ, ◌<◌, List, [], ◌∷◌}
use Rattle.std.specs.FinMap.{entries, len}
use Rattle.proto_wire.specs.Fields.{Wire}
use Rattle.proto_wire.specs.Values.{payloads}
use Rattle.proto_wire.specs.Merge.{Merges}
use Rattle.proto_wire.specs.Maps.{Entry, text, MapFault, Readable, map_of}
use Rattle.proto_wire.specs.Messages.{IsMessage, MessageFault}
use Rattle.proto_wire.specs.declared.refusal.Refusal.{Refusal}
use Rattle.proto_wire.specs.declared.refusal.Refusal.TheVariants.{BothConditions, Missing, NotBool, OutOfRange, Unsupported, TooLarge}
use Rattle.attributes.specs.Limits.{LimitsValue}
use Rattle.cel_value.specs.Types.{ValueType, bool_type}
use Rattle.cel_tree.specs.Checked.{CelChecked}
use Rattle.cel_tree.specs.Message.{ExprFault, IsExprOf, ArePresent}
use Rattle.cel_types.specs.TypingFaults.{CheckFault, IsTyped}
use Rattle.cost_bound.specs.Budgets.{nothing, sum_of}
use Rattle.cost_bound.specs.declared.budget.Budget.{Budget}
use Rattle.rbac_policy.specs.Costs.{Costs}
use Rattle.rbac_match.specs.Rules.{SomeRuleFault}
use Rattle.rbac_match.specs.declared.rule.Side.TheVariants.{Permission, Principal}
use Rattle.rbac_policy.specs.Keys.{filter_keys, rules_keys, policy_keys, filter_field, rules_field, policy_field}
use Rattle.rbac_policy.specs.Message.{rule_depth, most_policies, action_in, action_number, condition_in, HasBothSides}
use Rattle.rbac_policy.specs.declared.filter.Action.TheVariants.{Log}

-- the policy in these parts has this condition
pub record PolicyHas (parts : List (List ℕ)) (condition : CelChecked) : Type 0 where
  pub fs : List Wire
  pub merges : Merges parts fs
  pub reads : IsExprOf (condition_in fs) condition

-- a fault of a policy: in its fields, in its rules, or that it lacks permissions or principals. Also that it
-- has both conditions. Or that its condition does not read, has no type, or has another type than bool
pub data PolicyFault (parts : List (List ℕ)) (e : Refusal) : Type 0 where
  policy_fields : MessageFault policy_keys parts e → PolicyFault parts e
  lacks_side : (fs : List Wire) → IsMessage policy_keys parts fs → ¬ (HasBothSides fs) → e ≡ Missing
      → PolicyFault parts e
  both_conditions : (fs : List Wire) → Merges parts fs → payloads policy_field.condition fs ≢ []
      → payloads policy_field.checked_condition fs ≢ [] → e ≡ BothConditions → PolicyFault parts e
  unreadable : (fs : List Wire) → Merges parts fs → ArePresent (condition_in fs)
      → ExprFault (condition_in fs) e → PolicyFault parts e
  untyped : (condition : CelChecked) → PolicyHas parts condition → CheckFault condition e → PolicyFault parts e
  not_bool : (condition : CelChecked) (t : ValueType) → PolicyHas parts condition → IsTyped condition t
      → t ≢ bool_type → e ≡ NotBool → PolicyFault parts e
  in_permission : (fs : List Wire) → Merges parts fs
      → SomeRuleFault Permission rule_depth (payloads policy_field.permissions fs) e → PolicyFault parts e
  in_principal : (fs : List Wire) → Merges parts fs
      → SomeRuleFault Principal rule_depth (payloads policy_field.principals fs) e → PolicyFault parts e

-- a fault in the fields of the filter's rules: an action above LOG, or options of an audit log. Also a fault
-- in the map of policies, or too many policies
pub data RulesFault (fs : List Wire) (e : Refusal) : Type 0 where
  bad_action : action_number Log < action_in fs → e ≡ OutOfRange → RulesFault fs e
  audited : payloads rules_field.audit_logging_options fs ≢ [] → e ≡ Unsupported → RulesFault fs e
  in_policies : MapFault text PolicyFault (payloads rules_field.policies fs) e → RulesFault fs e
  too_many : (read : List (Entry text)) → Readable text (payloads rules_field.policies fs) read
      → most_policies < len (map_of text read) → e ≡ TooLarge → RulesFault fs e

-- a fault of the filter's message
pub data FilterFault (bytes : List ℕ) (e : Refusal) : Type 0 where
  filter_fields : MessageFault filter_keys (bytes ∷ []) e → FilterFault bytes e
  no_rules : (top : List Wire) → IsMessage filter_keys (bytes ∷ []) top
      → payloads filter_field.rules top ≡ [] → e ≡ Missing → FilterFault bytes e
  rules_fields : (top : List Wire) → Merges (bytes ∷ []) top → payloads filter_field.rules top ≢ []
      → MessageFault rules_keys (payloads filter_field.rules top) e → FilterFault bytes e
  in_rules : (top fs : List Wire) → Merges (bytes ∷ []) top → payloads filter_field.rules top ≢ []
      → Merges (payloads filter_field.rules top) fs → RulesFault fs e → FilterFault bytes e

-- the filter's message has these policies, by their names
pub record HoldsPolicies (bytes : List ℕ) (policies : List (Entry text)) : Type 0 where
  pub top : List Wire
  pub fs : List Wire
  pub read : List (Entry text)
  pub outer : Merges (bytes ∷ []) top
  pub inner : Merges (payloads filter_field.rules top) fs
  pub readable : Readable text (payloads rules_field.policies fs) read
  pub named : policies ≡ entries (map_of text read)

-- some of the policies have conditions of type bool, and this is what these conditions take together
abbrev pub SomeCost : LimitsValue → List (Entry text) → Budget → Type 0
SomeCost limits [] needs = needs ≡ nothing
SomeCost limits ((name, parts) ∷ others) needs = SomeCost limits others needs
    ⊎ ((condition : CelChecked) × (own rest : Budget) × PolicyHas parts condition
    × Costs limits condition own × SomeCost limits others rest × (needs ≡ sum_of own rest))
