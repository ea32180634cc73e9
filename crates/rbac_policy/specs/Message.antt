-- The messages of an RBAC filter: Envoy v3 `extensions/filters/http/rbac/v3/rbac.proto` and
-- `config/rbac/v3/rbac.proto`.
use Rattle.std.specs.Prelude.{◌≡◌, ◌≢◌, ℕ, ◌⊎◌, ◌≤◌, List, [], ◌∷◌, Option, Some, None}
use Rattle.std.specs.FinMap.{len}
use Rattle.proto_wire.specs.Fields.{Wire}
use Rattle.proto_wire.specs.Values.{payloads, uint32_at}
use Rattle.proto_wire.specs.Maps.{text, IsMap}
use Rattle.proto_wire.specs.Messages.{IsMessage}
use Rattle.cel_tree.specs.Checked.{CelChecked}
use Rattle.cel_tree.specs.Message.{ExprParts, IsExprOf, ArePresent, checked_parts, unchecked_parts}
use Rattle.rbac_match.specs.Rules.{AreRules, IsRule}
use Rattle.rbac_match.specs.declared.rule.Side.TheVariants.{Permission, Principal}
use Rattle.rbac_policy.specs.Filter.{Policy, Filter}
use Rattle.rbac_policy.specs.Keys.{filter_keys, rules_keys, policy_keys, filter_field, rules_field, policy_field}
use Rattle.rbac_policy.specs.declared.filter.Action.{Action}
use Rattle.rbac_policy.specs.declared.filter.Action.TheVariants.{Allow, Deny, Log}

-- the most levels of a permission or a principal
abbrev pub rule_depth : ℕ
rule_depth = 32

-- the most policies of a filter
abbrev pub most_policies : ℕ
most_policies = 256

-- the fields have some permission and some principal
abbrev pub HasBothSides : List Wire → Type 0
HasBothSides fs =
    (payloads policy_field.permissions fs ≢ []) × (payloads policy_field.principals fs ≢ [])

-- the payloads of `checked_condition`, or without them those of `condition`
abbrev pub checked_or : (checked unchecked : List (List ℕ)) → ExprParts
checked_or [] unchecked = unchecked_parts unchecked
checked_or (part ∷ parts) unchecked = checked_parts (part ∷ parts)

-- the payloads of the condition in the fields of a policy
abbrev pub condition_in : List Wire → ExprParts
condition_in fs = checked_or (payloads policy_field.checked_condition fs) (payloads policy_field.condition fs)

-- without payloads, there is no condition; otherwise they merge to this expression
abbrev pub IsCondition : ExprParts → Option CelChecked → Type 0
IsCondition parts None = ArePresent parts → ⊥
IsCondition parts (Some condition) = ArePresent parts × IsExprOf parts condition

-- the parts merge to a policy
pub record IsPolicy (parts : List (List ℕ)) (policy : Policy CelChecked) : Type 0 where
  pub fs : List Wire
  pub message : IsMessage policy_keys parts fs
  pub one : (payloads policy_field.condition fs ≡ []) ⊎ (payloads policy_field.checked_condition fs ≡ [])
  pub condition : IsCondition (condition_in fs) policy.condition
  pub sides : HasBothSides fs
  pub permissions : AreRules (IsRule Permission rule_depth) (payloads policy_field.permissions fs)
      policy.permissions
  pub principals : AreRules (IsRule Principal rule_depth) (payloads policy_field.principals fs)
      policy.principals

-- the number of the action, which is an enum
abbrev pub action_in : List Wire → ℕ
action_in fs = uint32_at rules_field.action fs

-- the number of each action
abbrev pub action_number : Action → ℕ
action_number Allow = 0
action_number Deny = 1
action_number Log = 2

-- the fields are the rules of the filter
pub record AreFilterRules (fs : List Wire) (filter : Filter CelChecked) : Type 0 where
  pub unaudited : payloads rules_field.audit_logging_options fs ≡ []
  pub action : action_in fs ≡ action_number filter.action
  pub policies : IsMap text IsPolicy (payloads rules_field.policies fs) filter.policies
  pub few : len filter.policies ≤ most_policies

-- the bytes are the message of the filter
pub record IsFilter (bytes : List ℕ) (filter : Filter CelChecked) : Type 0 where
  pub top : List Wire
  pub fs : List Wire
  pub message : IsMessage filter_keys (bytes ∷ []) top
  pub there : payloads filter_field.rules top ≢ []
  pub inner : IsMessage rules_keys (payloads filter_field.rules top) fs
  pub rules : AreFilterRules fs filter
