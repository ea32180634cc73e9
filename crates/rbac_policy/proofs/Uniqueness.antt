-- Bytes are the message of one filter at most.
use Rattle.std.proofs.Common.{◌≡◌, ℕ, List, [], ◌∷◌, Option, Some, None, refl, sym, ap, ap₂, subst, arith, ◌∙◌}
use Rattle.std.specs.FinMap.{FinMap}
use Rattle.proto_wire.specs.Fields.{Wire}
use Rattle.proto_wire.specs.Values.{payloads}
use Rattle.proto_wire.specs.Messages.{IsMessage}
use Rattle.proto_wire.proofs.Unique.{merges_unique}
use Rattle.rbac_match.specs.Formula.{Formulas}
use Rattle.rbac_match.specs.Rules.{AreRules, IsRule}
use Rattle.rbac_match.specs.declared.rule.Side.{Side}
use Rattle.rbac_match.specs.declared.rule.Side.TheVariants.{Permission, Principal}
use Rattle.rbac_match.proofs.RuleMessages.{rules_unique as rules_one}
use Rattle.attributes.specs.Limits.{LimitsValue}
use Rattle.cel_tree.specs.Checked.{CelChecked}
use Rattle.cel_tree.specs.Message.{ExprParts}
use Rattle.cel_read.proofs.CheckedLaws.{expr_unique}
use Rattle.cost_bound.specs.declared.budget.Budget.{Budget}
use Rattle.rbac_policy.specs.Admission.{Admits}
use Rattle.rbac_policy.specs.Condition.{Program}
use Rattle.rbac_policy.specs.Enforced.{Enforces}
use Rattle.rbac_policy.specs.Filter.{Policy, Filter}
use Rattle.attributes.specs.Headers.{name_cmp}
use Rattle.rbac_policy.specs.Keys.{policy_field, rules_field, filter_field, rules_keys}
use Rattle.rbac_policy.specs.Message.{rule_depth, IsCondition, IsPolicy, condition_in, action_number, AreFilterRules, IsFilter}
use Rattle.rbac_policy.specs.declared.filter.Action.{Action}
use Rattle.rbac_policy.specs.declared.filter.Action.TheVariants.{Allow, Deny, Log}
use Rattle.proto_wire.specs.Maps.{text}
use Rattle.proto_wire.proofs.WholeMaps.{map_unique}
use Rattle.rbac_policy.proofs.Enforcing.{enforces_unique}

-- payloads have one condition, or none
condition_unique : (parts : ExprParts) (x y : Option CelChecked) → IsCondition parts x → IsCondition parts y → x ≡ y
condition_unique parts None None a b = refl
condition_unique parts None (Some d) a b = absurd (a b.0)
condition_unique parts (Some c) None a b = absurd (b a.0)
condition_unique parts (Some c) (Some d) a b = ap Some (expr_unique parts c d a.1 b.1)

-- payloads merge to one policy
module _ (parts : List (List ℕ)) (p q : Policy CelChecked) (a : IsPolicy parts p) (b : IsPolicy parts q) where
  -- what the same fields say of one side is the same
  side_unique : (side : Side) (k : ℕ) (x y : Formulas)
      → AreRules (IsRule side rule_depth) (payloads k a.fs) x → AreRules (IsRule side rule_depth) (payloads k b.fs) y → x ≡ y
  side_unique side k x y says also =
      let P : List Wire → Type 0 = λ fs. AreRules (IsRule side rule_depth) (payloads k fs) y in
      rules_one side rule_depth (payloads k a.fs) x y says
      (subst P (merges_unique parts b.fs a.fs b.message.0 a.message.0) also)

  policy_unique : p ≡ q
  policy_unique =
      let permissions : p.permissions ≡ q.permissions = side_unique Permission policy_field.permissions p.permissions q.permissions a.permissions b.permissions in
      let principals : p.principals ≡ q.principals = side_unique Principal policy_field.principals p.principals q.principals a.principals b.principals in
      let P : List Wire → Type 0 = λ fs. IsCondition (condition_in fs) q.condition in
      let condition : p.condition ≡ q.condition = condition_unique (condition_in a.fs) p.condition q.condition a.condition
      (subst P (merges_unique parts b.fs a.fs b.message.0 a.message.0) b.condition) in
      λ i. record { permissions = permissions i; principals = principals i; condition = condition i }

-- a number is that of one action
action_unique : (x y : Action) → action_number x ≡ action_number y → x ≡ y
action_unique Allow Allow e = refl
action_unique Deny Deny e = refl
action_unique Log Log e = refl
action_unique Allow Deny e = absurd (omega (arith, e))
action_unique Allow Log e = absurd (omega (arith, e))
action_unique Deny Allow e = absurd (omega (arith, e))
action_unique Deny Log e = absurd (omega (arith, e))
action_unique Log Allow e = absurd (omega (arith, e))
action_unique Log Deny e = absurd (omega (arith, e))

-- fields are the rules of one filter
rules_unique : (fs : List Wire) (f g : Filter CelChecked) → AreFilterRules fs f → AreFilterRules fs g → f ≡ g
rules_unique fs f g a b =
    let make : Action → FinMap name_cmp (Policy CelChecked) → Filter CelChecked = λ x m. record { action = x; policies = m } in
    ap₂ make (action_unique f.action g.action (sym a.action ∙ b.action))
    (map_unique text IsPolicy policy_unique (payloads rules_field.policies fs) f.policies g.policies a.policies b.policies)

-- bytes are the message of one filter
pub filter_unique : (bytes : List ℕ) (f g : Filter CelChecked) → IsFilter bytes f → IsFilter bytes g → f ≡ g
filter_unique bytes f g a b =
    let P : List Wire → Type 0 = λ top. IsMessage rules_keys (payloads filter_field.rules top) b.fs in
    let top : b.top ≡ a.top = merges_unique (bytes ∷ []) b.top a.top b.message.0 a.message.0 in
    let same : b.fs ≡ a.fs = merges_unique (payloads filter_field.rules a.top) b.fs a.fs (subst P top b.inner).0 a.inner.0 in
    let Q : List Wire → Type 0 = λ fs. AreFilterRules fs g in
    rules_unique a.fs f g a.rules (subst Q same b.rules)

-- bytes are admitted as one filter, of which one thing is enforced
pub admits_unique : (bytes : List ℕ) (limits : LimitsValue) (budget : Budget) (f f' : Filter CelChecked)
    (g g' : Filter Program) → Admits bytes limits budget f g → Admits bytes limits budget f' g'
    → (f ≡ f') × (g ≡ g')
admits_unique bytes limits budget f f' g g' a b =
    let same : f ≡ f' = filter_unique bytes f f' a.admissible.message b.admissible.message in
    (same, enforces_unique limits f' g g' (subst (λ x. Enforces limits x g) same a.enforces) b.enforces)
