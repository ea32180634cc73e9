use Rattle.std.proofs.Common.{ℕ, ◌++◌, refl, ◌⊎◌, inl, List, [], ◌∷◌, map, option_map}
use Rattle.attributes.specs.Limits.{LimitsValue}
use Rattle.proto_wire.specs.Fields.{Wire, field_view}
use Rattle.proto_wire.specs.Values.{payloads}
use Rattle.proto_wire.specs.Merge.{parts_view}
use Rattle.proto_wire.specs.Messages.{IsMessage, MessageFault}
use Rattle.proto_wire.specs.declared.refusal.Refusal.{Refusal}
use Rattle.proto_wire.proofs.Messages.{no_steps}
use Rattle.proto_wire.proofs.PlaceExits.{exit_memory_or, exit_new, exit_with}
use Rattle.rbac_match.specs.Rules.{AreRules, IsRule, SomeRuleFault}
use Rattle.rbac_match.specs.View.{rules_view}
use Rattle.rbac_match.specs.declared.rule.Side.TheVariants.{Permission, Principal}
use Rattle.rbac_match.proofs.Adding.{goes_on_more, stays}
use Rattle.rbac_match.proofs.Places.{some_fault}
use Rattle.rbac_policy.specs.Keys.{policy_keys, policy_field}
use Rattle.cel_tree.specs.Message.{ExprParts, ArePresent}
use Rattle.rbac_policy.specs.Message.{rule_depth, condition_in}
use Rattle.rbac_policy.specs.Fault.{PolicyFault, policy_fields, lacks_side, both_conditions, in_permission, in_principal}
use Rattle.cost_bound.specs.declared.budget.Budget.{Budget}
use Rattle.rbac_policy.specs.Budget.{OverInPolicy}
use Rattle.rbac_policy.specs.Named.{program_view}
use Rattle.rbac_policy.specs.Places.{PlacedOr, of_policy}
use Rattle.rbac_policy.specs.private.Conditions.{ConditionFault, ConditionsFault, HasProgram}
use Rattle.rbac_policy.proofs.Places.{exit_here, exit_own, from_conditions, from_side, or_part}
use Rattle.rbac_policy.proofs.Spending.{condition_fails}
use Rattle.rbac_policy.proofs.policy.read_policy.Goals as goal

-- what is wrong with the policy
abbrev Fails : List ℕ → List (List ℕ) → LimitsValue → Budget → Refusal → Type 0
Fails name parts limits left e = PolicyFault parts e ⊎ ConditionsFault ((name, parts) ∷ []) limits left e

pub returns-in_err-fields-clause-fault : goal.returns-in_err-fields-clause-fault
returns-in_err-fields-clause-fault c =
    exit_memory_or (MessageFault policy_keys (parts_view c.args.parts.now)) (Fails c.args.name.now (parts_view c.args.parts.now) c.args.limits.now c.args.left)
    c.from_residual.result c.in_err-fields.field-0.0 c.from_residual.ensures.1 c.in_err-fields.ensures.fault
    (λ e bad. inl (policy_fields bad))

pub returns-in_err-refuse_both-clause-fault : goal.returns-in_err-refuse_both-clause-fault
returns-in_err-refuse_both-clause-fault c =
    let F = Fails c.args.name.now (parts_view c.args.parts.now) c.args.limits.now c.args.left in
    let fs : List Wire = map field_view c.in_ok-fields.fields.items in
    let bad = rw c.deref.ensures at c.in_err-refuse_both.ensures.fault in
    exit_new F c.from_residual-in_err-refuse_both.result _ c.from_residual-in_err-refuse_both.ensures.1
    (inl (both_conditions fs c.in_ok-fields.ensures.found.0 bad.1 bad.2 bad.0))

pub returns-in_err-require_sides-clause-fault : goal.returns-in_err-require_sides-clause-fault
returns-in_err-require_sides-clause-fault c =
    let F = Fails c.args.name.now (parts_view c.args.parts.now) c.args.limits.now c.args.left in
    let fs : List Wire = map field_view c.in_ok-fields.fields.items in
    let message : IsMessage policy_keys (parts_view c.args.parts.now) fs = c.in_ok-fields.ensures.found in
    let bad = rw c.deref-2.ensures at c.in_err-require_sides.ensures.fault in
    exit_new F c.from_residual-in_err-require_sides.result _ c.from_residual-in_err-require_sides.ensures.1
    (inl (lacks_side fs message bad.0 bad.1))

pub returns-in_err-permissions-clause-fault : goal.returns-in_err-permissions-clause-fault
returns-in_err-permissions-clause-fault c =
    let fs : List Wire = map field_view c.in_ok-fields.fields.items in
    exit_memory_or (SomeRuleFault Permission rule_depth (payloads policy_field.permissions fs)) (Fails c.args.name.now (parts_view c.args.parts.now) c.args.limits.now c.args.left)
    c.from_residual-in_err-permissions.result c.in_err-permissions.field-0.0 c.from_residual-in_err-permissions.ensures.1
    (some_fault Permission rule_depth policy_field.permissions fs c.in_err-permissions.field-0.0 (rw c.deref-3.ensures at c.in_err-permissions.ensures.fault))
    (λ e bad. inl (in_permission fs c.in_ok-fields.ensures.found.0 bad))

pub returns-in_err-principals-clause-fault : goal.returns-in_err-principals-clause-fault
returns-in_err-principals-clause-fault c =
    let fs : List Wire = map field_view c.in_ok-fields.fields.items in
    exit_memory_or (SomeRuleFault Principal rule_depth (payloads policy_field.principals fs)) (Fails c.args.name.now (parts_view c.args.parts.now) c.args.limits.now c.args.left)
    c.from_residual-in_err-principals.result c.in_err-principals.field-0.0 c.from_residual-in_err-principals.ensures.1
    (some_fault Principal rule_depth policy_field.principals fs c.in_err-principals.field-0.0 (rw c.deref-4.ensures at c.in_err-principals.ensures.fault))
    (λ e bad. inl (in_principal fs c.in_ok-fields.ensures.found.0 bad))

pub returns-in_err-condition-clause-fault : goal.returns-in_err-condition-clause-fault
returns-in_err-condition-clause-fault c =
    let fs : List Wire = map field_view c.in_ok-fields.fields.items in
    let given : ExprParts = condition_in fs in
    exit_memory_or (λ e. ArePresent given × ConditionFault given c.args.limits.now c.args.left e) (Fails c.args.name.now (parts_view c.args.parts.now) c.args.limits.now c.args.left)
    c.from_residual-in_err-condition.result c.in_err-condition.field-0.0 c.from_residual-in_err-condition.ensures.1
    (rw c.deref-5.ensures at c.in_err-condition.ensures.fault)
    (λ e bad. condition_fails c.args.limits.now c.args.name.now (parts_view c.args.parts.now) c.args.left e fs c.in_ok-fields.ensures.found.0 bad.0 bad.1)

pub returns-clause-found : goal.returns-clause-found
returns-clause-found c =
    let fs : List Wire = map field_view c.in_ok-fields.fields.items in
    let has : HasProgram c.args.limits.now (condition_in fs) (option_map program_view c.in_ok-condition.condition) =
    rw c.deref-5.ensures at c.in_ok-condition.ensures.found in
    let first = rw c.deref-3.ensures at c.in_ok-permissions.ensures.found in
    let second = rw c.deref-4.ensures at c.in_ok-principals.ensures.found in
    λ more. (
      record {
        permissions = rules_view (c.read_rules_at-2.new.list ++ more) c.in_ok-permissions.permissions;
        principals = rules_view (c.read_rules_at-2.new.list ++ more) c.in_ok-principals.principals;
        condition = has.0;
      },
      record {
        fs = fs;
        message = c.in_ok-fields.ensures.found;
        one = rw c.deref.ensures at c.in_ok-refuse_both.ensures.found;
        condition = has.1;
        sides = rw c.deref-2.ensures at c.in_ok-require_sides.ensures.found;
        permissions = stays c.read_rules_at.new.list c.read_rules_at-2.new.list more
            (λ list. AreRules (IsRule Permission rule_depth) (payloads policy_field.permissions fs) (rules_view list c.in_ok-permissions.permissions))
            c.in_ok-principals.ensures.kept first;
        principals = second more;
      },
      record { permissions = refl; principals = refl; condition = has.2 },
    )

pub returns-clause-kept : goal.returns-clause-kept
returns-clause-kept c = goes_on_more c.args.list.now c.read_rules_at.new.list c.read_rules_at-2.new.list c.in_ok-permissions.ensures.kept c.in_ok-principals.ensures.kept

pub returns-in_err-fields-clause-place : goal.returns-in_err-fields-clause-place
returns-in_err-fields-clause-place c =
    let parts : List (List ℕ) = parts_view c.args.parts.now in
    exit_here (OverInPolicy c.args.limits.now c.args.left (parts_view c.args.parts.now)) (of_policy parts) c.from_residual.result c.in_err-fields.field-0.0 c.from_residual.ensures.1
    (no_steps _ _ c.in_err-fields.field-0.0 c.in_err-fields.ensures.place)
    (or_part (OverInPolicy c.args.limits.now c.args.left (parts_view c.args.parts.now)) (MessageFault policy_keys parts) (of_policy parts) c.in_err-fields.field-0.0 (λ d bad. policy_fields bad) c.in_err-fields.ensures.fault)

pub returns-in_err-refuse_both-clause-place : goal.returns-in_err-refuse_both-clause-place
returns-in_err-refuse_both-clause-place c =
    let fs : List Wire = map field_view c.in_ok-fields.fields.items in
    let bad = rw c.deref.ensures at c.in_err-refuse_both.ensures.fault in
    exit_own (OverInPolicy c.args.limits.now c.args.left (parts_view c.args.parts.now)) (of_policy (parts_view c.args.parts.now)) c.from_residual-in_err-refuse_both.result _ c.from_residual-in_err-refuse_both.ensures.1
    (both_conditions fs c.in_ok-fields.ensures.found.0 bad.1 bad.2 bad.0)

pub returns-in_err-require_sides-clause-place : goal.returns-in_err-require_sides-clause-place
returns-in_err-require_sides-clause-place c =
    let fs : List Wire = map field_view c.in_ok-fields.fields.items in
    let message : IsMessage policy_keys (parts_view c.args.parts.now) fs = c.in_ok-fields.ensures.found in
    let bad = rw c.deref-2.ensures at c.in_err-require_sides.ensures.fault in
    exit_own (OverInPolicy c.args.limits.now c.args.left (parts_view c.args.parts.now)) (of_policy (parts_view c.args.parts.now)) c.from_residual-in_err-require_sides.result _ c.from_residual-in_err-require_sides.ensures.1
    (lacks_side fs message bad.0 bad.1)

pub returns-in_err-permissions-clause-place : goal.returns-in_err-permissions-clause-place
returns-in_err-permissions-clause-place c =
    let fs : List Wire = map field_view c.in_ok-fields.fields.items in
    exit_with (PlacedOr (OverInPolicy c.args.limits.now c.args.left (parts_view c.args.parts.now)) (of_policy (parts_view c.args.parts.now))) c.from_residual-in_err-permissions.result c.in_err-permissions.field-0.0
    c.from_residual-in_err-permissions.ensures.1
    (from_side (OverInPolicy c.args.limits.now c.args.left (parts_view c.args.parts.now)) Permission (parts_view c.args.parts.now) fs c.in_err-permissions.field-0.0 c.in_ok-fields.ensures.found.0
    (rw c.deref-3.ensures at c.in_err-permissions.ensures.fault))

pub returns-in_err-principals-clause-place : goal.returns-in_err-principals-clause-place
returns-in_err-principals-clause-place c =
    let fs : List Wire = map field_view c.in_ok-fields.fields.items in
    exit_with (PlacedOr (OverInPolicy c.args.limits.now c.args.left (parts_view c.args.parts.now)) (of_policy (parts_view c.args.parts.now))) c.from_residual-in_err-principals.result c.in_err-principals.field-0.0
    c.from_residual-in_err-principals.ensures.1
    (from_side (OverInPolicy c.args.limits.now c.args.left (parts_view c.args.parts.now)) Principal (parts_view c.args.parts.now) fs c.in_err-principals.field-0.0 c.in_ok-fields.ensures.found.0
    (rw c.deref-4.ensures at c.in_err-principals.ensures.fault))

pub returns-in_err-condition-clause-place : goal.returns-in_err-condition-clause-place
returns-in_err-condition-clause-place c =
    let fs : List Wire = map field_view c.in_ok-fields.fields.items in
    exit_with (PlacedOr (OverInPolicy c.args.limits.now c.args.left (parts_view c.args.parts.now)) (of_policy (parts_view c.args.parts.now))) c.from_residual-in_err-condition.result c.in_err-condition.field-0.0
    c.from_residual-in_err-condition.ensures.1
    (from_conditions c.args.limits.now c.args.left (parts_view c.args.parts.now) fs c.in_err-condition.field-0.0 c.in_ok-fields.ensures.found.0
    (rw c.deref-5.ensures at c.in_err-condition.ensures.place))
