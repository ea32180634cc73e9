use Rattle.std.proofs.Common.{◌≡◌, ◌≢◌, ◌≤◌, ◌⊎◌, ◌∷◌, [], ℕ, List, Ok, Err, map, inl, inr, refl, ap, ◌∙◌}
use Rattle.std.specs.FinMap.{entries}
use Rattle.attributes.specs.Limits.{LimitsValue}
use Rattle.cel_tree.specs.Checked.{CelChecked}
use Rattle.proto_wire.specs.Maps.{Entry, text, Readable, map_of}
use Rattle.proto_wire.specs.declared.refusal.Refusal.{Refusal}
use Rattle.std.proofs.lemmas.Result.{MatchResult-weaker}
use Rattle.proto_wire.specs.Fields.{Wire, field_view}
use Rattle.proto_wire.specs.Values.{payloads}
use Rattle.proto_wire.specs.Merge.{parts_view}
use Rattle.proto_wire.specs.Messages.{IsMessage, MessageFault}
use Rattle.proto_wire.specs.Places.{FaultOr}
use Rattle.proto_wire.specs.declared.refusal.Refusal.TheVariants.{Missing}
use Rattle.proto_wire.proofs.Messages.{no_steps}
use Rattle.proto_wire.proofs.PlaceExits.{exit_known, exit_memory_or, exit_with, placed_fault, placed_found}
use Rattle.rbac_policy.specs.Keys.{filter_keys, rules_keys, filter_field, rules_field}
use Rattle.cost_bound.specs.Budgets.{Covers}
use Rattle.cost_bound.specs.declared.budget.Budget.{Budget}
use Rattle.rbac_policy.specs.Admission.{Admits}
use Rattle.rbac_policy.specs.Budget.{OverAt}
use Rattle.rbac_policy.specs.Admitted.{filter_rules_view}
use Rattle.rbac_policy.specs.Enforced.{Enforces, total_needs}
use Rattle.rbac_policy.specs.Filter.{Filter}
use Rattle.rbac_policy.specs.Message.{AreFilterRules}
use Rattle.rbac_policy.specs.private.Conditions.{ConditionsFault}
use Rattle.rbac_policy.specs.Places.{PlacedOr, of_filter, of_rules}
use Rattle.rbac_policy.proofs.Enforcing.{enforced_costs}
use Rattle.rbac_policy.proofs.Places.{OverInParts, exit_at, exit_here, fields_placed, from_fields, or_part, rules_out}
use Rattle.rbac_policy.proofs.Spending.{both_ok}
use Rattle.rbac_policy.specs.Fault.{FilterFault, HoldsPolicies, RulesFault, filter_fields, no_rules, rules_fields, in_rules}
use Rattle.rbac_policy.proofs.admission.read_filter.Goals as goal

-- what is wrong with the filter
abbrev Fails : List ℕ → LimitsValue → Budget → Refusal → Type 0
Fails bytes limits budget e = FilterFault bytes e ⊎ ((policies : List (Entry text)) × HoldsPolicies bytes policies
    × ConditionsFault policies limits budget e)

pub returns-in_err-top-clause-fault : goal.returns-in_err-top-clause-fault
returns-in_err-top-clause-fault c =
    exit_memory_or (MessageFault filter_keys (c.args.bytes.now ∷ [])) (Fails c.args.bytes.now c.args.limits.now c.args.left.now)
    c.from_residual.result c.in_err-top.field-0.0 c.from_residual.ensures.1 c.in_err-top.ensures.fault
    (λ e bad. inl (filter_fields bad))

pub returns-in_err-require_rules-clause-fault : goal.returns-in_err-require_rules-clause-fault
returns-in_err-require_rules-clause-fault c =
    let top : List Wire = map field_view c.in_ok-top.top.items in
    let message : IsMessage filter_keys (c.args.bytes.now ∷ []) top = c.in_ok-top.ensures.found in
    let bad = c.in_err-require_rules.ensures.fault in
    let none : payloads filter_field.rules top ≡ [] = rw c.deref.ensures at bad.1 in
    exit_known (Fails c.args.bytes.now c.args.limits.now c.args.left.now)
    c.from_residual-in_err-require_rules.result c.in_err-require_rules.field-0.0 c.from_residual-in_err-require_rules.ensures.1
    (inl (no_rules top message none bad.0.0))

pub returns-in_err-fields-clause-fault : goal.returns-in_err-fields-clause-fault
returns-in_err-fields-clause-fault c =
    let top : List Wire = map field_view c.in_ok-top.top.items in
    let there : payloads filter_field.rules top ≢ [] = rw c.deref.ensures at c.in_ok-require_rules.ensures.found in
    let parts : parts_view c.deref-3.result.now ≡ payloads filter_field.rules top = ap parts_view c.deref-3.ensures ∙ (rw c.deref-2.ensures at c.in_ok-parts.ensures) in
    exit_with (FaultOr (Fails c.args.bytes.now c.args.limits.now c.args.left.now)) c.from_residual-in_err-fields.result c.in_err-fields.field-0.0
    c.from_residual-in_err-fields.ensures.1
    (placed_fault (MessageFault rules_keys (payloads filter_field.rules top)) (Fails c.args.bytes.now c.args.limits.now c.args.left.now)
    filter_field.rules 0 c.read_message_at-2.result (Err c.in_err-fields.field-0.0) c.in_err-fields.ensures
    (rw parts at c.read_message_at-2.ensures.fault)
    (λ e bad. inl (rules_fields top c.in_ok-top.ensures.found.0 there bad)))

pub returns-clause-fault : goal.returns-clause-fault
returns-clause-fault c =
    let top : List Wire = map field_view c.in_ok-top.top.items in
    let fs : List Wire = map field_view c.in_ok-fields.fields.items in
    let there : payloads filter_field.rules top ≢ [] = rw c.deref.ensures at c.in_ok-require_rules.ensures.found in
    let parts : parts_view c.deref-3.result.now ≡ payloads filter_field.rules top = ap parts_view c.deref-3.ensures ∙ (rw c.deref-2.ensures at c.in_ok-parts.ensures) in
    let inner : IsMessage rules_keys (payloads filter_field.rules top) fs = rw parts at (placed_found (λ v. IsMessage rules_keys (parts_view c.deref-3.result.now) (map field_view v.items)) filter_field.rules 0
    c.read_message_at-2.result (Ok c.in_ok-fields.fields) c.in_ok-fields.ensures c.read_message_at-2.ensures.found) in
    placed_fault (λ d. RulesFault fs d ⊎ ((read : List (Entry text)) × Readable text (payloads rules_field.policies fs) read × ConditionsFault (entries (map_of text read)) c.args.limits.now c.args.left.now d))
    (Fails c.args.bytes.now c.args.limits.now c.args.left.now) filter_field.rules 0 c.read_rules.result c.inside_field-2.result c.inside_field-2.ensures
    (rw c.deref-4.ensures at c.read_rules.ensures.fault)
    (λ d bad. elim bad [
      | inl own ↦ inl (in_rules top fs c.in_ok-top.ensures.found.0 there inner.0 own)
      | inr (read, readable, cost) ↦ inr (
        entries (map_of text read),
        record {
          top = top;
          fs = fs;
          read = read;
          outer = c.in_ok-top.ensures.found.0;
          inner = inner.0;
          readable = readable;
          named = refl;
        },
        cost,
      )
    ])

pub returns-clause-found : goal.returns-clause-found
returns-clause-found c =
    let top : List Wire = map field_view c.in_ok-top.top.items in
    let fs : List Wire = map field_view c.in_ok-fields.fields.items in
    let there : payloads filter_field.rules top ≢ [] = rw c.deref.ensures at c.in_ok-require_rules.ensures.found in
    let parts : parts_view c.deref-3.result.now ≡ payloads filter_field.rules top = ap parts_view c.deref-3.ensures ∙ (rw c.deref-2.ensures at c.in_ok-parts.ensures) in
    let message : IsMessage filter_keys (c.args.bytes.now ∷ []) top = c.in_ok-top.ensures.found in
    let inner : IsMessage rules_keys (payloads filter_field.rules top) fs = rw parts at (placed_found (λ v. IsMessage rules_keys (parts_view c.deref-3.result.now) (map field_view v.items)) filter_field.rules 0
    c.read_message_at-2.result (Ok c.in_ok-fields.fields) c.in_ok-fields.ensures c.read_message_at-2.ensures.found) in
    placed_found (λ rules. (filter : Filter CelChecked) × Admits c.args.bytes.now c.args.limits.now c.args.left.now filter (filter_rules_view rules))
    filter_field.rules 0 c.read_rules.result c.inside_field-2.result c.inside_field-2.ensures
    (both_ok (λ rules. (filter : Filter CelChecked) × AreFilterRules fs filter × Enforces c.args.limits.now filter (filter_rules_view rules))
    (λ rules. Covers c.args.left.now (total_needs (filter_rules_view rules)))
    (λ rules. (filter : Filter CelChecked) × Admits c.args.bytes.now c.args.limits.now c.args.left.now filter (filter_rules_view rules))
    c.read_rules.result (rw c.deref-4.ensures at c.read_rules.ensures.found) c.read_rules.ensures.covered
    (λ rules (filter, are, enforces) covered. (
      filter,
      record {
        admissible = record {
          message = record { top = top; fs = fs; message = message; there = there; inner = inner; rules = are };
          needs = total_needs (filter_rules_view rules);
          costs = enforced_costs c.args.limits.now filter (filter_rules_view rules) enforces;
          covered = covered;
        };
        enforces = enforces;
      },
    )))

pub returns-in_err-top-clause-place : goal.returns-in_err-top-clause-place
returns-in_err-top-clause-place c =
    let f = c.in_err-top.field-0.0 in
    exit_here (OverAt c.args.bytes.now c.args.limits.now c.args.left.now c.args.left.now) (of_filter c.args.bytes.now) c.from_residual.result f c.from_residual.ensures.1
    (no_steps _ _ f c.in_err-top.ensures.place)
    (or_part (OverAt c.args.bytes.now c.args.limits.now c.args.left.now c.args.left.now) (MessageFault filter_keys (c.args.bytes.now ∷ [])) (of_filter c.args.bytes.now) f
    (λ e bad. filter_fields bad) c.in_err-top.ensures.fault)

pub returns-in_err-require_rules-clause-place : goal.returns-in_err-require_rules-clause-place
returns-in_err-require_rules-clause-place c =
    let top : List Wire = map field_view c.in_ok-top.top.items in
    let message : IsMessage filter_keys (c.args.bytes.now ∷ []) top = c.in_ok-top.ensures.found in
    let bad = c.in_err-require_rules.ensures.fault in
    let none : payloads filter_field.rules top ≡ [] = rw c.deref.ensures at bad.1 in
    exit_at (OverAt c.args.bytes.now c.args.limits.now c.args.left.now c.args.left.now) (of_filter c.args.bytes.now) filter_field.rules Missing c.from_residual-in_err-require_rules.result
    c.in_err-require_rules.field-0.0 c.from_residual-in_err-require_rules.ensures.1 bad.0 (no_rules top message none refl)

pub returns-in_err-fields-clause-place : goal.returns-in_err-fields-clause-place
returns-in_err-fields-clause-place c =
    let top : List Wire = map field_view c.in_ok-top.top.items in
    let message : IsMessage filter_keys (c.args.bytes.now ∷ []) top = c.in_ok-top.ensures.found in
    let there : payloads filter_field.rules top ≢ [] = rw c.deref.ensures at c.in_ok-require_rules.ensures.found in
    let parts : parts_view c.deref-3.result.now ≡ payloads filter_field.rules top = ap parts_view c.deref-3.ensures ∙ (rw c.deref-2.ensures at c.in_ok-parts.ensures) in
    exit_with (PlacedOr (OverAt c.args.bytes.now c.args.limits.now c.args.left.now c.args.left.now) (of_filter c.args.bytes.now)) c.from_residual-in_err-fields.result c.in_err-fields.field-0.0
    c.from_residual-in_err-fields.ensures.1
    (rules_out c.args.limits.now c.args.left.now c.args.left.now c.args.bytes.now top c.read_message_at-2.result (Err c.in_err-fields.field-0.0) message.0 there c.in_err-fields.ensures
    (fields_placed (OverInParts c.args.limits.now c.args.left.now c.args.left.now (payloads filter_field.rules top)) rules_keys (payloads filter_field.rules top) (of_rules (payloads filter_field.rules top)) c.read_message_at-2.result
    (rw parts at c.read_message_at-2.ensures.fault) (rw parts at c.read_message_at-2.ensures.place) (λ e bad. inl bad)))

pub returns-clause-place : goal.returns-clause-place
returns-clause-place c =
    let top : List Wire = map field_view c.in_ok-top.top.items in
    let fs : List Wire = map field_view c.in_ok-fields.fields.items in
    let message : IsMessage filter_keys (c.args.bytes.now ∷ []) top = c.in_ok-top.ensures.found in
    let there : payloads filter_field.rules top ≢ [] = rw c.deref.ensures at c.in_ok-require_rules.ensures.found in
    let parts : parts_view c.deref-3.result.now ≡ payloads filter_field.rules top = ap parts_view c.deref-3.ensures ∙ (rw c.deref-2.ensures at c.in_ok-parts.ensures) in
    let inner : IsMessage rules_keys (payloads filter_field.rules top) fs =
    rw parts at (placed_found (λ v. IsMessage rules_keys (parts_view c.deref-3.result.now) (map field_view v.items)) filter_field.rules 0
    c.read_message_at-2.result (Ok c.in_ok-fields.fields) c.in_ok-fields.ensures c.read_message_at-2.ensures.found) in
    rules_out c.args.limits.now c.args.left.now c.read_rules.new.left c.args.bytes.now top c.read_rules.result c.inside_field-2.result message.0 there c.inside_field-2.ensures
    (MatchResult-weaker c.read_rules.result (rw c.deref-4.ensures at c.read_rules.ensures.place) (λ x h. h)
    (λ f bad. from_fields c.args.limits.now c.args.left.now c.read_rules.new.left (payloads filter_field.rules top) fs f inner.0 bad))
