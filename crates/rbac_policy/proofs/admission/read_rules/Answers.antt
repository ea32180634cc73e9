use Rattle.std.proofs.Common.{◌≡◌, ◌<◌, ◌≤◌, ◌⊎◌, ℕ, List, T, inl, inr, map, length, refl, sym, ap, subst, arith, ◌∙◌}
use Rattle.std.proofs.lemmas.List.{length-map}
use Rattle.std.specs.FinMap.{FinMap, entries, entries_sorted, from_entries, is_sorted, len, len-entries}
use Rattle.attributes.specs.Headers.{name_cmp}
use Rattle.attributes.specs.Limits.{LimitsValue}
use Rattle.proto_wire.specs.Fields.{Wire, field_view}
use Rattle.proto_wire.specs.Values.{payloads}
use Rattle.proto_wire.specs.Merge.{parts_view}
use Rattle.proto_wire.specs.declared.refusal.Refusal.{Refusal}
use Rattle.proto_wire.specs.declared.refusal.Refusal.TheVariants.{OutOfRange, TooLarge, Unsupported}
use Rattle.proto_wire.proofs.Exits.{memory_or_weaker}
use Rattle.proto_wire.proofs.PlaceExits.{exit_known, exit_memory_or, exit_new_or, exit_with}
use Rattle.cost_bound.specs.declared.budget.Budget.{Budget}
use Rattle.rbac_policy.specs.Admitted.{filter_rules_view}
use Rattle.rbac_policy.specs.Budget.{OverInRules}
use Rattle.rbac_policy.specs.Condition.{Program}
use Rattle.rbac_policy.specs.Enforced.{policies_need, total_needs}
use Rattle.rbac_policy.specs.Filter.{Policy}
use Rattle.rbac_policy.specs.Keys.{rules_field}
use Rattle.rbac_policy.specs.Message.{IsPolicy, most_policies}
use Rattle.rbac_policy.specs.Fault.{PolicyFault, RulesFault, audited, bad_action, in_policies, too_many}
use Rattle.rbac_policy.specs.Named.{named_views}
use Rattle.rbac_policy.specs.Places.{FieldsOr}
use Rattle.rbac_policy.specs.private.Conditions.{ConditionsFault, IsEnforced}
use Rattle.proto_wire.specs.Maps.{Entry, text, AreEntries, Readable, map_of, SomeEntryFault, SomeValueFault, in_entry, in_value}
use Rattle.proto_wire.specs.private.Maps.{Held}
use Rattle.proto_wire.proofs.MapLaws.{entries_readable}
use Rattle.proto_wire.proofs.MapValues.{held_ordered, held_are_values}
use Rattle.rbac_policy.proofs.Besides.{sorted_beside}
use Rattle.rbac_policy.proofs.Enforcing.{apart, filter_enforced, total_of}
use Rattle.rbac_policy.proofs.Places.{fields_at, fields_in, fields_own}
use Rattle.rbac_policy.proofs.Totality.{as_many}
use Rattle.rbac_policy.proofs.admission.read_rules.Goals as goal

-- what is wrong with the rules
abbrev Fails : List Wire → LimitsValue → Budget → Refusal → Type 0
Fails fs limits budget e = RulesFault fs e ⊎ ((read : List (Entry text)) × Readable text (payloads rules_field.policies fs) read
    × ConditionsFault (entries (map_of text read)) limits budget e)

pub returns-in_err-refuse_audit_options-clause-fault : goal.returns-in_err-refuse_audit_options-clause-fault
returns-in_err-refuse_audit_options-clause-fault c =
    let bad = c.in_err-refuse_audit_options.ensures.fault in
    exit_known (Fails (map field_view c.args.fields.now) c.args.limits.now c.args.left.now) c.from_residual.result
    c.in_err-refuse_audit_options.field-0.0 c.from_residual.ensures.1 (inl (audited bad.1 bad.0.0))

pub returns-in_err-action-clause-fault : goal.returns-in_err-action-clause-fault
returns-in_err-action-clause-fault c =
    let bad = c.in_err-action.ensures in
    exit_known (Fails (map field_view c.args.fields.now) c.args.limits.now c.args.left.now) c.from_residual-in_err-action.result
    c.in_err-action.field-0.0 c.from_residual-in_err-action.ensures.1 (inl (bad_action bad.1 bad.0.0))

pub returns-in_err-named-clause-fault : goal.returns-in_err-named-clause-fault
returns-in_err-named-clause-fault c =
    let fs : List Wire = map field_view c.args.fields.now in
    let parts : parts_view c.deref.result.now ≡ payloads rules_field.policies fs = ap parts_view c.deref.ensures ∙ c.in_ok-entries.ensures in
    exit_new_or (SomeEntryFault text (payloads rules_field.policies fs)) (Fails fs c.args.limits.now c.args.left.now)
    c.from_residual-in_err-named.result _ c.from_residual-in_err-named.ensures.1 (rw parts at c.in_err-named.ensures.fault)
    (λ e bad. inl (in_policies (in_entry bad)))

pub returns-in_err-refuse_many-clause-fault : goal.returns-in_err-refuse_many-clause-fault
returns-in_err-refuse_many-clause-fault c =
    let F : Refusal → Type 0 = Fails (map field_view c.args.fields.now) c.args.limits.now c.args.left.now in
    let parts : parts_view c.deref.result.now ≡ payloads rules_field.policies (map field_view c.args.fields.now) = ap parts_view c.deref.ensures ∙ c.in_ok-entries.ensures in
    let es : List (Entry text) = c.in_ok-named.ensures.found.0 in
    let read : AreEntries text (payloads rules_field.policies (map field_view c.args.fields.now)) es = rw parts at c.in_ok-named.ensures.found.1 in
    let size : len (map_of text es) ≡ length c.in_ok-named.named.items = len-entries (map_of text es) ∙ ap length (sym c.in_ok-named.ensures.found.2) ∙ length-map c.in_ok-named.named.items _ in
    let bad = c.in_err-refuse_many.ensures.fault in
    let above : most_policies < c.len.result = bad.1 in
    let count : c.len.result ≡ length c.in_ok-named.named.items = c.len.ensures ∙ c.in_ok-named.named.ok.0 in
    let many : most_policies < len (map_of text es) = omega (arith, size, count, above) in
    exit_known F c.from_residual-in_err-refuse_many.result c.in_err-refuse_many.field-0.0 c.from_residual-in_err-refuse_many.ensures.1
    (inl (too_many es (entries_readable text _ es read) many bad.0.0))

pub returns-in_err-policies-clause-fault : goal.returns-in_err-policies-clause-fault
returns-in_err-policies-clause-fault c =
    let fs : List Wire = map field_view c.args.fields.now in
    let parts : parts_view c.deref.result.now ≡ payloads rules_field.policies fs = ap parts_view c.deref.ensures ∙ c.in_ok-entries.ensures in
    let es : List (Entry text) = c.in_ok-named.ensures.found.0 in
    let read : AreEntries text (payloads rules_field.policies fs) es = rw parts at c.in_ok-named.ensures.found.1 in
    let readable : Readable text (payloads rules_field.policies fs) es = entries_readable text _ es read in
    exit_memory_or (λ e. SomeValueFault text PolicyFault (entries (map_of text es)) e ⊎ ConditionsFault (entries (map_of text es)) c.args.limits.now c.args.left.now e)
    (Fails fs c.args.limits.now c.args.left.now)
    c.from_residual-in_err-policies.result c.in_err-policies.field-0.0 c.from_residual-in_err-policies.ensures.1
    (rw (c.deref-2.ensures.value, c.in_ok-named.ensures.found.2) at c.in_err-policies.ensures.fault)
    (λ e bad. elim bad [
      | inl own ↦ inl (in_policies (in_value es readable own))
      | inr cost ↦ inr (es, readable, cost)
    ])

pub read_policies-requires : goal.read_policies-requires
read_policies-requires c =
    rw (c.deref-2.ensures.value, c.in_ok-named.ensures.found.2) (entries_sorted (map_of text c.in_ok-named.ensures.found.0))

pub new-requires-clause-ordered : goal.new-requires-clause-ordered
new-requires-clause-ordered c = rw c.shrink.ensures (held_ordered text (IsEnforced c.args.limits.now) (map_of text c.in_ok-named.ensures.found.0) (named_views c.read_policies.new.list c.in_ok-policies.policies.items) (rw (c.deref-2.ensures.value, c.in_ok-named.ensures.found.2) at c.in_ok-policies.ensures.found))

pub new-requires-clause-bounded : goal.new-requires-clause-bounded
new-requires-clause-bounded c = rw c.shrink.ensures c.in_ok-policies.ensures.cost

pub new-requires-clause-indexed : goal.new-requires-clause-indexed
new-requires-clause-indexed c = rw c.deref-3.ensures.value at c.in_ok-policy_index.ensures

pub returns-clause-found : goal.returns-clause-found
returns-clause-found c =
    let parts : parts_view c.deref.result.now ≡ payloads rules_field.policies (map field_view c.args.fields.now) = ap parts_view c.deref.ensures ∙ c.in_ok-entries.ensures in
    let es : List (Entry text) = c.in_ok-named.ensures.found.0 in
    let vs : List (List ℕ × Policy Program) = named_views c.read_policies.new.list c.in_ok-policies.policies.items in
    let held : Held text (IsEnforced c.args.limits.now) (entries (map_of text es)) vs = rw (c.deref-2.ensures.value, c.in_ok-named.ensures.found.2) at c.in_ok-policies.ensures.found in
    let split = apart c.args.limits.now (entries (map_of text es)) vs held in
    let size : len (map_of text es) ≡ length c.in_ok-named.named.items = len-entries (map_of text es) ∙ ap length (sym c.in_ok-named.ensures.found.2) ∙ length-map c.in_ok-named.named.items _ in
    let count : c.len.result ≡ length c.in_ok-named.named.items = c.len.ensures ∙ c.in_ok-named.named.ok.0 in
    let values = held_are_values text IsPolicy (map_of text es) split.0 split.1 in
    let same = as_many (map_of text es) (from_entries split.0) values in (
      record { action = c.in_ok-action.action; policies = from_entries split.0 },
      record {
        unaudited = c.in_ok-refuse_audit_options.ensures.found;
        action = c.in_ok-action.ensures;
        policies = (es, rw parts at c.in_ok-named.ensures.found.1, values);
        few = (let few : c.len.result ≤ most_policies = c.in_ok-refuse_many.ensures.found in omega (arith, size, same, count, few));
      },
      rw (c.new.ensures, c.shrink.ensures) (filter_enforced c.args.limits.now c.in_ok-action.action split.0 vs split.2),
    )

pub returns-clause-covered : goal.returns-clause-covered
returns-clause-covered c =
    let es : List (Entry text) = c.in_ok-named.ensures.found.0 in
    let named : FinMap name_cmp (List (List ℕ)) = map_of text es in
    let vs : List (List ℕ × Policy Program) = named_views c.read_policies.new.list c.in_ok-policies.policies.items in
    let held : Held text (IsEnforced c.args.limits.now) (entries named) vs = rw (c.deref-2.ensures.value, c.in_ok-named.ensures.found.2) at c.in_ok-policies.ensures.found in
    let sorted : T (is_sorted name_cmp vs) = subst T (sorted_beside (IsEnforced c.args.limits.now) (entries named) vs held) (entries_sorted named) in
    let sum = total_of c.args.limits.now c.in_ok-action.action vs sorted in
    let total : total_needs (filter_rules_view c.new.result) ≡ policies_need vs = ap total_needs (rw c.shrink.ensures at c.new.ensures) ∙ sum in
    rw total c.in_ok-policies.ensures.covered

pub returns-in_err-refuse_audit_options-clause-place : goal.returns-in_err-refuse_audit_options-clause-place
returns-in_err-refuse_audit_options-clause-place c =
    let bad = c.in_err-refuse_audit_options.ensures.fault in
    fields_at (OverInRules c.args.limits.now c.args.left.now c.args.left.now (map field_view c.args.fields.now)) (map field_view c.args.fields.now) rules_field.audit_logging_options Unsupported c.from_residual.result
    c.in_err-refuse_audit_options.field-0.0 c.from_residual.ensures.1 bad.0 (audited bad.1 refl)

pub returns-in_err-action-clause-place : goal.returns-in_err-action-clause-place
returns-in_err-action-clause-place c =
    let bad = c.in_err-action.ensures in
    fields_at (OverInRules c.args.limits.now c.args.left.now c.args.left.now (map field_view c.args.fields.now)) (map field_view c.args.fields.now) rules_field.action OutOfRange c.from_residual-in_err-action.result
    c.in_err-action.field-0.0 c.from_residual-in_err-action.ensures.1 bad.0 (bad_action bad.1 refl)

pub returns-in_err-named-clause-place : goal.returns-in_err-named-clause-place
returns-in_err-named-clause-place c =
    let fs : List Wire = map field_view c.args.fields.now in
    let parts : parts_view c.deref.result.now ≡ payloads rules_field.policies fs = ap parts_view c.deref.ensures ∙ c.in_ok-entries.ensures in
    fields_own (OverInRules c.args.limits.now c.args.left.now c.args.left.now (map field_view c.args.fields.now)) fs c.from_residual-in_err-named.result _ c.from_residual-in_err-named.ensures.1
    (memory_or_weaker (SomeEntryFault text (payloads rules_field.policies fs)) (RulesFault fs) _ (λ e bad. in_policies (in_entry bad))
    (rw parts at c.in_err-named.ensures.fault))

pub returns-in_err-refuse_many-clause-place : goal.returns-in_err-refuse_many-clause-place
returns-in_err-refuse_many-clause-place c =
    let fs : List Wire = map field_view c.args.fields.now in
    let parts : parts_view c.deref.result.now ≡ payloads rules_field.policies fs = ap parts_view c.deref.ensures ∙ c.in_ok-entries.ensures in
    let es : List (Entry text) = c.in_ok-named.ensures.found.0 in
    let read : AreEntries text (payloads rules_field.policies fs) es = rw parts at c.in_ok-named.ensures.found.1 in
    let size : len (map_of text es) ≡ length c.in_ok-named.named.items = len-entries (map_of text es) ∙ ap length (sym c.in_ok-named.ensures.found.2) ∙ length-map c.in_ok-named.named.items _ in
    let bad = c.in_err-refuse_many.ensures.fault in
    let above : most_policies < c.len.result = bad.1 in
    let count : c.len.result ≡ length c.in_ok-named.named.items = c.len.ensures ∙ c.in_ok-named.named.ok.0 in
    let many : most_policies < len (map_of text es) = omega (arith, size, count, above) in
    fields_at (OverInRules c.args.limits.now c.args.left.now c.args.left.now (map field_view c.args.fields.now)) fs rules_field.policies TooLarge c.from_residual-in_err-refuse_many.result c.in_err-refuse_many.field-0.0
    c.from_residual-in_err-refuse_many.ensures.1 bad.0 (too_many es (entries_readable text _ es read) many refl)

pub returns-in_err-policies-clause-place : goal.returns-in_err-policies-clause-place
returns-in_err-policies-clause-place c =
    let fs : List Wire = map field_view c.args.fields.now in
    let parts : parts_view c.deref.result.now ≡ payloads rules_field.policies fs = ap parts_view c.deref.ensures ∙ c.in_ok-entries.ensures in
    let es : List (Entry text) = c.in_ok-named.ensures.found.0 in
    let read : AreEntries text (payloads rules_field.policies fs) es = rw parts at c.in_ok-named.ensures.found.1 in
    let readable : Readable text (payloads rules_field.policies fs) es = entries_readable text _ es read in
    exit_with (FieldsOr (OverInRules c.args.limits.now c.args.left.now c.read_policies.new.left fs) fs)
    c.from_residual-in_err-policies.result c.in_err-policies.field-0.0 c.from_residual-in_err-policies.ensures.1
    (fields_in c.args.limits.now c.args.left.now c.read_policies.new.left fs es c.in_err-policies.field-0.0 readable
    (rw (c.deref-2.ensures.value, c.in_ok-named.ensures.found.2) at c.in_err-policies.ensures.place))
