use Rattle.std.proofs.Common.{◌≡◌, ◌≢◌, List, [], map, ap, ◌∙◌}
use Rattle.proto_wire.specs.Fields.{Wire, field_view}
use Rattle.proto_wire.specs.Values.{payloads}
use Rattle.proto_wire.specs.Merge.{parts_view}
use Rattle.cel_tree.specs.Message.{checked_parts, unchecked_parts}
use Rattle.rbac_policy.specs.Keys.{policy_field}
use Rattle.rbac_policy.specs.Message.{condition_in}
use Rattle.rbac_policy.proofs.ConditionParts.{checked_first, unchecked_then}
use Rattle.rbac_policy.proofs.policy.read_expr.Goals as goal

-- the condition is checked
is_checked : (fs : List Wire) → payloads policy_field.checked_condition fs ≢ []
    → condition_in fs ≡ checked_parts (payloads policy_field.checked_condition fs)
is_checked fs some = checked_first (payloads policy_field.checked_condition fs) (payloads policy_field.condition fs) some

-- the condition is unchecked
is_unchecked : (fs : List Wire) → payloads policy_field.checked_condition fs ≡ []
    → condition_in fs ≡ unchecked_parts (payloads policy_field.condition fs)
is_unchecked fs none = unchecked_then (payloads policy_field.checked_condition fs) (payloads policy_field.condition fs) none

pub returns-then-has_payload-clause-found : goal.returns-then-has_payload-clause-found
returns-then-has_payload-clause-found c =
    let fs : List Wire = map field_view c.args.fields.now in
    let parts : parts_view c.deref.result.now ≡ payloads policy_field.checked_condition fs = ap parts_view c.deref.ensures ∙ c.in_ok-parts.ensures in
    let one = is_checked fs c.if-has_payload.ensures in
    rw one (rw parts at c.read_checked_at.ensures.found)

pub returns-then-has_payload-clause-fault : goal.returns-then-has_payload-clause-fault
returns-then-has_payload-clause-fault c =
    let fs : List Wire = map field_view c.args.fields.now in
    let parts : parts_view c.deref.result.now ≡ payloads policy_field.checked_condition fs = ap parts_view c.deref.ensures ∙ c.in_ok-parts.ensures in
    let one = is_checked fs c.if-has_payload.ensures in
    rw one (rw parts at c.read_checked_at.ensures.fault)

pub returns-clause-found : goal.returns-clause-found
returns-clause-found c =
    let fs : List Wire = map field_view c.args.fields.now in
    let parts : parts_view c.deref-2.result.now ≡ payloads policy_field.condition fs = ap parts_view c.deref-2.ensures ∙ c.in_ok-parts-2.ensures in
    let one = is_unchecked fs c.if-has_payload.ensures in
    rw one (rw parts at c.read_unchecked_at.ensures.found)

pub returns-clause-fault : goal.returns-clause-fault
returns-clause-fault c =
    let fs : List Wire = map field_view c.args.fields.now in
    let parts : parts_view c.deref-2.result.now ≡ payloads policy_field.condition fs = ap parts_view c.deref-2.ensures ∙ c.in_ok-parts-2.ensures in
    let one = is_unchecked fs c.if-has_payload.ensures in
    rw one (rw parts at c.read_unchecked_at.ensures.fault)

pub returns-then-has_payload-clause-place : goal.returns-then-has_payload-clause-place
returns-then-has_payload-clause-place c =
    let fs : List Wire = map field_view c.args.fields.now in
    let parts : parts_view c.deref.result.now ≡ payloads policy_field.checked_condition fs = ap parts_view c.deref.ensures ∙ c.in_ok-parts.ensures in
    let one = is_checked fs c.if-has_payload.ensures in
    rw one (rw parts at c.read_checked_at.ensures.place)

pub returns-clause-place : goal.returns-clause-place
returns-clause-place c =
    let fs : List Wire = map field_view c.args.fields.now in
    let parts : parts_view c.deref-2.result.now ≡ payloads policy_field.condition fs = ap parts_view c.deref-2.ensures ∙ c.in_ok-parts-2.ensures in
    let one = is_unchecked fs c.if-has_payload.ensures in
    rw one (rw parts at c.read_unchecked_at.ensures.place)
