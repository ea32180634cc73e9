use Rattle.std.proofs.Common.{map, sym, ap}
use Rattle.proto_wire.specs.Fields.{field_view}
use Rattle.proto_wire.specs.Values.{payloads}
use Rattle.rbac_policy.specs.Keys.{policy_field}
use Rattle.rbac_policy.specs.Places.{condition_field}
use Rattle.rbac_policy.proofs.ConditionParts.{checked_first, unchecked_then}
use Rattle.rbac_policy.proofs.policy.condition_number.Goals as goal

pub returns-then-has_payload : goal.returns-then-has_payload
returns-then-has_payload c =
    let fs = map field_view c.args.fields.now in
    sym (ap condition_field (checked_first (payloads policy_field.checked_condition fs) (payloads policy_field.condition fs) c.if-has_payload.ensures))

pub returns : goal.returns
returns c =
    let fs = map field_view c.args.fields.now in
    sym (ap condition_field (unchecked_then (payloads policy_field.checked_condition fs) (payloads policy_field.condition fs) c.if-has_payload.ensures))
