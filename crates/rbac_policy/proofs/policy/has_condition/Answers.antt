use Rattle.std.proofs.Common.{map}
use Rattle.proto_wire.specs.Fields.{field_view}
use Rattle.proto_wire.specs.Values.{payloads}
use Rattle.rbac_policy.specs.Keys.{policy_field}
use Rattle.rbac_policy.proofs.ConditionParts.{checked_present, present_where}
use Rattle.rbac_policy.proofs.policy.has_condition.Goals as goal

pub returns-then-has_payload : goal.returns-then-has_payload
returns-then-has_payload c =
    let fs = map field_view c.args.fields.now in
    checked_present (payloads policy_field.checked_condition fs) (payloads policy_field.condition fs) c.if-has_payload.ensures

pub returns : goal.returns
returns c =
    let fs = map field_view c.args.fields.now in
    present_where c.has_payload-2.result (payloads policy_field.checked_condition fs) (payloads policy_field.condition fs)
    c.if-has_payload.ensures c.has_payload-2.ensures
