use Rattle.std.proofs.Common.{◌≡◌, List, map, refl}
use Rattle.proto_wire.specs.Fields.{Wire, field_view}
use Rattle.proto_wire.specs.Values.{payloads}
use Rattle.cel_tree.specs.Message.{checked_parts, unchecked_parts}
use Rattle.rbac_policy.specs.Keys.{policy_field}
use Rattle.rbac_policy.specs.Message.{condition_in}
use Rattle.rbac_policy.proofs.ConditionParts.{checked_first, unchecked_then}
use Rattle.rbac_policy.proofs.policy.of_expr.Goals as goal

pub returns-then-has_payload : goal.returns-then-has_payload
returns-then-has_payload c =
    let fs : List Wire = map field_view c.args.fields.now in
    let one : condition_in fs ≡ checked_parts (payloads policy_field.checked_condition fs) =
    checked_first (payloads policy_field.checked_condition fs) (payloads policy_field.condition fs) c.if-has_payload.ensures in
    rw one (c.inside.ensures.0, c.inside.ensures.1)

pub returns : goal.returns
returns c =
    let fs : List Wire = map field_view c.args.fields.now in
    let one : condition_in fs ≡ unchecked_parts (payloads policy_field.condition fs) =
    unchecked_then (payloads policy_field.checked_condition fs) (payloads policy_field.condition fs) c.if-has_payload.ensures in
    rw one (refl, refl)
