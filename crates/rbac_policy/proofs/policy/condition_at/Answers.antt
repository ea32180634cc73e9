use Rattle.std.proofs.Common.{map}
use Rattle.proto_wire.specs.Fields.{field_view}
use Rattle.rbac_policy.proofs.Places.{condition_out}
use Rattle.rbac_policy.proofs.policy.condition_at.Goals as goal

pub returns-in-Err-clause-fault : goal.returns-in-Err-clause-fault
returns-in-Err-clause-fault c =
    rw (c.inside.ensures.0) (rw c.in-Err.is at c.read_condition.ensures.fault)

pub returns-in-Err-clause-place : goal.returns-in-Err-clause-place
returns-in-Err-clause-place c =
    condition_out c.args.limits.now c.args.left (map field_view c.args.fields.now) c.condition_number.result c.in-Err.fault c.inside.result
    (rw c.in-Err.is at c.read_condition.ensures.place) c.condition_number.ensures c.inside.ensures
