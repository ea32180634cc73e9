use Rattle.proto_wire.specs.Refusal.{MemoryOr}
use Rattle.proto_wire.proofs.PlaceExits.{exit_unplaced}
use Rattle.rbac_policy.specs.Admission.{Fault}
use Rattle.rbac_policy.proofs.admission.admit.Goals as goal

pub returns-in_err-admit_at-clause-fault : goal.returns-in_err-admit_at-clause-fault
returns-in_err-admit_at-clause-fault c =
    exit_unplaced (MemoryOr (λ e. Fault e c.args.bytes.now c.args.limits.now c.args.budget))
    c.from_residual.result c.in_err-admit_at.field-0.0 c.from_residual.ensures.1 c.in_err-admit_at.ensures.fault
