use Rattle.proto_wire.specs.Refusal.{MemoryOr}
use Rattle.proto_wire.proofs.PlaceExits.{exit_unplaced}
use Rattle.cel_tree.specs.View.{checked_view}
use Rattle.cel_types.specs.TypingFaults.{CheckFault}
use Rattle.cel_check.proofs.checker.check.Goals as goal

pub returns-in_err-check_at-clause-fault : goal.returns-in_err-check_at-clause-fault
returns-in_err-check_at-clause-fault c =
    exit_unplaced (MemoryOr (CheckFault (checked_view c.args.checked.now))) c.from_residual.result
    c.in_err-check_at.field-0.0 c.from_residual.ensures.1 c.in_err-check_at.ensures.fault
