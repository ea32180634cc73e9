use Rattle.proto_wire.specs.Merge.{parts_view}
use Rattle.proto_wire.specs.Refusal.{MemoryOr}
use Rattle.proto_wire.proofs.PlaceExits.{exit_unplaced}
use Rattle.cel_tree.specs.Message.{CheckedFault}
use Rattle.cel_read.proofs.message.read_checked_parts.Goals as goal

pub returns-in_err-read_checked_at-clause-fault : goal.returns-in_err-read_checked_at-clause-fault
returns-in_err-read_checked_at-clause-fault c =
    exit_unplaced (MemoryOr (CheckedFault (parts_view c.args.parts.now))) c.from_residual.result c.in_err-read_checked_at.field-0.0
    c.from_residual.ensures.1 c.in_err-read_checked_at.ensures.fault
