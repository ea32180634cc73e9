use Rattle.std.proofs.Common.{Err, ap, ◌∙◌}
use Rattle.std.proofs.lemmas.Result.{err_from_is_err_and}
use Rattle.proto_wire.specs.Merge.{parts_view}
use Rattle.proto_wire.specs.Messages.{MessageFault}
use Rattle.proto_wire.specs.Refusal.{MemoryOr}
use Rattle.proto_wire.proofs.PlaceExits.{exit_unplaced}
use Rattle.proto_wire.proofs.message.read_message.Goals as goal

pub returns-in_err-read_message_at-clause-fault : goal.returns-in_err-read_message_at-clause-fault
returns-in_err-read_message_at-clause-fault c =
    exit_unplaced (MemoryOr (MessageFault c.args.keys.now (parts_view c.args.parts.now))) c.from_residual.result
    c.in_err-read_message_at.field-0.0 c.from_residual.ensures.1 c.in_err-read_message_at.ensures.fault

pub returns-in_err-read_message_at-clause-at_once : goal.returns-in_err-read_message_at-clause-at_once
returns-in_err-read_message_at-clause-at_once c breaks =
    let p = err_from_is_err_and c.from_residual.result c.from_residual.ensures.1 in
    p.1 ∙ ap Err (p.2 ∙ c.in_err-read_message_at.ensures.at_once breaks)

pub returns-in_err-read_message_at-clause-reads : goal.returns-in_err-read_message_at-clause-reads
returns-in_err-read_message_at-clause-reads c fs is =
    let p = err_from_is_err_and c.from_residual.result c.from_residual.ensures.1 in
    rw (p.1, p.2) (c.in_err-read_message_at.ensures.reads fs is)

pub returns-clause-at_once : goal.returns-clause-at_once
returns-clause-at_once c breaks = absurd (c.in_ok-read_message_at.ensures.at_once breaks)
