use Rattle.std.proofs.Common.{ℕ, List, [], get_or}
use Rattle.std.specs.Prelude.{Contains}
use Rattle.proto_wire.specs.Merge.{parts_view}
use Rattle.proto_wire.specs.Values.{Utf8Fault}
use Rattle.cel_read.proofs.Basics.{part_in}
use Rattle.proto_wire.proofs.Readers.{exit_plain}
use Rattle.cel_read.proofs.reference.require_texts.Goals as goal

pub returns-in_err-text_of-clause-fault : goal.returns-in_err-text_of-clause-fault
returns-in_err-text_of-clause-fault c =
    let slices = c.args.payloads.now in
    let i = c.loop-payload.payload-index in
    exit_plain (λ e. (text : List ℕ) × Contains (parts_view slices) text × Utf8Fault text e)
    c.from_residual.result _ c.from_residual.ensures.1
    ((get_or slices i (record { ref_ptr = (0, 0); now = [] })).now, part_in slices i _ c.loop-payload-test.true, c.in_err-text_of.ensures.fault)
