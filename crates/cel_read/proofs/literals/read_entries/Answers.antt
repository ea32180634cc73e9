use Rattle.std.proofs.Common.{ℕ, List, [], get_or}
use Rattle.std.specs.Prelude.{Contains}
use Rattle.std.proofs.lemmas.List.{take_more}
use Rattle.proto_wire.specs.Merge.{parts_view}
use Rattle.cel_tree.specs.Nodes.{MapEntryFault}
use Rattle.cel_read.proofs.Basics.{part_in}
use Rattle.cel_read.proofs.Entries.{entries_push}
use Rattle.proto_wire.proofs.Readers.{exit_memory_or}
use Rattle.cel_read.proofs.literals.read_entries.Goals as goal

pub returns-in_err-entry-clause-fault : goal.returns-in_err-entry-clause-fault
returns-in_err-entry-clause-fault c =
    let slices = c.args.payloads.now in
    let i = c.loop-payload.payload-index in
    let payload = get_or slices i (record { ref_ptr = (0, 0); now = [] }) in
    exit_memory_or (MapEntryFault payload.now)
    (λ e. (p : List ℕ) × Contains (parts_view slices) p × MapEntryFault p e)
    c.from_residual.result _ c.from_residual.ensures.1 c.in_err-entry.ensures.fault
    (λ e bad. (payload.now, part_in slices i (record { ref_ptr = (0, 0); now = [] }) c.loop-payload-test.true, bad))

pub loop-payload-preserved : goal.loop-payload-preserved
loop-payload-preserved c =
    let more = take_more c.args.payloads.now c.loop-payload.payload-index (record { ref_ptr = (0, 0); now = [] }) c.loop-payload-test.true in
    rw (more, c.in_ok-push.ensures.items) (entries_push _ c.loop-payload.entries.items _ c.in_ok-entry.entry c.loop-payload.invariant c.in_ok-entry.ensures.found)
