use Rattle.std.proofs.Common.{refl}
use Rattle.program_jobs.proofs.BatchEnds.{fresh_buffer}
use Rattle.program_jobs.specs.private.BatchJob.{EndsLines}
use Rattle.program_jobs.proofs.batch_job.answer_lines.Goals as goal

pub returns-in-Ok-batch : goal.returns-in-Ok-batch
returns-in-Ok-batch g c =
    let fresh = fresh_buffer g.R.Read.remaining c.in-Ok.lines c.args.input c.in-Ok.ensures.inner c.in-Ok.ensures.empty
    c.in-Ok.ensures.capacity in
    EndsLines.whole _ (rw fresh at c.in-Ok-batch.ensures.whole) refl refl

pub returns-in-Ok : goal.returns-in-Ok
returns-in-Ok g c =
    let fresh = fresh_buffer g.R.Read.remaining c.in-Ok.lines c.args.input c.in-Ok.ensures.inner c.in-Ok.ensures.empty
    c.in-Ok.ensures.capacity in
    EndsLines.short _ (rw fresh at c.in-Err-batch.ensures.short) c.end_replay.ensures
