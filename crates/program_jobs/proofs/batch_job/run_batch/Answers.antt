use Rattle.std.proofs.Common.{Err, ap}
use Rattle.program_jobs.proofs.BatchEnds.{ends_of_fault, ends_of_lines, ends_of_refusal}
use Rattle.program_jobs.proofs.batch_job.run_batch.Goals as goal

pub returns-in-Ok-Ready : goal.returns-in-Ok-Ready
returns-in-Ok-Ready g c =
    let begun = rw c.in-Ok-Ready.field-0-is at c.in-Ok-Ready.ensures.found in
    ends_of_lines _ _ _ _ _ _ _ _ _ c.in-Ok-Ready.basis begun c.answer_lines.ensures

pub returns-in-Ok-Refused : goal.returns-in-Ok-Refused
returns-in-Ok-Refused g c =
    let (policy, read, refused) = rw c.in-Ok-Refused.field-0-is at c.in-Ok-Refused.ensures.found in
    let ends = rw (c.report-report.ensures, c.bare.ensures) at c.end_result.ensures in
    ends_of_refusal _ _ _ _ _ _ _ _ _ policy c.in-Ok-Refused.refusal read refused ends

pub returns-in-Err : goal.returns-in-Err
returns-in-Err g c =
    let reported = c.report_of.ensures in
    ends_of_fault _ _ _ _ _ _ _ _ _ c.in-Err.fault c.report_of.result (c.in-Err.ensures.fault _)
    (λ memory. reported.memory (ap Err memory)) reported.others c.end_result-in-Err.ensures
