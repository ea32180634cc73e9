use Rattle.std.proofs.Common.{inl, inr}
use Rattle.program_jobs.proofs.reporting.end_report.Goals as goal

pub returns-in-Ok : goal.returns-in-Ok
returns-in-Ok g c =
    let same = rw c.with_why.ensures at c.in-Ok.ensures.same in
    record {
      why = c.why-why.result;
      printed = c.in-Ok.printed;
      same = same;
      left = inl (c.status.ensures, c.in-Ok.ensures.text, c.write_notes.ensures);
    }

pub returns-in-Err : goal.returns-in-Err
returns-in-Err g c =
    let (printed, same, part) = c.in-Err.ensures.part in
    record {
      why = c.why-why.result;
      printed = printed;
      same = rw c.with_why.ensures at same;
      left = inr (c.write_output_fault.ensures, part);
    }
