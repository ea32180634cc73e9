use Rattle.std.proofs.Common.{inl, inr}
use Rattle.program_jobs.proofs.Ends.{of_object, of_reported}
use Rattle.program_jobs.proofs.reporting.end_result.Goals as goal

pub returns-in-Ok : goal.returns-in-Ok
returns-in-Ok g c = rw c.in-Ok.is c.end_report.ensures

pub returns-in-Err : goal.returns-in-Err
returns-in-Err g c = rw (c.in-Err.is, c.if-json.true) (of_object _ _ _ _ _ _ c.end_in_json.ensures)

pub returns-in-Err-2 : goal.returns-in-Err-2
returns-in-Err-2 g c =
    let (reported, same, left) = c.end_by.ensures in
    rw (c.in-Err.is, c.if-json.false) (of_reported _ _ _ _ _ _ reported same left)
