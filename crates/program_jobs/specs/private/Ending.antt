-- What is printed of the result of a job that has a report.
use Rattle.std.specs.Prelude.{◌⊎◌, Bool, List, Ok, Err, Option, Result, ℕ}
use Rattle.program_jobs.specs.Jobs.{Leaves, LeavesFault, PrintsReport}
use Rattle.rbac_judge.specs.Reports.{IsPrintedFor, with_why}
use Rattle.program_jobs.specs.declared.job_fault.JobFault.{JobFault}
use Rattle.program_jobs.specs.declared.job_fault.JobFault.TheVariants as faults
use Rattle.rbac_judge.specs.declared.json.Why.{Why}
use Rattle.rbac_judge.specs.declared.report.Report.{Report}

-- parameters: the bytes of the two outputs before and after, and the status
module _ (out out_new errors errors_new : Option (List ℕ)) (status : ℕ) where
  -- the report is printed, with why it is no verdict; it may be printed without its trials, or as memory that ran out
  pub record EndsWith (report : Report) : Type 0 where
    pub why : Why
    pub printed : Report
    pub same : IsPrintedFor (with_why why report) printed
    pub left : PrintsReport out out_new errors errors_new status printed

  -- the result is printed; or memory ran out for that
  abbrev pub EndsResult : Bool → Result Report JobFault → Type 0
  EndsResult json (Ok report) = EndsWith report
  EndsResult json (Err fault) = Leaves out out_new errors errors_new status json (Err fault)
      ⊎ LeavesFault out out_new errors errors_new status faults.Memory
