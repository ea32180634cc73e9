use Rattle.program_jobs.proofs.Ends.{checks_to, end_of_check}
use Rattle.program_jobs.proofs.reports.run_check.Goals as goal

pub returns : goal.returns
returns g c =
    let found = rw c.as_str.ensures.value at c.check_file-finding.ensures.found in
    let fault = rw c.as_str.ensures.value at c.check_file-finding.ensures.fault in
    let reported = c.report_of-found.ensures in
    end_of_check _ _ _ _ _ _ _ c.args.words.now c.report_of-found.result
    (checks_to _ _ c.args.words.now c.check_file-finding.result c.report_of-found.result found c.check_file-finding.ensures.bare fault reported.kept reported.memory reported.others)
    c.end_result.ensures
