use Rattle.program_jobs.proofs.Ends.{end_of_judge, judges_to}
use Rattle.program_jobs.proofs.reports.run_judge.Goals as goal

pub returns : goal.returns
returns g c =
    let judged = c.judge_files-finding.ensures in
    let reported = c.report_of-found.ensures in
    end_of_judge _ _ _ _ _ _ _ _ c.args.words c.report_of-found.result
    (judges_to _ _ _ c.args.words c.judge_files-finding.result c.report_of-found.result judged.found judged.given judged.fault reported.kept reported.memory reported.others)
    c.end_result.ensures
