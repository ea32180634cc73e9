use Rattle.rbacd.specs.Run.{Ran}
use Rattle.rbacd.proofs.Ends.{end_of_words}
use Rattle.command_line.proofs.WordLemmas.{runnable}
use Rattle.rbacd.proofs.run.run.Goals as goal

pub returns-in-Ok : goal.returns-in-Ok
returns-in-Ok g c = Ran.job c.in-Ok.job c.in-Ok.ensures.job c.run_named.ensures

pub returns-in-Err : goal.returns-in-Err
returns-in-Err g c =
    let (reported, same, left) = c.end_by.ensures in
    let fault = c.words_fault.ensures in
    end_of_words _ _ _ _ _ _ _ _ _ _ _ _ c.in-Err.error c.words_fault.result reported fault.memory fault.words c.in-Err.ensures.mistaken same left

pub run_named-requires : goal.run_named-requires
run_named-requires g c = runnable c.in-Ok.ensures.job.1.0 c.in-Ok.job c.in-Ok.ensures.job.1.2
