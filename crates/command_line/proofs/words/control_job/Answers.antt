use Rattle.clap.specs.Words.{found_of, rows_of}
use Rattle.command_line.proofs.WordLemmas.{of_control}
use Rattle.command_line.specs.Words.{IsJobOfRows}
use Rattle.command_line.proofs.words.control_job.Goals as goal

pub returns-in-None-clause-none : goal.returns-in-None-clause-none
returns-in-None-clause-none c = of_control (λ job. ¬ (IsJobOfRows (rows_of (found_of c.args.matches.now)) job))
    (λ words held. (rw c.in-None.is at c.in_ok-words.ensures.none) words held)
