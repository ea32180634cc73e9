use Rattle.clap.specs.Words.{found_of, rows_of}
use Rattle.command_line.proofs.WordLemmas.{of_check_config}
use Rattle.command_line.specs.Words.{IsJobOfRows}
use Rattle.command_line.proofs.words.check_config_job.Goals as goal

pub returns-in-None-clause-none : goal.returns-in-None-clause-none
returns-in-None-clause-none c = of_check_config (λ job. ¬ (IsJobOfRows (rows_of (found_of c.args.matches.now)) job)) (λ config held.
    let none = rw c.in-None.is at c.in_ok-config.ensures in cc)
