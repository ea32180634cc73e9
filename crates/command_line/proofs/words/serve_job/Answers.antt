use Rattle.clap.specs.Words.{found_of, rows_of}
use Rattle.command_line.proofs.WordLemmas.{of_serve}
use Rattle.command_line.specs.Words.{IsJobOfRows}
use Rattle.command_line.proofs.words.serve_job.Goals as goal

pub returns-in_default-clause-none : goal.returns-in_default-clause-none
returns-in_default-clause-none c = of_serve (λ job. ¬ (IsJobOfRows (rows_of (found_of c.args.matches.now)) job)) (λ words held.
    let none = rw c.in_default.is at c.in_ok-config.ensures in cc)
