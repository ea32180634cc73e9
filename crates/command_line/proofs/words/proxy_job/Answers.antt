use Rattle.clap.specs.Words.{found_of, rows_of}
use Rattle.command_line.proofs.WordLemmas.{of_proxy}
use Rattle.command_line.specs.Words.{IsJobOfRows}
use Rattle.command_line.proofs.words.proxy_job.Goals as goal

pub returns-in_default-rounds_of-clause-none : goal.returns-in_default-rounds_of-clause-none
returns-in_default-rounds_of-clause-none c = of_proxy (λ job. ¬ (IsJobOfRows (rows_of (found_of c.args.matches.now)) job)) (λ words held.
    c.in_default-rounds_of.ensures.none words.rounds held.3)
