use Rattle.std.proofs.Common.{◌∙◌, sym, codes, refl, Some, ap}
use Rattle.clap.specs.Words.{found_of, rows_of}
use Rattle.clap.proofs.WalkLemmas.{first_value-rows}
use Rattle.command_line.proofs.WordLemmas.{of_check}
use Rattle.command_line.specs.Words.{IsJobOfRows}
use Rattle.command_line.proofs.words.check_job.Goals as goal

pub returns-clause-job : goal.returns-clause-job
returns-clause-job c = (
  refl,
  (
    sym (first_value-rows (found_of c.args.matches.now) (codes "policy"))
        ∙ sym c.in-Some.ensures ∙ ap Some (sym c.in_ok-policy.ensures.ok),
    c.in-Some-budget_of.ensures.budget,
    c.has_flag-json.ensures,
  ),
)

pub returns-in_default-clause-none : goal.returns-in_default-clause-none
returns-in_default-clause-none c = of_check (λ job. ¬ (IsJobOfRows (rows_of (found_of c.args.matches.now)) job)) (λ words held.
    let first = first_value-rows (found_of c.args.matches.now) (codes "policy") ∙ held.0 in
    let none = c.in_default.ensures in cc)

pub returns-in_default-budget_of-clause-none : goal.returns-in_default-budget_of-clause-none
returns-in_default-budget_of-clause-none c = of_check (λ job. ¬ (IsJobOfRows (rows_of (found_of c.args.matches.now)) job)) (λ words held.
    c.in_default-budget_of.ensures.none words.budget held.1)
