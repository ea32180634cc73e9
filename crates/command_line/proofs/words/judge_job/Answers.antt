use Rattle.std.proofs.Common.{◌∙◌, sym, codes, refl, Some, ap}
use Rattle.clap.specs.Words.{found_of, rows_of}
use Rattle.clap.proofs.WalkLemmas.{first_value-rows}
use Rattle.command_line.proofs.WordLemmas.{of_judge}
use Rattle.command_line.specs.Words.{IsJobOfRows}
use Rattle.command_line.proofs.words.judge_job.Goals as goal

pub returns-then-batched-clause-job : goal.returns-then-batched-clause-job
returns-then-batched-clause-job c = (
  refl,
  (
    sym (first_value-rows (found_of c.args.matches.now) (codes "policy"))
        ∙ sym c.in-Some.ensures ∙ ap Some (sym c.in_ok-policy.ensures.ok),
    c.in_ok-facts.ensures,
    c.in-Some-budget_of.ensures.budget,
    c.has_flag-json.ensures,
    c.has_flag-explain.ensures,
    rw c.if-batched.true at c.has_flag-batched.ensures,
  ),
)

pub returns-clause-job : goal.returns-clause-job
returns-clause-job c = (
  refl,
  (
    sym (first_value-rows (found_of c.args.matches.now) (codes "policy"))
        ∙ sym c.in-Some.ensures ∙ ap Some (sym c.in_ok-policy.ensures.ok),
    c.in_ok-facts.ensures,
    c.in-Some-budget_of.ensures.budget,
    c.has_flag-json.ensures,
    c.has_flag-explain.ensures,
    rw c.if-batched.false at c.has_flag-batched.ensures,
  ),
)

pub returns-in_default-clause-none : goal.returns-in_default-clause-none
returns-in_default-clause-none c = of_judge (λ job. ¬ (IsJobOfRows (rows_of (found_of c.args.matches.now)) job)) (λ words held.
    let first = first_value-rows (found_of c.args.matches.now) (codes "policy") ∙ held.0 in
    let none = c.in_default.ensures in cc) (λ words held.
    let first = first_value-rows (found_of c.args.matches.now) (codes "policy") ∙ held.0 in
    let none = c.in_default.ensures in cc)

pub returns-in_default-budget_of-clause-none : goal.returns-in_default-budget_of-clause-none
returns-in_default-budget_of-clause-none c = of_judge (λ job. ¬ (IsJobOfRows (rows_of (found_of c.args.matches.now)) job)) (λ words held.
    c.in_default-budget_of.ensures.none words.budget held.2) (λ words held.
    c.in_default-budget_of.ensures.none words.budget held.2)
