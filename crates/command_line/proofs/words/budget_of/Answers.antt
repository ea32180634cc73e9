use Rattle.std.proofs.Common.{◌≡◌, ◌≤◌, Option, Some, None, refl, sym, subst, ◌∙◌, ℕ, codes, inl, inr}
use Rattle.clap.specs.Words.{Text, found_of, one_text, rows_of}
use Rattle.clap.proofs.WalkLemmas.{one_text-rows}
use Rattle.cost_bound.specs.Budgets.{IsBudget}
use Rattle.cost_bound.specs.declared.budget.Budget.{Budget}
use Rattle.cost_bound.proofs.BudgetLaws.{same_budget}
use Rattle.command_line.specs.Words.{IsValueOf}
use Rattle.command_line.proofs.words.budget_of.Goals as goal

pub returns-clause-budget : goal.returns-clause-budget
returns-clause-budget c = record {
  steps = by_steps (one_text (found_of c.args.matches.now) (codes "budget")) refl;
  visits = by_visits (one_text (found_of c.args.matches.now) (codes "visits")) refl;
  allowed = c.if-not-is_allowed.ensures;
}
  where
    by_steps : (o : Option Text) → one_text (found_of c.args.matches.now) (codes "budget") ≡ o
        → IsValueOf (codes "budget") (rows_of (found_of c.args.matches.now)) c.in_ok-steps.steps
    by_steps None e = let none = c.get_one.ensures.none e in let was = c.in_ok-steps.was in cc
    by_steps (Some t) e =
        let read = rw c.in_ok-steps.was at (c.get_one.ensures.value t e) in
        record { text = t; given = sym (one_text-rows (found_of c.args.matches.now) (codes "budget")) ∙ e; number = read.0 }

    by_visits : (o : Option Text) → one_text (found_of c.args.matches.now) (codes "visits") ≡ o
        → IsValueOf (codes "visits") (rows_of (found_of c.args.matches.now)) c.in_ok-visits.visits
    by_visits None e = let none = c.get_one-2.ensures.none e in let was = c.in_ok-visits.was in cc
    by_visits (Some t) e =
        let read = rw c.in_ok-visits.was at (c.get_one-2.ensures.value t e) in
        record { text = t; given = sym (one_text-rows (found_of c.args.matches.now) (codes "visits")) ∙ e; number = read.0 }

pub returns-in_err-steps-clause-none : goal.returns-in_err-steps-clause-none
returns-in_err-steps-clause-none c =
    rw c.from_residual.ensures (λ budget b.
    let text = one_text-rows (found_of c.args.matches.now) (codes "budget") ∙ b.steps.given in
    let read = rw c.in_err-steps.was at (c.get_one.ensures.value b.steps.text text) in
    read.1.0 b.steps.number.0)

pub returns-in_err-visits-clause-none : goal.returns-in_err-visits-clause-none
returns-in_err-visits-clause-none c =
    rw c.from_residual-in_err-visits.ensures (λ budget b.
    let text = one_text-rows (found_of c.args.matches.now) (codes "visits") ∙ b.visits.given in
    let read = rw c.in_err-visits.was at (c.get_one-2.ensures.value b.visits.text text) in
    read.1.0 b.visits.number.0)

pub returns-then-not-is_allowed-clause-none : goal.returns-then-not-is_allowed-clause-none
returns-then-not-is_allowed-clause-none c budget b =
    let steps_text = one_text-rows (found_of c.args.matches.now) (codes "budget") ∙ b.steps.given in
    let steps_read = rw c.in_ok-steps.was at (c.get_one.ensures.value b.steps.text steps_text) in
    let steps : budget.steps ≡ c.in_ok-steps.steps = b.steps.number.1 ∙ sym steps_read.0.1 in
    let visits_text = one_text-rows (found_of c.args.matches.now) (codes "visits") ∙ b.visits.given in
    let visits_read = rw c.in_ok-visits.was at (c.get_one-2.ensures.value b.visits.text visits_text) in
    let visits : budget.visits ≡ c.in_ok-visits.visits = b.visits.number.1 ∙ sym visits_read.0.1 in
    let same : budget ≡ record { steps = c.in_ok-steps.steps; visits = c.in_ok-visits.visits } =
    same_budget budget (record { steps = c.in_ok-steps.steps; visits = c.in_ok-visits.visits }) steps visits in
    c.if-not-is_allowed.ensures (subst IsBudget same b.allowed)
