-- Sums of steps and visits.
use Rattle.std.proofs.Common.{arith, ◌≡◌, ◌+◌, inl, inr, ap, add-zero, zero-add}
use Rattle.proto_wire.specs.declared.refusal.Refusal.{Refusal}
use Rattle.cost_bound.specs.Budgets.{IsTooSmallFor, nothing, sum_of}
use Rattle.cost_bound.specs.declared.budget.Budget.{Budget}

-- the same steps and the same visits
pub same_budget : (a b : Budget) → a.steps ≡ b.steps → a.visits ≡ b.visits → a ≡ b
same_budget a b steps visits = λ i. record { steps = steps i; visits = visits i }

pub nothing_more : (a : Budget) → sum_of a nothing ≡ a
nothing_more a = same_budget (sum_of a nothing) a (add-zero a.steps) (add-zero a.visits)

pub nothing_before : (a : Budget) → sum_of nothing a ≡ a
nothing_before a = same_budget (sum_of nothing a) a (zero-add a.steps) (zero-add a.visits)

pub sum_assoc : (a b c : Budget) → sum_of (sum_of a b) c ≡ sum_of a (sum_of b c)
sum_assoc a b c = same_budget (sum_of (sum_of a b) c) (sum_of a (sum_of b c)) (omega arith) (omega arith)

-- what is too small after some needs is too small for these together with what follows
pub too_small_before : (budget left spent needs : Budget) (e : Refusal) → sum_of spent left ≡ budget
    → IsTooSmallFor left needs e → IsTooSmallFor budget (sum_of spent needs) e
too_small_before budget left spent needs e leaves (inl (is, above)) =
    let steps : spent.steps + left.steps ≡ budget.steps = ap (λ (b : Budget). b.steps) leaves in
    inl (is, omega (arith, above, steps))
too_small_before budget left spent needs e leaves (inr (is, above)) =
    let visits : spent.visits + left.visits ≡ budget.visits = ap (λ (b : Budget). b.visits) leaves in
    inr (is, omega (arith, above, visits))
