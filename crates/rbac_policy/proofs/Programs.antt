-- What is enforced of a condition: one program at most, whose run ends with what the condition means on
-- every request, and within its bound on those within the limits.
use Rattle.std.proofs.Common.{arith, ◌≡◌, ◌≤◌, ◌+◌, ℕ, Bool, List, [], ◌∷◌, length, Option, Some, None, refl, sym, ap, ap₂, ◌∙◌}
use Rattle.std.specs.Prelude.{max}
use Rattle.std.specs.List.{AllByRecursion}
use Rattle.std.specs.FinMap.{entries}
use Rattle.std.proofs.Math.Nat.{le-max_left, le-max_right}
use Rattle.std.proofs.lemmas.List.Recursion.{max_bounds}
use Rattle.attributes.specs.Conn.{texts_of}
use Rattle.attributes.specs.Headers.{Entry}
use Rattle.attributes.specs.Limits.{InLimits, IsWithin, LimitsValue}
use Rattle.attributes.specs.Request.{IsRequest, RequestValue, protocol_of}
use Rattle.cel_value.specs.Values.{CelAnswer}
use Rattle.cel_tree.specs.Checked.{CelChecked}
use Rattle.cel_tree.specs.GoodConstants.{HasGoodConstants}
use Rattle.cel_types.specs.Meaning.{eval}
use Rattle.cel_types.specs.Typing.{maps_of}
use Rattle.cel_types.proofs.OneElaboration.{one_elaboration}
use Rattle.cel_costs.specs.Costs.{cost_of}
use Rattle.cel_costs.specs.Visits.{visits_of}
use Rattle.cost_bound.specs.Budgets.{needs_of}
use Rattle.cost_bound.specs.declared.budget.Budget.{Budget}
use Rattle.cost_bound.proofs.BudgetLaws.{same_budget}
use Rattle.cel_compile.specs.Codes.{code_of}
use Rattle.cel_compile.specs.Sound.{RunsToMeaning}
use Rattle.cel_compile.proofs.Meaning.{code_means}
use Rattle.machine_code.specs.Instructions.{Instruction}
use Rattle.machine_code.specs.Machine.{Ends, RunsOut}
use Rattle.machine_code.proofs.Chains.{never_both_lem, one_end_lem}
use Rattle.rbac_policy.specs.Condition.{IsProgramOf, Program, came_true, is_met}
use Rattle.rbac_policy.specs.Costs.{Costs}
use Rattle.rbac_policy.specs.Enforced.{program_needs}
use Rattle.rbac_policy.specs.private.Runs.{RunsAs}

-- ---- limits that a request is within

-- the longest, by what is measured of each
abbrev longest : {X : Type 0} → (X → ℕ) → List X → ℕ
longest f [] = 0
longest f (x ∷ xs) = max (f x) (longest f xs)

-- how long a text is, where it is there
abbrev length_of : Option (List ℕ) → ℕ
length_of None = 0
length_of (Some bytes) = length bytes

texts_within : (texts : List (Option (List ℕ))) (most : ℕ) → longest length_of texts ≤ most
    → AllByRecursion (IsWithin most) texts
texts_within [] most h = tt
texts_within (None ∷ texts) most h =
    let rest = le-max_right 0 (longest length_of texts) in
    (tt, texts_within texts most (omega (arith, rest, h)))
texts_within (Some bytes ∷ texts) most h =
    let first = le-max_left (length bytes) (longest length_of texts) in
    let rest = le-max_right (length bytes) (longest length_of texts) in
    (omega (arith, first, h), texts_within texts most (omega (arith, rest, h)))

-- as many, and as long, as the request's
abbrev limits_of : RequestValue → LimitsValue
limits_of r = record {
  fields = r.lines + 3;
  name = longest (λ e. length e.0) (entries r.headers);
  value = longest (λ e. length e.1) (entries r.headers);
  method = length r.method;
  target = length r.target;
  text = max (length (protocol_of r.protocol)) (longest length_of (texts_of r.facts));
}

within_own : (r : RequestValue) → InLimits r (limits_of r)
within_own r =
    let es : List Entry = entries r.headers in record {
      count = omega arith;
      headers = λ k d lt. (
        max_bounds (longest (λ e. length e.0)) (λ e. length e.0) refl (λ x xs. refl) es k d lt,
        max_bounds (longest (λ e. length e.1)) (λ e. length e.1) refl (λ x xs. refl) es k d lt,
      );
      method = omega arith;
      target = omega arith;
      protocol = le-max_left (length (protocol_of r.protocol)) (longest length_of (texts_of r.facts));
      facts = texts_within (texts_of r.facts) _ (le-max_right (length (protocol_of r.protocol)) (longest length_of (texts_of r.facts)));
    }

-- ---- programs

-- a condition has one program at most
pub program_unique : (limits : LimitsValue) (c : CelChecked) (p q : Program) → IsProgramOf limits c p
    → IsProgramOf limits c q → p ≡ q
program_unique limits c p q a b =
    let same : a.e ≡ b.e =
    one_elaboration (maps_of c) [] c.tree a.e b.e a.elaborated.elaborates b.elaborated.elaborates in
    let code : p.code ≡ q.code = a.code ∙ ap (λ e. code_of 0 0 e) same ∙ sym b.code in
    let bound : p.bound ≡ q.bound = a.bound ∙ ap (λ e. cost_of e limits []) same ∙ sym b.bound in
    let visits : p.visits ≡ q.visits = a.visits ∙ ap (λ e. visits_of e limits []) same ∙ sym b.visits in
    λ i. record { code = code i; bound = bound i; visits = visits i }

-- a program may take what its condition costs
pub program_costs : (limits : LimitsValue) (c : CelChecked) (p : Program) → IsProgramOf limits c p
    → Costs limits c (program_needs (Some p))
program_costs limits c p is = record {
  e = is.e;
  elaborated = is.elaborated;
  has_type = is.has_type;
  is = same_budget (program_needs (Some p)) (needs_of is.e limits) is.bound is.visits;
}

-- a condition that costs something has a program that may take it
pub program_of_cost : (limits : LimitsValue) (c : CelChecked) (needs : Budget) → Costs limits c needs
    → (p : Program) × IsProgramOf limits c p × (program_needs (Some p) ≡ needs)
program_of_cost limits c needs costs = (
  record { code = code_of 0 0 costs.e; bound = needs.steps; visits = needs.visits },
  record {
    e = costs.e;
    elaborated = costs.elaborated;
    has_type = costs.has_type;
    code = refl;
    bound = ap (λ (n : Budget). n.steps) costs.is;
    visits = ap (λ (n : Budget). n.visits) costs.is;
  },
  refl,
)

-- a condition has one cost at most
pub cost_unique : (limits : LimitsValue) (c : CelChecked) (m n : Budget) → Costs limits c m → Costs limits c n → m ≡ n
cost_unique limits c m n a b =
    let same : a.e ≡ b.e =
    one_elaboration (maps_of c) [] c.tree a.e b.e a.elaborated.elaborates b.elaborated.elaborates in
    a.is ∙ ap (λ e. needs_of e limits) same ∙ sym b.is

module _ (limits : LimitsValue) (c : CelChecked) (p : Program) (good : HasGoodConstants c.tree)
    (is : IsProgramOf limits c p) (r : RequestValue) (valid : IsRequest r) where
  -- on every request its run ends with what the condition means
  pub program_means : (answer : CelAnswer) × (steps : ℕ) × (eval c.tree r [] ≡ Some answer)
      × Ends p.code r answer steps
  program_means =
      let run : RunsToMeaning (code_of 0 0 is.e) c is.e r (limits_of r) =
      code_means c is.e good is.elaborated r (limits_of r) valid (within_own r) in
      (run.answer, run.steps, run.means, rw is.code run.ends)

  -- so what a run came to is whether the condition is met
  pub run_is_met : (b : Bool) → RunsAs r p b → b ≡ is_met r c
  run_is_met b (answer, steps, ends, within, came) =
      let means = program_means in
      let same : answer ≡ means.0 = (one_end_lem p.code r answer means.0 steps means.1 ends means.3).0 in
      came ∙ ap (λ a. came_true (Some a)) same ∙ ap came_true (sym means.2)

  -- on a request within the limits its run does not pass the bound
  pub within_bound : InLimits r limits → RunsOut p.code r p.bound → ⊥
  within_bound inside out =
      let run : RunsToMeaning (code_of 0 0 is.e) c is.e r limits =
      code_means c is.e good is.elaborated r limits valid inside in
      let bounded : run.steps ≤ p.bound = rw is.bound run.bounded in
      never_both_lem p.code r run.answer run.steps p.bound (rw is.code run.ends) bounded out

-- a run that ended within the bound did not pass it
pub not_both : (p : Program) (r : RequestValue) (b : Bool) → RunsAs r p b → RunsOut p.code r p.bound → ⊥
not_both p r b (answer, steps, ends, within, came) out =
    never_both_lem p.code r answer steps p.bound ends within out
