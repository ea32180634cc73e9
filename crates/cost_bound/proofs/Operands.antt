-- What a call measures, by what was found of its operands.
use Rattle.std.proofs.Common.{◌≡◌, ◌+◌, List, [], ◌∷◌, length, get_or, refl, arith}
use Rattle.std.specs.Prelude.{Result, IfErr, IfOk}
use Rattle.attributes.specs.Limits.{LimitsValue}
use Rattle.cel_overload.specs.declared.overload.Overload.{Overload}
use Rattle.cel_types.specs.Elaborated.{TypedTree, kind}
use Rattle.cel_types.specs.declared.typed.TypedExpr.{TypedExpr}
use Rattle.proto_wire.specs.Refusal.{MemoryOr}
use Rattle.proto_wire.specs.declared.refusal.Refusal.{Refusal}
use Rattle.cel_costs.specs.Costs.{call_cost, call_size, cost_of, size_of}
use Rattle.cel_costs.specs.Sizes.{Size}
use Rattle.cel_costs.specs.Visits.{visits_of}
use Rattle.cost_bound.specs.declared.budget.Budget.{Budget}
use Rattle.cost_bound.specs.declared.measured.Measured.{Measured}
use Rattle.cost_bound.specs.private.Measuring.{Exceeds, Finds, call_part}
use Rattle.cost_bound.proofs.Calls.{call_costs}
use Rattle.cost_bound.proofs.Steps.{last_found, last_more}

-- a list of one expression, and of two
pub sole : (es : List TypedExpr) (x : TypedExpr) → length es ≡ 1 → x ≡ get_or es 0 x → es ≡ x ∷ []
sole [] x one is = absurd (omega arith)
sole (d ∷ []) x one is = let first : x ≡ d = is in rw first refl
sole (d ∷ e ∷ es) x one is = absurd (omega arith)

pub both : (es : List TypedExpr) (x y : TypedExpr) → length es ≡ 2 → x ≡ get_or es 0 x → y ≡ get_or es 1 y
    → es ≡ x ∷ y ∷ []
both [] x y two isx isy = absurd (omega arith)
both (d ∷ []) x y two isx isy = absurd (omega arith)
both (d ∷ e ∷ []) x y two isx isy = let first : x ≡ d = isx in let second : y ≡ e = isy in rw (first, second) refl
both (d ∷ e ∷ f ∷ es) x y two isx isy = absurd (omega arith)

module _ (o : Overload) (l : LimitsValue) (ss : List Size) (left rest : Budget) (r : Result Measured Refusal) where
  -- of one operand
  pub one_found : (x : TypedTree) (s : Size) → s ≡ size_of x l ss → left.steps ≡ cost_of x l ss + rest.steps
      → left.visits ≡ visits_of x l ss + rest.visits
      → IfOk r (Finds (call_size o (s ∷ [])) (1 + call_part o (kind x ∷ []) (s ∷ [])) 0 rest)
      → IfOk r (Finds (call_size o (size_of x l ss ∷ []))
      (call_cost o (kind x ∷ []) (cost_of x l ss ∷ []) (size_of x l ss ∷ [])) (visits_of x l ss + 0) left)
  one_found x s same paid seen h =
      let whole = call_costs o (kind x ∷ []) (cost_of x l ss ∷ []) (size_of x l ss ∷ []) refl
      (λ is three. absurd (omega (arith, three))) in
      rw whole (last_found _ _ _ _ _ _ rest left r refl (λ k e. omega (arith, paid, e)) (λ k e. omega (arith, seen, e))
      (rw same at h))

  pub one_short : (x : TypedTree) (s : Size) → s ≡ size_of x l ss → left.steps ≡ cost_of x l ss + rest.steps
      → left.visits ≡ visits_of x l ss + rest.visits
      → IfErr r (MemoryOr (Exceeds (1 + call_part o (kind x ∷ []) (s ∷ [])) 0 rest))
      → IfErr r (MemoryOr (Exceeds (call_cost o (kind x ∷ []) (cost_of x l ss ∷ []) (size_of x l ss ∷ []))
      (visits_of x l ss + 0) left))
  one_short x s same paid seen h =
      let whole = call_costs o (kind x ∷ []) (cost_of x l ss ∷ []) (size_of x l ss ∷ []) refl
      (λ is three. absurd (omega (arith, three))) in
      rw whole (last_more _ _ rest _ _ left r (λ e. omega (arith, paid, e)) (λ e. omega (arith, seen, e)) (rw same at h))

  -- of two operands, whose measuring left this between them
  module _ (x y : TypedTree) (s t : Size) (middle : Budget) (first : s ≡ size_of x l ss)
      (paid : left.steps ≡ cost_of x l ss + middle.steps) (seen : left.visits ≡ visits_of x l ss + middle.visits)
      (second : t ≡ size_of y l ss) (more : middle.steps ≡ cost_of y l ss + rest.steps)
      (further : middle.visits ≡ visits_of y l ss + rest.visits) where
    pub two_found : IfOk r (Finds (call_size o (s ∷ t ∷ [])) (1 + call_part o (kind x ∷ kind y ∷ []) (s ∷ t ∷ [])) 0 rest)
        → IfOk r (Finds (call_size o (size_of x l ss ∷ size_of y l ss ∷ []))
        (call_cost o (kind x ∷ kind y ∷ []) (cost_of x l ss ∷ cost_of y l ss ∷ []) (size_of x l ss ∷ size_of y l ss ∷ []))
        (visits_of x l ss + (visits_of y l ss + 0)) left)
    two_found h =
        let whole = call_costs o (kind x ∷ kind y ∷ []) (cost_of x l ss ∷ cost_of y l ss ∷ [])
        (size_of x l ss ∷ size_of y l ss ∷ []) refl (λ is three. absurd (omega (arith, three))) in
        rw whole (last_found _ _ _ _ _ _ rest left r refl (λ k e. omega (arith, paid, more, e))
        (λ k e. omega (arith, seen, further, e)) (rw (first, second) at h))

    pub two_short : IfErr r (MemoryOr (Exceeds (1 + call_part o (kind x ∷ kind y ∷ []) (s ∷ t ∷ [])) 0 rest))
        → IfErr r (MemoryOr (Exceeds
        (call_cost o (kind x ∷ kind y ∷ []) (cost_of x l ss ∷ cost_of y l ss ∷ []) (size_of x l ss ∷ size_of y l ss ∷ []))
        (visits_of x l ss + (visits_of y l ss + 0)) left))
    two_short h =
        let whole = call_costs o (kind x ∷ kind y ∷ []) (cost_of x l ss ∷ cost_of y l ss ∷ [])
        (size_of x l ss ∷ size_of y l ss ∷ []) refl (λ is three. absurd (omega (arith, three))) in
        rw whole (last_more _ _ rest _ _ left r (λ e. omega (arith, paid, more, e)) (λ e. omega (arith, seen, further, e))
        (rw (first, second) at h))
