-- What a conditional of three operands measures.
use Rattle.std.proofs.Common.{◌≡◌, ℕ, ◌+◌, ◌<◌, List, [], ◌∷◌, length, get_or, min, refl, arith}
use Rattle.attributes.specs.Limits.{LimitsValue}
use Rattle.cel_overload.specs.declared.overload.Overload.TheVariants.{Conditional}
use Rattle.cel_types.specs.Elaborated.{kinds}
use Rattle.cel_types.specs.View.{expr_view}
use Rattle.cel_types.specs.private.ExprViews.{exprs_view}
use Rattle.cel_types.specs.declared.typed.TypedExpr.{TypedExpr}
use Rattle.cel_costs.specs.Costs.{call_cost, call_size, cost_of, costs_of, size_of, sizes_of}
use Rattle.cel_costs.specs.Sizes.{Size, join}
use Rattle.cel_costs.specs.Visits.{visits_of, visits_of_each}

-- the sizes, the costs and the visits of three expressions
pub record AreThree (es : List TypedExpr) (x y z : TypedExpr) (l : LimitsValue) (ss : List Size) : Type 0 where
  pub sizes : call_size Conditional (sizes_of (exprs_view es) l ss) ≡ join (size_of (expr_view y) l ss) (size_of (expr_view z) l ss)
  pub costs : (left tested before one other least rest : ℕ) → left ≡ cost_of (expr_view x) l ss + tested
      → tested ≡ 1 + 0 + before → before ≡ cost_of (expr_view y) l ss + one → before ≡ cost_of (expr_view z) l ss + other
      → least ≡ min one other → least ≡ 1 + 0 + rest
      → left ≡ call_cost Conditional (kinds (exprs_view es)) (costs_of (exprs_view es) l ss) (sizes_of (exprs_view es) l ss) + rest
  pub short : (left tested before one other least : ℕ) → left ≡ cost_of (expr_view x) l ss + tested
      → tested ≡ 1 + 0 + before → before ≡ cost_of (expr_view y) l ss + one → before ≡ cost_of (expr_view z) l ss + other
      → least ≡ min one other → least < 1 + 0
      → left < call_cost Conditional (kinds (exprs_view es)) (costs_of (exprs_view es) l ss) (sizes_of (exprs_view es) l ss)
  pub seen : visits_of_each (exprs_view es) l ss
      ≡ visits_of (expr_view x) l ss + (visits_of (expr_view y) l ss + visits_of (expr_view z) l ss)

pub three_of : (es : List TypedExpr) (x y z : TypedExpr) (l : LimitsValue) (ss : List Size) → length es ≡ 3
    → x ≡ get_or es 0 x → y ≡ get_or es 1 y → z ≡ get_or es 2 z → AreThree es x y z l ss
three_of [] x y z l ss three isx isy isz = absurd (omega arith)
three_of (a ∷ []) x y z l ss three isx isy isz = absurd (omega arith)
three_of (a ∷ b ∷ []) x y z l ss three isx isy isz = absurd (omega arith)
three_of (a ∷ b ∷ d ∷ []) x y z l ss three isx isy isz =
    let first : x ≡ a = isx in
    let second : y ≡ b = isy in
    let third : z ≡ d = isz in
    rw (first, second, third) (record {
      sizes = refl;
      costs = λ left tested before one other least rest h i j k m n. omega (arith, h, i, j, k, m, n);
      short = λ left tested before one other least h i j k m n. omega (arith, h, i, j, k, m, n);
      seen = omega arith;
    })
three_of (a ∷ b ∷ d ∷ e ∷ es) x y z l ss three isx isy isz = absurd (omega arith)
