-- The expressions from a place on.
use Rattle.std.proofs.Common.{◌≡◌, ℕ, zero, suc, ◌+◌, ◌-◌, ◌<◌, ◌≤◌, List, [], ◌∷◌, length, drop, get_or, arith}
use Rattle.std.proofs.lemmas.List.{drop_more}
use Rattle.attributes.specs.Limits.{LimitsValue}
use Rattle.cel_types.specs.private.ExprViews.{exprs_view}
use Rattle.cel_types.specs.declared.typed.TypedExpr.{TypedExpr}
use Rattle.cel_costs.specs.Costs.{costs_of, total}
use Rattle.cel_costs.specs.Sizes.{Size}
use Rattle.cel_costs.specs.Visits.{visits_of_each}

-- one more than from the place after
pub place_before : (es : List TypedExpr) (place : ℕ) (e : TypedExpr) → e ≡ get_or es (place - 1) e → 0 < place
    → place ≤ length es → drop (place - 1) es ≡ e ∷ drop place es
place_before es place e is some fits =
    let back : place - 1 + 1 ≡ place = omega arith in
    let whole = drop_more es (place - 1) e (omega arith) in
    rw (← is, back) at whole

-- they cost no more than all
pub costs_from : (es : List TypedExpr) (place : ℕ) (l : LimitsValue) (ss : List Size)
    → total (costs_of (exprs_view (drop place es)) l ss) ≤ total (costs_of (exprs_view es) l ss)
costs_from es zero l ss = omega arith
costs_from [] (suc place) l ss = omega arith
costs_from (e ∷ es) (suc place) l ss = let more = costs_from es place l ss in omega arith

-- and have no more visits
pub visits_from : (es : List TypedExpr) (place : ℕ) (l : LimitsValue) (ss : List Size)
    → visits_of_each (exprs_view (drop place es)) l ss ≤ visits_of_each (exprs_view es) l ss
visits_from es zero l ss = omega arith
visits_from [] (suc place) l ss = omega arith
visits_from (e ∷ es) (suc place) l ss = let more = visits_from es place l ss in omega arith
