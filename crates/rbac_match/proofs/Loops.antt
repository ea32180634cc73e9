-- What rules say, by the first rule and those behind it.
use Rattle.std.proofs.Common.{◌≡◌, ◌&&◌, ◌||◌, Bool, ap, sym, ◌∙◌}
use Rattle.attributes.specs.Request.{RequestValue}
use Rattle.rbac_match.specs.Formula.{Formula, Formulas, formula, holds, all_hold, some_hold}

module _ (r : RequestValue) (fs gs : Formulas) (f : Formula) (b : Bool) (is : fs ≡ formula f gs) (here : b ≡ holds r f) where
  pub all_at : (b && all_hold r gs) ≡ all_hold r fs
  all_at = ap (λ x. x && all_hold r gs) here ∙ ap (all_hold r) (sym is)

  pub some_at : (b || some_hold r gs) ≡ some_hold r fs
  some_at = ap (λ x. x || some_hold r gs) here ∙ ap (some_hold r) (sym is)
