-- What a permission or a principal means for a request: Envoy RBAC, "Permission" and "Principal"
-- (config.rbac.v3).
use Rattle.std.specs.Prelude.{Bool, true, false, not, ◌&&◌, ◌||◌}
use Rattle.attributes.specs.Request.{RequestValue}
use Rattle.rbac_match.specs.Matcher.{matcher_holds}
use Rattle.rbac_match.specs.declared.matcher.Matcher.{Matcher}

mutual
  -- a rule as a formula over facts of the request
  pub data Formula : Type 0 where
    any : Formula
    and_of : Formulas → Formula
    or_of : Formulas → Formula
    not_of : Formula → Formula
    leaf : Matcher → Formula

  -- rules in order
  pub data Formulas : Type 0 where
    end : Formulas
    formula : Formula → Formulas → Formulas

abbrev mutual
  -- whether the formula holds of the request
  pub holds : RequestValue → Formula → Bool
  holds r any = true
  holds r (and_of fs) = all_hold r fs
  holds r (or_of fs) = some_hold r fs
  holds r (not_of f) = not (holds r f)
  holds r (leaf m) = matcher_holds m r

  -- whether each of the formulas holds of the request
  pub all_hold : RequestValue → Formulas → Bool
  all_hold r end = true
  all_hold r (formula f fs) = holds r f && all_hold r fs

  -- whether at least one of the formulas holds of the request
  pub some_hold : RequestValue → Formulas → Bool
  some_hold r end = false
  some_hold r (formula f fs) = holds r f || some_hold r fs
