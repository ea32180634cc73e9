-- What a search for causes appends.
use Rattle.std.specs.Prelude.{◌≡◌, ℕ, if◌then◌else◌, List, ◌++◌, map, option_and_then, slice_get, take}
use Rattle.attributes.specs.Request.{RequestValue}
use Rattle.rbac_match.specs.Causes.{CauseValue, all_causes, first_causes, is_decided}
use Rattle.rbac_match.specs.Formula.{Formulas}
use Rattle.rbac_match.specs.declared.causes.Cause.{Cause}
use Rattle.rbac_match.specs.declared.causes.Step.{Step}
use Rattle.rbac_match.specs.declared.list.Joint.{Joint}
use Rattle.rbac_match.specs.declared.matcher.Matcher.{Matcher}

-- the leaf that a `Cause` means, whose test is one of these
abbrev pub cause_in : List Matcher → Cause → CauseValue
cause_in leaves cause =
    record { path = cause.path.items; test = option_and_then (slice_get leaves) cause.place }

-- the leaves that such causes mean
abbrev pub causes_in : List Matcher → List Cause → List CauseValue
causes_in leaves found = map (cause_in leaves) found

-- the same leaf, with its path from the start of `path` instead of its end
abbrev pub below : List Step → CauseValue → CauseValue
below path cause = record { path = path ++ cause.path; test = cause.test }

-- the leaves `more`, of the rule at the end of the path, were appended, up to `limit` in all
abbrev pub Finds : List Matcher → ℕ → List Step → List Cause → List Cause → List CauseValue → Type 0
Finds leaves limit path before after more =
    causes_in leaves after ≡ take limit (causes_in leaves before ++ map (below path) more)

-- the causes of an `and` or an `or` of these rules
abbrev pub joined : RequestValue → Joint → Formulas → List CauseValue
joined r joint fs =
    if is_decided r joint fs then first_causes r joint 0 fs else all_causes r joint 0 fs
