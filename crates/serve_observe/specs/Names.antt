-- The names that the log of decisions has (this project's own; docs/OPERATING.md, "The logs of a server").
use Rattle.std.specs.Prelude.{ℕ, List, Option, Some, None, slice_get}
use Rattle.std.specs.FinMap.{keys}
use Rattle.ads.specs.Answer.{AdmittedValue}

-- the name of the policy of this number, if the filter has policies and one of them matched
abbrev pub matched_name : Option (Option AdmittedValue) → Option (Option ℕ) → Option (List ℕ)
matched_name (Some (Some admitted)) (Some (Some number)) =
    slice_get (keys admitted.filter.policies) number
matched_name policies matched = None
