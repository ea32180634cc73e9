-- What all requests that rules match have in common.
use Rattle.std.specs.Prelude.{◌≡◌, ℕ, true, List, [], length, take, unwrap_or}
use Rattle.attributes.specs.Attributes.{url_path_of}
use Rattle.attributes.specs.Request.{RequestValue, header_of}
use Rattle.rbac_match.specs.Formula.{Formulas, some_hold}

-- the bytes begin with `start`
abbrev pub Begins : List ℕ → List ℕ → Type 0
Begins start bytes = take (length start) bytes ≡ start

-- the path of every request that at least one of the rules matches begins with `start`
abbrev pub NeedsStart : Formulas → List ℕ → Type 0
NeedsStart fs start =
    (r : RequestValue) → some_hold r fs ≡ true → Begins start (url_path_of r.target)

-- in every request that at least one of the rules matches, the header of this name has this value; a missing
-- header counts as empty
abbrev pub NeedsValue : Formulas → (name value : List ℕ) → Type 0
NeedsValue fs name value =
    (r : RequestValue) → some_hold r fs ≡ true → unwrap_or (header_of r name) [] ≡ value
