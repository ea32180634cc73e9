-- What a filter says of itself (this project's own).
use Rattle.std.specs.Prelude.{ℕ, List, [], Option, Some, None, slice_get}
use Rattle.std.specs.FinMap.{keys, len}
use Rattle.rbac_policy.specs.Admitted.{filter_view}
use Rattle.rbac_policy.specs.Enforced.{total_bound}
use Rattle.rbac_policy.specs.declared.filter.Admitted.{Admitted}

-- the number of policies
abbrev pub policies_in : Option Admitted → ℕ
policies_in None = 0
policies_in (Some a) = len (filter_view a).policies

-- how many steps the conditions together may take
abbrev pub bound_in : Option Admitted → ℕ
bound_in None = 0
bound_in (Some a) = total_bound (filter_view a)

-- the bytes of a name, none if there is no name
abbrev pub bytes_of : Option (List ℕ) → List ℕ
bytes_of None = []
bytes_of (Some name) = name

-- the name of the policy of this number, in ascending order of names; empty if there is no such policy
abbrev pub name_in : Option Admitted → ℕ → List ℕ
name_in None number = []
name_in (Some a) number = bytes_of (slice_get (keys (filter_view a).policies) number)
