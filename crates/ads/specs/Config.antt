-- A configuration of a client: its node (Envoy v3 API, `config/core/v3/base.proto`, Node), its filters, and the limits
-- of their requests. The bounds on its parts are this project's own.
use Rattle.std.specs.Prelude.{◌≡◌, ◌≢◌, ◌⊎◌, ℕ, ◌<◌, ◌≤◌, List, [], ◌∷◌, map, length}
use Rattle.std.specs.List.{AllByRecursion}
use Rattle.attributes.specs.Limits.{LimitsValue}
use Rattle.proto_wire.specs.Merge.{SomeOf}
use Rattle.cost_bound.specs.Budgets.{IsBudget}
use Rattle.cost_bound.specs.declared.budget.Budget.{Budget}
use Rattle.ads.specs.declared.config.ConfigFault.{ConfigFault}

-- a filter: the name of its resource, and the budget of its conditions
pub record FilterValue : Type 0 where
  pub name : List ℕ
  pub budget : Budget

-- a configuration: the node's id and cluster, the filters in configured order, and the limits of their requests
pub record ConfigValue : Type 0 where
  pub node : List ℕ
  pub cluster : List ℕ
  pub filters : List FilterValue
  pub limits : LimitsValue

-- the names of filters, in order
abbrev pub names_of : List FilterValue → List (List ℕ)
names_of filters = map (λ f. f.name) filters

-- the filter has this name
abbrev pub HasName : List ℕ → FilterValue → Type 0
HasName name f = f.name ≡ name

-- two filters have the same name
abbrev pub Repeats : List FilterValue → Type 0
Repeats [] = ⊥
Repeats (f ∷ fs) = SomeOf (HasName f.name) fs ⊎ Repeats fs

-- a filter's name has 1 to 256 bytes
abbrev pub IsName : List ℕ → Type 0
IsName name = (1 ≤ length name) × (length name ≤ 256)

-- the filter's name and its budget are allowed
abbrev pub IsFilter : FilterValue → Type 0
IsFilter f = IsName f.name × IsBudget f.budget

-- the configuration is allowed: it has 1 to 8 filters with distinct names, and each of its texts and budgets is allowed
pub record IsSound (c : ConfigValue) : Type 0 where
  pub some : c.filters ≢ []
  pub few : length c.filters ≤ 8
  pub distinct : Repeats c.filters → ⊥
  pub filters : AllByRecursion IsFilter c.filters
  pub node : length c.node ≤ 256
  pub cluster : length c.cluster ≤ 256

-- the faults of a filter
pub data FilterIsAtFault (f : FilterValue) (e : ConfigFault) : Type 0 where
  bad_name : (IsName f.name → ⊥) → e ≡ ConfigFault.BadName → FilterIsAtFault f e
  bad_budget : (IsBudget f.budget → ⊥) → e ≡ ConfigFault.BadBudget → FilterIsAtFault f e

-- the faults of a configuration
pub data IsAtFault (c : ConfigValue) (e : ConfigFault) : Type 0 where
  no_filter : c.filters ≡ [] → e ≡ ConfigFault.NoFilter → IsAtFault c e
  too_many_filters : 8 < length c.filters → e ≡ ConfigFault.TooManyFilters → IsAtFault c e
  doubled_name : Repeats c.filters → e ≡ ConfigFault.DoubledName → IsAtFault c e
  bad_filter : SomeOf (λ f. FilterIsAtFault f e) c.filters → IsAtFault c e
  bad_node : 256 < length c.node → e ≡ ConfigFault.BadName → IsAtFault c e
  bad_cluster : 256 < length c.cluster → e ≡ ConfigFault.BadName → IsAtFault c e
