-- What the parts of a configuration, of a client and of a control plane mean in the definitions (this project's own).
use Rattle.std.specs.Prelude.{ℕ, Option, List, map, option_map}
use Rattle.std.specs.String.{string_bytes}
use Rattle.std.specs.declared.string.String.{String}
use Rattle.std.specs.declared.alloc.Global.{Global}
use Rattle.attributes.specs.Limits.{LimitsValue}
use Rattle.cost_bound.specs.declared.budget.Budget.{Budget}
use Rattle.rbac_policy.specs.Admitted.{filter_view as enforced_view, limits_view}
use Rattle.rbac_policy.specs.declared.filter.Admitted.{Admitted}
use Rattle.ads.specs.Config.{FilterValue, ConfigValue}
use Rattle.ads.specs.Answer.{AdmittedValue}
use Rattle.ads.specs.Control.{ResourceValue, ServedValue}
use Rattle.ads.specs.declared.config.Filter.{Filter}
use Rattle.ads.specs.declared.snapshot.Resource.{Resource}
use Rattle.ads.specs.declared.snapshot.Snapshot.{Snapshot}
use Rattle.ads.specs.declared.serving.Served.{Served}

-- the filter that a `Filter` means
abbrev pub filter_view : Filter → FilterValue
filter_view f = record { name = string_bytes f.name; budget = f.budget }

-- the filters that a list of `Filter` means
abbrev pub filters_view : List Filter → List FilterValue
filters_view fs = map filter_view fs

-- the filter with this name and this budget
abbrev pub entry_view : String Global × Budget → FilterValue
entry_view entry = record { name = string_bytes entry.0; budget = entry.1 }

-- the filters of a map, in its order
abbrev pub entries_view : List (String Global × Budget) → List FilterValue
entries_view entries = map entry_view entries

-- the configuration with these parts
abbrev pub config_of : String Global → String Global → List Filter → LimitsValue → ConfigValue
config_of node cluster filters limits = record {
  node = string_bytes node;
  cluster = string_bytes cluster;
  filters = filters_view filters;
  limits = limits;
}

-- the enforced policies that an `Admitted` means
abbrev pub admitted_view : Admitted → AdmittedValue
admitted_view a = record { filter = enforced_view a; limits = limits_view a }

-- the enforced policies of each filter, if it has any
abbrev pub policies_view : List (Option Admitted) → List (Option AdmittedValue)
policies_view policies = map (option_map admitted_view) policies

-- the resource that a `Resource` means
abbrev pub resource_view : Resource → ResourceValue
resource_view r = record { name = string_bytes r.name; filter = r.filter.items }

-- the resources of a `Snapshot`
abbrev pub snapshot_view : Snapshot → List ResourceValue
snapshot_view s = map resource_view s.resources.items

-- the resources of each snapshot, in order
abbrev pub snapshots_view : List Snapshot → List (List ResourceValue)
snapshots_view snapshots = map snapshot_view snapshots

-- the serving state that a `Served` means
abbrev pub served_view : Served → ServedValue
served_view s = record {
  current = s.current;
  sent = s.sent;
  last = s.last;
  acknowledged = s.acknowledged;
}
