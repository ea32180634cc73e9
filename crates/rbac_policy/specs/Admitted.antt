-- The filter that an `Admitted` means, and the limits that it was admitted for.
use Rattle.std.specs.FinMap.{from_entries}
use Rattle.attributes.specs.Limits.{LimitsValue}
use Rattle.rbac_policy.specs.Condition.{Program}
use Rattle.rbac_policy.specs.Filter.{Filter}
use Rattle.rbac_policy.specs.Named.{named_views}
use Rattle.rbac_policy.specs.declared.filter.Admitted.{Admitted}
use Rattle.rbac_policy.specs.declared.filter.FilterRules.{FilterRules}

-- the filter that its rules mean
abbrev pub filter_rules_view : FilterRules → Filter Program
filter_rules_view rules = record {
  action = rules.action;
  policies = from_entries (named_views rules.list rules.policies.items);
}

-- the filter that an `Admitted` means
abbrev pub filter_view : Admitted → Filter Program
filter_view a = filter_rules_view a.rules

-- the limits of the requests that it was admitted for
abbrev pub limits_view : Admitted → LimitsValue
limits_view a = a.limits
