use Rattle.std.proofs.Common.{take}
use Rattle.std.specs.List.{AllByRecursion}
use Rattle.ads.specs.Config.{IsFilter}
use Rattle.ads.specs.Views.{filters_view}
use Rattle.ads.proofs.config.check_filters.Given as goal

abbrev pub invariant-loop-filter : goal.invariant-loop-filter
invariant-loop-filter l = AllByRecursion IsFilter (filters_view (take l.filter-index l.filters))
