use Rattle.std.proofs.Common.{◌≡◌, ◌++◌}
use Rattle.ads.specs.Views.{filters_view, entries_view}
use Rattle.ads.proofs.config.ordered.Given as goal

abbrev pub invariant-loop-filter : goal.invariant-loop-filter
invariant-loop-filter l =
    (entries_view l.map.entries ≡ filters_view l.yielded)
    × (l.yielded ++ l.filter-iterator.rest.items ≡ l.fn.filters.items)
