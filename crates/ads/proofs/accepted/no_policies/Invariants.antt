use Rattle.std.proofs.Common.{◌≡◌, ◌++◌, None, map}
use Rattle.std.specs.Map.Iter.{deref_pair}
use Rattle.ads.specs.Views.{entries_view}
use Rattle.ads.specs.Views.{policies_view}
use Rattle.ads.proofs.accepted.no_policies.Given as goal

abbrev pub invariant-loop-name : goal.invariant-loop-name
invariant-loop-name l =
    (map deref_pair l.yielded ++ l.name-iterator ≡ l.filters.entries)
    × (policies_view l.policies.items ≡ map (λ f. None) (entries_view (map deref_pair l.yielded)))
