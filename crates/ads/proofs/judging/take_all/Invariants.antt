use Rattle.std.proofs.Common.{◌≡◌, ◌++◌, map}
use Rattle.std.specs.Map.Iter.{deref_pair}
use Rattle.std.specs.List.{AllZip}
use Rattle.xds_wire.specs.View.{extension_view}
use Rattle.ads.specs.Answer.{Gives, named}
use Rattle.ads.specs.Views.{entries_view}
use Rattle.ads.specs.Views.{policies_view}
use Rattle.ads.proofs.judging.take_all.Given as goal

abbrev pub invariant-loop-name : goal.invariant-loop-name
invariant-loop-name l =
    (map deref_pair l.yielded ++ l.name-iterator ≡ l.filters.entries)
    × AllZip (λ f. Gives l.limits f (named f.name (map extension_view l.extensions)))
    (entries_view (map deref_pair l.yielded)) (policies_view l.given.items)
