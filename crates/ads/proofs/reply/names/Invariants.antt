use Rattle.std.proofs.Common.{◌≡◌, ◌++◌, map}
use Rattle.std.specs.Map.Iter.{deref_pair}
use Rattle.xds_wire.specs.View.{texts_view}
use Rattle.ads.specs.Config.{names_of}
use Rattle.ads.specs.Views.{entries_view}
use Rattle.ads.proofs.reply.names.Given as goal

abbrev pub invariant-loop-name : goal.invariant-loop-name
invariant-loop-name l =
    (map deref_pair l.yielded ++ l.name-iterator ≡ l.filters.entries)
    × (texts_view l.names.items ≡ names_of (entries_view (map deref_pair l.yielded)))
