use Rattle.std.proofs.Common.{take}
use Rattle.proto_wire.specs.Merge.{SomeOf}
use Rattle.ads.specs.Config.{HasName}
use Rattle.ads.specs.Views.{filters_view}
use Rattle.ads.proofs.config.has_name.Given as goal

abbrev pub invariant-loop-filter : goal.invariant-loop-filter
invariant-loop-filter l =
    SomeOf (HasName l.name) (filters_view (take l.filter-index l.filters)) → ⊥
