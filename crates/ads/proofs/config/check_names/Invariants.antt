use Rattle.std.proofs.Common.{length}
use Rattle.ads.specs.Config.{Repeats}
use Rattle.ads.specs.Views.{filters_view}
use Rattle.ads.proofs.config.check_names.Given as goal

abbrev pub invariant-loop-first : goal.invariant-loop-first
invariant-loop-first l =
    (Repeats (filters_view l.filters) → Repeats (filters_view l.rest))
    × (Repeats (filters_view l.rest) → Repeats (filters_view l.filters))

abbrev pub decreases-loop-first : goal.decreases-loop-first
decreases-loop-first l = length l.rest
