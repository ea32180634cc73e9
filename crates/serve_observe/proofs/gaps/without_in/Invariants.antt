-- The names so far are those of the filters so far that are without policies.
use Rattle.std.proofs.Common.{◌≡◌, map, option_map, take}
use Rattle.ads.specs.Config.{names_of}
use Rattle.ads.specs.Views.{admitted_view}
use Rattle.xds_wire.specs.View.{texts_view}
use Rattle.serve_observe.specs.Gaps.{names_without}
use Rattle.serve_observe.proofs.gaps.without_in.Given as goal

abbrev pub invariant-loop-place : goal.invariant-loop-place
invariant-loop-place l =
    texts_view l.names.items ≡ names_without (names_of l.config.filters) (map (option_map admitted_view) (take l.place l.policies))
