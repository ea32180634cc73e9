-- The names so far are those of the resources so far that nobody asked for.
use Rattle.std.proofs.Common.{map, take}
use Rattle.ads.specs.Config.{names_of}
use Rattle.xds_wire.specs.View.{any_view, texts_view}
use Rattle.serve_observe.specs.Gaps.{AreUnaskedIn}
use Rattle.serve_observe.proofs.gaps.unasked_in.Given as goal

abbrev pub invariant-loop-place : goal.invariant-loop-place
invariant-loop-place l =
    AreUnaskedIn (names_of l.config.filters) (map any_view (take l.place l.resources)) (texts_view l.names.items)
