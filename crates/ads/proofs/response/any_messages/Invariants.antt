use Rattle.std.proofs.Common.{◌≡◌, map, take}
use Rattle.xds_wire.specs.View.{any_view}
use Rattle.ads.specs.private.Serving.{any_of}
use Rattle.ads.proofs.response.any_messages.Given as goal

abbrev pub invariant-loop-value : goal.invariant-loop-value
invariant-loop-value l =
    map any_view l.any_messages.items ≡ map (λ b. any_of b.items) (take l.value-index l.values)
