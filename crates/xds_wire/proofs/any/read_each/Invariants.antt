use Rattle.std.proofs.Common.{[], ◌∷◌, map, take}
use Rattle.std.specs.List.{AllZip}
use Rattle.proto_wire.specs.Merge.{parts_view}
use Rattle.xds_wire.specs.Discovery.{IsAny}
use Rattle.xds_wire.specs.View.{any_view}
use Rattle.xds_wire.proofs.any.read_each.Given as goal

abbrev pub invariant-loop-part : goal.invariant-loop-part
invariant-loop-part l =
    AllZip (λ part m. IsAny (part ∷ []) m) (parts_view (take l.part-index l.parts))
    (map any_view l.messages.items)
