use Rattle.std.proofs.Common.{map, take}
use Rattle.std.specs.List.{AllZip}
use Rattle.xds_wire.specs.View.{any_view, extension_view}
use Rattle.ads.specs.Answer.{IsResource}
use Rattle.ads.proofs.judging.read_resources.Given as goal

abbrev pub invariant-loop-resource : goal.invariant-loop-resource
invariant-loop-resource l =
    AllZip IsResource (map any_view (take l.resource-index l.resources))
    (map extension_view l.extensions.items)
