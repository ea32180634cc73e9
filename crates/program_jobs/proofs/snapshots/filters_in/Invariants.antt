-- The resources so far are filters.
use Rattle.std.proofs.Common.{map, take}
use Rattle.std.specs.List.{AllZip}
use Rattle.xds_wire.specs.View.{any_view}
use Rattle.ads.specs.Answer.{IsResource}
use Rattle.ads.specs.Control.{extension_of}
use Rattle.ads.specs.Views.{resource_view}
use Rattle.program_jobs.proofs.snapshots.filters_in.Given as goal

abbrev pub invariant-loop-resource : goal.invariant-loop-resource
invariant-loop-resource l =
    AllZip (λ any r. IsResource any (extension_of r))
    (map any_view (take l.resource-index l.resources)) (map resource_view l.filters.items)
