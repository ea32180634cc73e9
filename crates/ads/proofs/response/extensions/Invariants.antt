use Rattle.std.proofs.Common.{map, take}
use Rattle.std.specs.List.{AllZip}
use Rattle.xds_wire.specs.View.{texts_view}
use Rattle.xds_wire.specs.Written.{ExtensionWritten}
use Rattle.ads.specs.Control.{asked, extension_of}
use Rattle.ads.specs.Views.{resource_view}
use Rattle.ads.proofs.response.extensions.Given as goal

abbrev pub invariant-loop-resource : goal.invariant-loop-resource
invariant-loop-resource l =
    AllZip (λ r bytes. ExtensionWritten (extension_of r) bytes)
    (asked (texts_view l.names) (map resource_view (take l.resource-index l.resources)))
    (map (λ b. b.items) l.values.items)
