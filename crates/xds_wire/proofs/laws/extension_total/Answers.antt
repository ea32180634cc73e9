use Rattle.xds_wire.proofs.DiscoveryLaws.{extension_total}
use Rattle.xds_wire.proofs.laws.extension_total.Goals as goal

pub returns : goal.returns
returns c = extension_total
