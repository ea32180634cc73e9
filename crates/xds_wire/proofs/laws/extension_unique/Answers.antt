use Rattle.xds_wire.proofs.DiscoveryLaws.{extension_unique}
use Rattle.xds_wire.proofs.laws.extension_unique.Goals as goal

pub returns : goal.returns
returns c = extension_unique
