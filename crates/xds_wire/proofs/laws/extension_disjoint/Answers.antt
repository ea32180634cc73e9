use Rattle.xds_wire.proofs.DiscoveryLaws.{extension_disjoint}
use Rattle.xds_wire.proofs.laws.extension_disjoint.Goals as goal

pub returns : goal.returns
returns c = extension_disjoint
