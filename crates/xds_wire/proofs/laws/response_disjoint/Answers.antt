use Rattle.xds_wire.proofs.DiscoveryLaws.{response_disjoint}
use Rattle.xds_wire.proofs.laws.response_disjoint.Goals as goal

pub returns : goal.returns
returns c = response_disjoint
