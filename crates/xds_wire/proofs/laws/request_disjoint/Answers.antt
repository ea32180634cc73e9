use Rattle.xds_wire.proofs.DiscoveryLaws.{request_disjoint}
use Rattle.xds_wire.proofs.laws.request_disjoint.Goals as goal

pub returns : goal.returns
returns c = request_disjoint
