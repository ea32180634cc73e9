use Rattle.xds_wire.proofs.DiscoveryLaws.{request_unique}
use Rattle.xds_wire.proofs.laws.request_unique.Goals as goal

pub returns : goal.returns
returns c = request_unique
