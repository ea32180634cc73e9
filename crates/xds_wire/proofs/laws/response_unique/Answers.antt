use Rattle.xds_wire.proofs.DiscoveryLaws.{response_unique}
use Rattle.xds_wire.proofs.laws.response_unique.Goals as goal

pub returns : goal.returns
returns c = response_unique
