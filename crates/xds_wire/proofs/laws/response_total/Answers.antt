use Rattle.xds_wire.proofs.DiscoveryLaws.{response_total}
use Rattle.xds_wire.proofs.laws.response_total.Goals as goal

pub returns : goal.returns
returns c = response_total
