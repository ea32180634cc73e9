use Rattle.xds_wire.proofs.DiscoveryLaws.{request_total}
use Rattle.xds_wire.proofs.laws.request_total.Goals as goal

pub returns : goal.returns
returns c = request_total
