use Rattle.xds_wire.proofs.ReadBack.{response_back}
use Rattle.xds_wire.proofs.laws.response_reads_back.Goals as goal

pub returns : goal.returns
returns c = response_back
