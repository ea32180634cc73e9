use Rattle.xds_wire.proofs.ReadBack.{request_back}
use Rattle.xds_wire.proofs.laws.request_reads_back.Goals as goal

pub returns : goal.returns
returns c = request_back
