use Rattle.xds_wire.proofs.ReadBack.{request_written_unique}
use Rattle.xds_wire.proofs.laws.request_written_unique.Goals as goal

pub returns : goal.returns
returns c = request_written_unique
