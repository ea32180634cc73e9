use Rattle.xds_wire.proofs.ReadBack.{response_written_unique}
use Rattle.xds_wire.proofs.laws.response_written_unique.Goals as goal

pub returns : goal.returns
returns c = response_written_unique
