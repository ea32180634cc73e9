use Rattle.xds_wire.proofs.AsWritten.{response_as_written}
use Rattle.xds_wire.proofs.laws.response_is_as_written.Goals as goal

pub returns : goal.returns
returns c = response_as_written
