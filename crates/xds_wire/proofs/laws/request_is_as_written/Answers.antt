use Rattle.xds_wire.proofs.AsWritten.{request_as_written}
use Rattle.xds_wire.proofs.laws.request_is_as_written.Goals as goal

pub returns : goal.returns
returns c = request_as_written
