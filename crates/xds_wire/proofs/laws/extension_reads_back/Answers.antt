use Rattle.xds_wire.proofs.ReadBack.{extension_back}
use Rattle.xds_wire.proofs.laws.extension_reads_back.Goals as goal

pub returns : goal.returns
returns c = extension_back
