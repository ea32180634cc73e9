use Rattle.xds_wire.proofs.ReadBack.{extension_written_unique}
use Rattle.xds_wire.proofs.laws.extension_written_unique.Goals as goal

pub returns : goal.returns
returns c = extension_written_unique
