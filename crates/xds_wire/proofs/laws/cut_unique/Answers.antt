use Rattle.xds_wire.proofs.OneCut.{cut_one}
use Rattle.xds_wire.proofs.laws.cut_unique.Goals as goal

pub returns : goal.returns
returns c = cut_one
