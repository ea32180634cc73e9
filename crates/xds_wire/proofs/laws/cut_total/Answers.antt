use Rattle.xds_wire.proofs.EachCut.{cut_settled}
use Rattle.xds_wire.proofs.laws.cut_total.Goals as goal

pub returns : goal.returns
returns c = cut_settled
