use Rattle.xds_wire.proofs.OneCut.{cut_first}
use Rattle.xds_wire.proofs.laws.beginning_of_frames_is_cut.Goals as goal

pub returns : goal.returns
returns c = cut_first
