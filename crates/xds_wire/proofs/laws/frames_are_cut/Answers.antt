use Rattle.xds_wire.proofs.Beginnings.{frames_cut}
use Rattle.xds_wire.proofs.laws.frames_are_cut.Goals as goal

pub returns : goal.returns
returns c = frames_cut
