use Rattle.xds_wire.proofs.StreamLemmas.{runs_cut}
use Rattle.xds_wire.proofs.laws.cuts.Goals as goal

pub returns : goal.returns
returns c = runs_cut
