use Rattle.xds_wire.proofs.StreamLemmas.{cut_resumes}
use Rattle.xds_wire.proofs.laws.cut_resumes.Goals as goal

pub returns : goal.returns
returns c = cut_resumes
