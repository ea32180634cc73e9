use Rattle.cel_read.proofs.CheckedLaws.{checked_disjoint}
use Rattle.cel_read.proofs.laws.checked_disjoint.Goals as goal

pub returns : goal.returns
returns c = checked_disjoint
