use Rattle.cel_read.proofs.CheckedLaws.{expr_disjoint}
use Rattle.cel_read.proofs.laws.expr_disjoint.Goals as goal

pub returns : goal.returns
returns c = expr_disjoint
