use Rattle.cel_read.proofs.CheckedLaws.{expr_total}
use Rattle.cel_read.proofs.laws.expr_total.Goals as goal

pub returns : goal.returns
returns c = expr_total
