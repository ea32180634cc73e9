use Rattle.cel_read.proofs.CheckedLaws.{expr_unique}
use Rattle.cel_read.proofs.laws.expr_unique.Goals as goal

pub returns : goal.returns
returns c = expr_unique
