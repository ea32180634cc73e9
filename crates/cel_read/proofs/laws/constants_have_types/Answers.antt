use Rattle.cel_read.proofs.GoodConstantLaws.{expr_good}
use Rattle.cel_read.proofs.laws.constants_have_types.Goals as goal

pub returns : goal.returns
returns c = expr_good
