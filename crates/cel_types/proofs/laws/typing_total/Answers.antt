use Rattle.cel_types.proofs.CheckLaws.{check_total}
use Rattle.cel_types.proofs.laws.typing_total.Goals as goal

pub returns : goal.returns
returns c = check_total
