use Rattle.cel_types.proofs.CheckLaws.{check_disjoint}
use Rattle.cel_types.proofs.laws.typing_disjoint.Goals as goal

pub returns : goal.returns
returns c = check_disjoint
