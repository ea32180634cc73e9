use Rattle.check_request.proofs.Disjoint.{check_asks_disjoint}
use Rattle.check_request.proofs.laws.check_asks_disjoint.Goals as goal

pub returns : goal.returns
returns c = check_asks_disjoint
