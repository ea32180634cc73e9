use Rattle.check_request.proofs.Disjoint.{check_disjoint}
use Rattle.check_request.proofs.laws.check_disjoint.Goals as goal

pub returns : goal.returns
returns c = check_disjoint
