use Rattle.rbac_match.proofs.HeaderMessages.{header_disjoint}
use Rattle.rbac_match.proofs.laws.header_disjoint.Goals as goal

pub returns : goal.returns
returns c = header_disjoint
