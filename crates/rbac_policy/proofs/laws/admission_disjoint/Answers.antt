use Rattle.rbac_policy.proofs.Totality.{bytes_disjoint}
use Rattle.rbac_policy.proofs.laws.admission_disjoint.Goals as goal

pub returns : goal.returns
returns c e bytes limits budget = bytes_disjoint limits e bytes budget
