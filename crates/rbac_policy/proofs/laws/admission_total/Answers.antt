use Rattle.rbac_policy.proofs.Totality.{bytes_total}
use Rattle.rbac_policy.proofs.laws.admission_total.Goals as goal

pub returns : goal.returns
returns c bytes limits budget = bytes_total limits bytes budget
