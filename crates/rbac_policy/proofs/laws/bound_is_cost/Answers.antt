use Rattle.rbac_policy.proofs.Enforcing as enforcing
use Rattle.rbac_policy.proofs.laws.bound_is_cost.Goals as goal

pub returns : goal.returns
returns c = enforcing.bound_is_cost
