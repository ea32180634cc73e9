use Rattle.rbac_policy.proofs.Uniqueness.{admits_unique}
use Rattle.rbac_policy.proofs.laws.filter_unique.Goals as goal

pub returns : goal.returns
returns c = admits_unique
