use Rattle.rbac_match.proofs.CauseLaws.{are_causes}
use Rattle.rbac_match.proofs.laws.causes_are_leaves.Goals as goal

pub returns : goal.returns
returns c = are_causes
