use Rattle.rbac_match.proofs.CauseLaws.{same_value}
use Rattle.rbac_match.proofs.laws.causes_suffice.Goals as goal

pub returns : goal.returns
returns c = same_value
