use Rattle.rbac_match.proofs.Places.{shorter}
use Rattle.rbac_match.proofs.laws.shorter_place.Goals as goal

pub returns : goal.returns
returns c = shorter
