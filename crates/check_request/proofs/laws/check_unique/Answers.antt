use Rattle.check_request.proofs.Unique.{check_unique}
use Rattle.check_request.proofs.laws.check_unique.Goals as goal

pub returns : goal.returns
returns c = check_unique
