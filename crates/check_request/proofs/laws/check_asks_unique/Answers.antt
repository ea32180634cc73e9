use Rattle.check_request.proofs.Unique.{check_asks_unique}
use Rattle.check_request.proofs.laws.check_asks_unique.Goals as goal

pub returns : goal.returns
returns c = check_asks_unique
