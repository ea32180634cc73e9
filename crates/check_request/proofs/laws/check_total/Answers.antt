use Rattle.check_request.proofs.Total.{check_total}
use Rattle.check_request.proofs.laws.check_total.Goals as goal

pub returns : goal.returns
returns c = check_total
