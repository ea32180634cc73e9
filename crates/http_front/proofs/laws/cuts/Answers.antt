use Rattle.http_front.proofs.Resuming.{runs_ask}
use Rattle.http_front.proofs.laws.cuts.Goals as goal

pub returns : goal.returns
returns c = runs_ask
