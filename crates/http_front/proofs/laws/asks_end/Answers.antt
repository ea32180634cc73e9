use Rattle.http_front.proofs.Resuming.{takes_falls}
use Rattle.http_front.proofs.laws.asks_end.Goals as goal

pub returns : goal.returns
returns c = takes_falls
