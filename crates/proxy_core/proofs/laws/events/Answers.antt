use Rattle.proxy_core.proofs.Whole.{headline}
use Rattle.proxy_core.proofs.laws.events.Goals as goal

pub returns : goal.returns
returns c = headline
