use Rattle.proxy_core.proofs.Acknowledged.{have_last}
use Rattle.proxy_core.proofs.laws.filters_have_what_was_acknowledged_last.Goals as goal

pub returns : goal.returns
returns c = have_last
