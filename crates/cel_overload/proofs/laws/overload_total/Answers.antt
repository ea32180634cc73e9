use Rattle.cel_overload.proofs.OneOverload.{call_total}
use Rattle.cel_overload.proofs.laws.overload_total.Goals as goal

pub returns : goal.returns
returns c = call_total
