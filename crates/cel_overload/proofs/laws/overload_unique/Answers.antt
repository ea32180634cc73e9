use Rattle.cel_overload.proofs.OneOverload.{call_unique}
use Rattle.cel_overload.proofs.laws.overload_unique.Goals as goal

pub returns : goal.returns
returns c = call_unique
