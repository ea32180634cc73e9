use Rattle.cel_overload.proofs.OneOverload.{call_disjoint}
use Rattle.cel_overload.proofs.laws.overload_disjoint.Goals as goal

pub returns : goal.returns
returns c = call_disjoint
