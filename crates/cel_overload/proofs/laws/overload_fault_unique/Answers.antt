use Rattle.cel_overload.proofs.OneOverload.{fault_unique}
use Rattle.cel_overload.proofs.laws.overload_fault_unique.Goals as goal

pub returns : goal.returns
returns c = fault_unique
