use Rattle.attributes.proofs.LimitFaults.{none_all}
use Rattle.attributes.proofs.laws.limits_without_fault.Goals as goal

pub returns : goal.returns
returns c = none_all
