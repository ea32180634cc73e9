use Rattle.head_map.proofs.Unique.{mapped_or_fault}
use Rattle.head_map.proofs.laws.mapped_has_no_fault.Goals as goal

pub returns : goal.returns
returns c = mapped_or_fault
