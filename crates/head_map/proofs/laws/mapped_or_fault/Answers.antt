use Rattle.head_map.proofs.Unique.{one_or_other}
use Rattle.head_map.proofs.laws.mapped_or_fault.Goals as goal

pub returns : goal.returns
returns c = one_or_other
