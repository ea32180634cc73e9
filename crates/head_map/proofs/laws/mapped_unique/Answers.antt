use Rattle.head_map.proofs.Unique.{one_mapped}
use Rattle.head_map.proofs.laws.mapped_unique.Goals as goal

pub returns : goal.returns
returns c = one_mapped
