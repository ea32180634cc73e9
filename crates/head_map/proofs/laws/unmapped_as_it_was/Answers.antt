use Rattle.head_map.proofs.Unique.{unmapped_same, unmapped_there}
use Rattle.head_map.proofs.laws.unmapped_as_it_was.Goals as goal

pub returns-clause-same : goal.returns-clause-same
returns-clause-same c = unmapped_same

pub returns-clause-there : goal.returns-clause-there
returns-clause-there c = unmapped_there
