use Rattle.attributes.proofs.Joining.{joined_there, joined_absent}
use Rattle.attributes.proofs.laws.headers_are_joined.Goals as goal

pub returns-clause-there : goal.returns-clause-there
returns-clause-there c = joined_there

pub returns-clause-absent : goal.returns-clause-absent
returns-clause-absent c = joined_absent
