use Rattle.std.proofs.Common.{refl}
use Rattle.rbac_match.proofs.NeedLemmas.{first_begins}
use Rattle.rbac_match.proofs.needs.shared.Goals as goal

pub returns-clause-one : goal.returns-clause-one
returns-clause-one c = first_begins c.same_count-count.result c.args.one.now c.args.one.now refl

pub returns-clause-other : goal.returns-clause-other
returns-clause-other c = first_begins c.same_count-count.result c.args.one.now c.args.other.now c.same_count-count.ensures.1
