use Rattle.std.specs.Arc.{arc_value}
use Rattle.vupresal_c.proofs.Trying.{none_asked}
use Rattle.vupresal_c.proofs.by_set.try_held.Goals as goal

pub returns-in_default-clause-fault : goal.returns-in_default-clause-fault
returns-in_default-clause-fault c = rw c.in_default.ensures.taken (none_asked arc_value c.args.filters.now)
