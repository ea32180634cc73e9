use Rattle.std.proofs.Common.{refl}
use Rattle.stream_pumps.proofs.rounds.take_one.Goals as goal

pub returns-in-true : goal.returns-in-true
returns-in-true g c = record { next = _; is_up = _; takes = c.in-true.ensures; left = refl }

pub returns-in-false : goal.returns-in-false
returns-in-false g c = record { next = _; is_up = _; takes = c.in-false.ensures; left = refl }
