use Rattle.std.proofs.Common.{refl}
use Rattle.stream_pumps.proofs.RoundLemmas.{comes_up}
use Rattle.stream_pumps.proofs.rounds.come_up.Goals as goal

pub returns-in-true-clause-up : goal.returns-in-true-clause-up
returns-in-true-clause-up g c = rw c.in-Ok.is (comes_up _ _ _ _ _ _ _ _ c.in-true.ensures c.take_one.ensures)

pub returns-in-false-clause-up : goal.returns-in-false-clause-up
returns-in-false-clause-up g c = rw c.in-Ok.is (comes_up _ _ _ _ _ _ _ _ c.in-false.ensures (refl, refl))
