-- By the stream.
use Rattle.serve_core.proofs.Driving.{one_turn}
use Rattle.serve_core.proofs.events.close.Goals as goal

pub returns-in-Place : goal.returns-in-Place
returns-in-Place c = rw c.in-Place.is (one_turn _ _ _ _ c.close.ensures)

pub returns-in-Updates : goal.returns-in-Updates
returns-in-Updates c = rw c.in-Updates.is (one_turn _ _ _ _ c.lost.ensures)
