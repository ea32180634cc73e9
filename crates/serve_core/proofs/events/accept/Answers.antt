-- The connection opened, or its place was closed again.
use Rattle.serve_core.proofs.Driving.{one_turn, two_turns}
use Rattle.serve_core.proofs.events.accept.Goals as goal

pub returns-in-Ok : goal.returns-in-Ok
returns-in-Ok c = rw c.begun.ensures (one_turn _ _ _ _ c.in-Ok.ensures.found)

pub returns-in-Err : goal.returns-in-Err
returns-in-Err c = two_turns _ _ _ _ _ c.in-Err.ensures.fault c.close.ensures
