-- The stream came up, or it is lost.
use Rattle.serve_core.proofs.Driving.{two_turns, up_turn}
use Rattle.serve_core.proofs.events.connect.Goals as goal

pub returns-in-Ok : goal.returns-in-Ok
returns-in-Ok c =
    let (bytes, works) = c.in-Ok.ensures.found in
    up_turn _ _ bytes _ c.begun.ensures works

pub returns-in-Err : goal.returns-in-Err
returns-in-Err c = two_turns _ _ _ _ _ c.in-Err.ensures.fault c.lost.ensures
