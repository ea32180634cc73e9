-- The bytes were read, or the stream is lost.
use Rattle.serve_core.proofs.Driving.{one_turn, two_turns}
use Rattle.serve_core.proofs.events.update.Goals as goal

pub returns-in-Ok-clause-turn : goal.returns-in-Ok-clause-turn
returns-in-Ok-clause-turn c = rw c.is_some-closes.ensures (one_turn _ _ _ _ c.in-Ok.ensures.found)

pub returns-in-Ok-clause-tells : goal.returns-in-Ok-clause-tells
returns-in-Ok-clause-tells c = record { asked = c.requires.quiet.0; judged = c.in-Ok.ensures.judged }

pub returns-in-Err-clause-turn : goal.returns-in-Err-clause-turn
returns-in-Err-clause-turn c = two_turns _ _ _ _ _ c.in-Err.ensures.fault c.lost.ensures
