-- The connection was answered, or it was closed.
use Rattle.std.proofs.Common.{refl}
use Rattle.rbac_serve.specs.Workers.{worker_view}
use Rattle.rbac_serve.proofs.Turning.{close_works}
use Rattle.serve_core.proofs.Driving.{places_of, received_turn, two_turns}
use Rattle.serve_core.proofs.Telling.{received_tells}
use Rattle.serve_core.proofs.events.receive.Goals as goal

pub returns-in-Ok-clause-turn : goal.returns-in-Ok-clause-turn
returns-in-Ok-clause-turn c =
    let (http, works, at) = c.in-Ok.ensures.found in
    received_turn _ _ c.args.k c.args.bytes.now http _ (places_of c.args.worker.now) works

pub returns-in-Ok-clause-tells : goal.returns-in-Ok-clause-tells
returns-in-Ok-clause-tells c =
    let (http, works, at) = c.in-Ok.ensures.found in
    received_tells _ _ c.args.k c.args.bytes.now http _ _ (places_of c.args.worker.now) works at (c.requires.1, c.requires.2)

pub returns-in-Err-clause-turn : goal.returns-in-Err-clause-turn
returns-in-Err-clause-turn c =
    rw c.in-Err.ensures.fault (two_turns _ _ _ _ _ refl (close_works (worker_view c.args.worker.now) c.args.k))
