-- By the event.
use Rattle.std.proofs.Common.{◌≡◌, refl}
use Rattle.serve_loop.specs.declared.stream.Stream.TheVariants.{Updates}
use Rattle.serve_loop.specs.Events.{event_view}
use Rattle.serve_loop.specs.History.{received}
use Rattle.serve_core.proofs.Telling.{accepted_tells, anyway, closed_tells, connected_tells, drain_tells}
use Rattle.serve_core.proofs.events.happen.Goals as goal

pub got-requires-clause-none : goal.got-requires-clause-none
got-requires-clause-none c = λ up.
    let same : event_view c.args.event.now ≡ received Updates c.in-Received.bytes.now = rw (c.in-Received.is, up) refl in
    c.requires.none c.in-Received.bytes.now same

pub returns-in-Accepted-clause-turn : goal.returns-in-Accepted-clause-turn
returns-in-Accepted-clause-turn c = rw c.in-Accepted.is c.accept.ensures

pub returns-in-Accepted-clause-tells : goal.returns-in-Accepted-clause-tells
returns-in-Accepted-clause-tells c =
    rw c.in-Accepted.is (anyway c.accept.result _ (accepted_tells _ _ _ _ _ c.requires.quiet))

pub returns-in-Received-clause-turn : goal.returns-in-Received-clause-turn
returns-in-Received-clause-turn c = rw c.in-Received.is c.got.ensures.turn

pub returns-in-Received-clause-tells : goal.returns-in-Received-clause-tells
returns-in-Received-clause-tells c = rw c.in-Received.is c.got.ensures.tells

pub returns-in-Connected-clause-turn : goal.returns-in-Connected-clause-turn
returns-in-Connected-clause-turn c = rw c.in-Connected.is c.connect.ensures

pub returns-in-Connected-clause-tells : goal.returns-in-Connected-clause-tells
returns-in-Connected-clause-tells c =
    rw c.in-Connected.is (anyway c.connect.result _ (connected_tells _ _ _ c.requires.quiet))

pub returns-in-Closed-clause-turn : goal.returns-in-Closed-clause-turn
returns-in-Closed-clause-turn c = rw (c.in-Closed.is, c.begun.ensures) c.close.ensures

pub returns-in-Closed-clause-tells : goal.returns-in-Closed-clause-tells
returns-in-Closed-clause-tells c = rw c.in-Closed.is (closed_tells _ _ _ _ c.requires.quiet)

pub returns-in-Drain-clause-turn : goal.returns-in-Drain-clause-turn
returns-in-Drain-clause-turn c = rw c.in-Drain.is refl

pub returns-in-Drain-clause-tells : goal.returns-in-Drain-clause-tells
returns-in-Drain-clause-tells c = rw c.in-Drain.is (drain_tells _ _ _ c.requires.quiet)
