-- By its step.
use Rattle.std.proofs.Common.{None}
use Rattle.std.proofs.lemmas.Result.{MatchResult-weaker}
use Rattle.rbac_serve.specs.Workers.{worker_view}
use Rattle.serve_loop.specs.Events.{event_view}
use Rattle.serve_core.specs.Cores.{core_view}
use Rattle.serve_core.proofs.Rooms.{fits_more}
use Rattle.serve_core.proofs.Setups.{either_way, turn_keeps}
use Rattle.serve_core.proofs.steps.WorkerServiceServiceConn.take.Goals as goal

pub step-requires : goal.step-requires
step-requires c =
    fits_more (worker_view c.args.self.now.worker) c.args.self.now.room (event_view c.args.event.now) c.requires

pub returns-clause-turns : goal.returns-clause-turns
returns-clause-turns c =
    MatchResult-weaker c.step.result c.step.ensures.turn (λ outcome turns. (_, turns.0)) (λ error turns. turns.0)

pub returns-clause-setup : goal.returns-clause-setup
returns-clause-setup c =
    let old = core_view c.args.self.now in
    let new = core_view c.step.new.self in
    either_way c.step.result c.step.ensures.turn (λ outcome turns. turn_keeps old new _ None turns)
    (λ error turns. turn_keeps old new _ None turns)
