-- One turn more.
use Rattle.std.proofs.Common.{◌<◌, arith, length}
use Rattle.std.proofs.Math.Logic.{∥∥₁_elim, ∥∥₁_map}
use Rattle.std.specs.Coded.{coded_list, coded_ℕ}
use base.Stored.{Coded-set}
use Rattle.serve_loop.specs.Events.{event_view}
use Rattle.serve_loop.specs.History.{answered, no_memory, took}
use Rattle.rbac_serve.specs.Workers.{worker_view}
use Rattle.serve_core.specs.OtherProtocols.{updates_of}
use Rattle.serve_core.specs.Turns.{ServerTurn, added_by, kept_before}
use Rattle.serve_core.proofs.Driving.{driven_more, places_of, room_means, waits_more}
use Rattle.serve_core.proofs.worker_service.WorkerService.step.Goals as goal

pub happen-requires-clause-none : goal.happen-requires-clause-none
happen-requires-clause-none c = λ bytes is.
    let (some, few) = rw is at c.requires in
    ∥∥₁_elim c.args.self.now.roomy (Coded-set (coded_list coded_ℕ) _ _) (λ room. room (omega (arith, some, few)))

pub invariant_of-self : goal.invariant_of-self
invariant_of-self c =
    let old = c.args.self.now in
    let event = event_view c.args.event.now in
    let new = worker_view c.happen.new.worker in
    let turn : ServerTurn = took event (answered (added_by event (kept_before event (worker_view old.worker)) new) c.in-Ok.outcome.closes) in
    record {
      driven = ∥∥₁_map old.driven (λ driven. rw (c.then-self.ensures, c.added.ensures, c.waiting_before-before.ensures)
          (driven_more turn old.trace.turns (worker_view old.worker) new c.in-Ok.ensures.turn driven));
      waits = ∥∥₁_map old.waits (λ waits. rw (c.then-self.ensures, c.added.ensures, c.waiting_before-before.ensures)
          (waits_more old.trace.turns (worker_view old.worker) new waits (places_of old.worker) turn c.in-Ok.ensures.turn));
      first_is = ∥∥₁_map old.first_is (λ first. rw c.then-self.ensures
          (c.take-self.ensures.first (updates_of old.trace.turns) first));
      shows = ∥∥₁_map old.first_is (λ first. rw (c.then-self.ensures, c.happen.ensures.other)
          (c.take-self.ensures.found (updates_of old.trace.turns) first));
      roomy = ∣ room_means new.requests c.room_of-self.result c.room_of-self.ensures.waits ∣₁;
    }

pub invariant_of-self-in-Err : goal.invariant_of-self-in-Err
invariant_of-self-in-Err c =
    let old = c.args.self.now in
    let event = event_view c.args.event.now in
    let new = worker_view c.happen.new.worker in
    let turn : ServerTurn = took event no_memory in
    record {
      driven = ∥∥₁_map old.driven (λ driven. rw c.then-self-in-Err.ensures
          (driven_more turn old.trace.turns (worker_view old.worker) new c.in-Err.ensures.turn driven));
      waits = ∥∥₁_map old.waits (λ waits. rw c.then-self-in-Err.ensures
          (waits_more old.trace.turns (worker_view old.worker) new waits (places_of old.worker) turn c.in-Err.ensures.turn));
      first_is = ∥∥₁_map old.first_is (λ first. rw c.then-self-in-Err.ensures
          (c.take-self.ensures.first (updates_of old.trace.turns) first));
      shows = ∥∥₁_map old.first_is (λ first. rw (c.then-self-in-Err.ensures, c.happen.ensures.other)
          (c.take-self.ensures.found (updates_of old.trace.turns) first));
      roomy = ∣ room_means new.requests c.room_of-self-in-Err.result c.room_of-self-in-Err.ensures.waits ∣₁;
    }
