-- Nothing has happened yet.
use Rattle.std.specs.Prelude.{[]}
use Rattle.rbac_serve.specs.Workers.{worker_view}
use Rattle.serve_core.specs.Turns.{IsDriven, Waits}
use Rattle.serve_core.proofs.Driving.{driven_new, room_means, waits_new}
use Rattle.serve_core.proofs.worker_service.WorkerService.new.Goals as goal

pub invariant_of-result : goal.invariant_of-result
invariant_of-result c = record {
  driven = ∣ rw c.new-2.ensures (driven_new _ c.args.places c.args.config.now c.in_ok-worker.ensures) ∣₁;
  waits = ∣ rw c.new-2.ensures (waits_new _ c.args.places c.args.config.now c.in_ok-worker.ensures) ∣₁;
  first_is = ∣ rw c.new-2.ensures c.new-first.ensures ∣₁;
  shows = ∣ rw c.new-2.ensures c.quiet.ensures.none ∣₁;
  roomy = ∣ room_means _ _ c.room_of-room.ensures.waits ∣₁;
}
