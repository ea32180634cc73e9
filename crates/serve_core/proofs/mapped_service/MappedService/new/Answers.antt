-- Nothing has happened yet.
use Rattle.std.proofs.Common.{length, sym, ap, ◌∙◌}
use Rattle.proxy_core.proofs.Places.{nobody_length}
use Rattle.rbac_serve.specs.Tables.{WorkerValue}
use Rattle.serve_core.specs.Cores.{core_view}
use Rattle.serve_core.specs.Fronts.{AreNewFronts, FrontsValue}
use Rattle.serve_core.proofs.FrontRuns.{waits_none}
use Rattle.serve_core.proofs.mapped_service.MappedService.new.Goals as goal

pub invariant_of-result : goal.invariant_of-result
invariant_of-result c =
    let (none, worker) = c.in_ok-core.ensures in
    let places = c.in_ok-connections.ensures in
    let fronts : FrontsValue = record { core = core_view c.in_ok-core.core; connections = c.in_ok-connections.connections.items } in
    let fresh : AreNewFronts fronts = (none, places.none, (c.args.places, c.args.config.now, worker)) in
    record {
      run = ∣ rw c.new-2.ensures fresh ∣₁;
      waits = ∣ rw c.new-2.ensures (waits_none fronts fresh) ∣₁;
      matched = places.length ∙ sym (ap (λ (w : WorkerValue). length w.core.conns) worker ∙ nobody_length c.args.places);
    }
