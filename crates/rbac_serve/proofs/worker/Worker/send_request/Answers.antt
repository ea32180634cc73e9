use Rattle.std.proofs.Common.{refl}
use Rattle.rbac_serve.specs.Turns.{request_sent}
use Rattle.rbac_serve.specs.Workers.{worker_view}
use Rattle.rbac_serve.proofs.Turning.{reached_more}
use Rattle.rbac_serve.proofs.worker.Worker.send_request.Goals as goal

pub invariant_of-self : goal.invariant_of-self
invariant_of-self g c =
    let (sent, appends, parts) = c.send.ensures.order in
    record {
      fits = c.args.self.now.fits;
      reached = reached_more (request_sent sent) (worker_view c.args.self.now) _ (c.send.new.self, parts, refl)
          c.args.self.now.reached;
    }

pub returns-clause-order : goal.returns-clause-order
returns-clause-order g c =
    let (sent, appends, parts) = c.send.ensures.order in (sent, appends, (c.send.new.self, parts, refl))
