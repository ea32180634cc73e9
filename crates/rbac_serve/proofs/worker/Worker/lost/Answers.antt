use Rattle.std.proofs.Common.{◌≡◌, ap}
use Rattle.ads.specs.Client.{ClientValue}
use Rattle.ads.specs.Ends.{client_view}
use Rattle.proxy_core.specs.Events.{ads_lost, no_output}
use Rattle.rbac_serve.specs.Tables.{sessions_of}
use Rattle.rbac_serve.specs.Workers.{worker_view}
use Rattle.rbac_serve.proofs.Feeding.{fits_same, lost_works, with_stream}
use Rattle.rbac_serve.proofs.Turning.{works_more}
use Rattle.rbac_serve.proofs.worker.Worker.lost.Goals as goal

pub invariant_of-self : goal.invariant_of-self
invariant_of-self c =
    let old = c.args.self.now in
    let client = client_view c.lost.new.self in
    let same : client.config ≡ (client_view old.client).config =
    ap (λ (v : ClientValue). v.config) c.lost.ensures in
    record {
      fits = fits_same (client_view old.client) client (sessions_of old.connections.items) same old.fits;
      reached = works_more ads_lost no_output (worker_view old) (with_stream (worker_view old) client c.new.result)
          (lost_works (worker_view old) client c.new.result c.lost.ensures c.new.ensures) old.reached;
    }

pub returns : goal.returns
returns c =
    lost_works (worker_view c.args.self.now) (client_view c.lost.new.self) c.new.result c.lost.ensures c.new.ensures
