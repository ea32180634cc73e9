use Rattle.std.proofs.Common.{◌≡◌, false, ap}
use Rattle.ads.specs.Client.{ClientValue}
use Rattle.ads.specs.Ends.{client_view}
use Rattle.proxy_core.specs.Events.{ads_output, ads_up}
use Rattle.rbac_serve.specs.Tables.{sessions_of}
use Rattle.rbac_serve.specs.Workers.{worker_view}
use Rattle.rbac_serve.proofs.Feeding.{fits_same, up_works, with_stream}
use Rattle.rbac_serve.proofs.CallLemmas.{same_fits, same_reached}
use Rattle.rbac_serve.proofs.Turning.{works_more}
use Rattle.rbac_serve.proofs.worker.Worker.up.Goals as goal

pub invariant_of-self : goal.invariant_of-self
invariant_of-self c =
    let old = c.args.self.now in
    record {
      fits = same_fits old.client c.connected.new.self old.connections.items c.in_err-bytes.ensures.fault old.fits;
      reached = same_reached old.client c.connected.new.self old.connections.items old.requests c.in_err-bytes.ensures.fault old.reached;
    }

pub invariant_of-self-2 : goal.invariant_of-self-2
invariant_of-self-2 c =
    let old = c.args.self.now in
    let client = client_view c.connected.new.self in
    let same : client.config ≡ (client_view old.client).config =
    ap (λ (v : ClientValue). v.config) c.in_ok-bytes.ensures.up in
    record {
      fits = fits_same (client_view old.client) client (sessions_of old.connections.items) same old.fits;
      reached = works_more ads_up (ads_output c.in_ok-bytes.bytes.items false) (worker_view old)
          (with_stream (worker_view old) client c.of.result)
          (up_works (worker_view old) client c.in_ok-bytes.bytes.items c.of.result c.in_ok-bytes.ensures.found
          c.in_ok-bytes.ensures.up c.of.ensures) old.reached;
    }

pub returns-clause-found : goal.returns-clause-found
returns-clause-found c = (
  c.in_ok-bytes.bytes.items,
  up_works (worker_view c.args.self.now) (client_view c.connected.new.self) c.in_ok-bytes.bytes.items c.of.result
      c.in_ok-bytes.ensures.found c.in_ok-bytes.ensures.up c.of.ensures,
)
