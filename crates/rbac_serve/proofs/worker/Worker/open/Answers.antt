use Rattle.std.proofs.Common.{◌≡◌, ◌<◌, ℕ, List, [], length, set, ap, ◌∙◌, arith}
use Rattle.std.specs.Prelude.{is_none}
use Rattle.attributes.specs.Conn.{conn_view}
use Rattle.ads.specs.Ends.{client_view}
use Rattle.proxy_core.specs.Events.{http_open, http_output}
use Rattle.rbac_serve.proofs.CallLemmas.{none_reported, open_done, open_past}
use Rattle.rbac_serve.proofs.PlaceLemmas.{fits_put_is}
use Rattle.rbac_serve.proofs.Turning.{works_more}
use Rattle.rbac_serve.specs.Tables.{state_of}
use Rattle.rbac_serve.proofs.worker.Worker.open.Goals as goal

pub invariant_of-self : goal.invariant_of-self
invariant_of-self c =
    let old = c.args.self.now in
    let new = c.put_connection-closed.new.connections.items in
    let front = c.in_ok-session.session in
    let within : c.args.k < length old.connections.items = omega (arith, c.if-k-len.false, c.len.ensures) in
    let reported : c.is_none-closes.result ≡ is_none front =
    none_reported front c.is_none-closes.result c.is_none-closes.ensures in
    let put : new ≡ set old.connections.items c.args.k (record { session = front; outbox = [] }) =
    c.put_connection-closed.ensures.after
    ∙ ap (λ (l : List ℕ). set old.connections.items c.args.k (record { session = front; outbox = l })) c.new.ensures in
    record {
      fits = fits_put_is (client_view old.client).config.limits old.connections.items new c.args.k
          (record { session = front; outbox = [] }) put c.in_ok-session.ensures.limits old.fits;
      reached = works_more (http_open c.args.k (conn_view c.args.conn.now)) (http_output [] c.is_none-closes.result)
          (state_of old.client old.connections.items old.requests) (state_of old.client new old.requests)
          (open_done old.client old.requests old.connections.items c.args.k new (conn_view c.args.conn.now) front
          c.is_none-closes.result within put c.in_ok-session.ensures.found reported) old.reached;
    }

pub returns-then-k-len-clause-found : goal.returns-then-k-len-clause-found
returns-then-k-len-clause-found c =
    let old = c.args.self.now in
    open_past old.client old.requests old.connections.items c.args.k (omega (arith, c.if-k-len.true, c.len.ensures))
    (conn_view c.args.conn.now)

pub returns-clause-found : goal.returns-clause-found
returns-clause-found c =
    let old = c.args.self.now in
    let new = c.put_connection-closed.new.connections.items in
    let front = c.in_ok-session.session in
    let within : c.args.k < length old.connections.items = omega (arith, c.if-k-len.false, c.len.ensures) in
    let reported : c.is_none-closes.result ≡ is_none front =
    none_reported front c.is_none-closes.result c.is_none-closes.ensures in
    let put : new ≡ set old.connections.items c.args.k (record { session = front; outbox = [] }) =
    c.put_connection-closed.ensures.after
    ∙ ap (λ (l : List ℕ). set old.connections.items c.args.k (record { session = front; outbox = l })) c.new.ensures in
    open_done old.client old.requests old.connections.items c.args.k new (conn_view c.args.conn.now) front
    c.is_none-closes.result within put c.in_ok-session.ensures.found reported
