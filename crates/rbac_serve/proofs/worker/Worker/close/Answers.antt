use Rattle.std.proofs.Common.{◌≡◌, set, ap, ◌∙◌}
use Rattle.ads.specs.Ends.{client_view}
use Rattle.rbac_serve.specs.declared.connection.ConnectionState.{ConnectionState}
use Rattle.rbac_serve.specs.private.ConnectionStates.{free_connection}
use Rattle.rbac_serve.proofs.CallLemmas.{close_done, close_reached}
use Rattle.rbac_serve.proofs.PlaceLemmas.{fits_put_is}
use Rattle.rbac_serve.proofs.worker.Worker.close.Goals as goal

pub invariant_of-self : goal.invariant_of-self
invariant_of-self c =
    let old = c.args.self.now in
    let new = c.put_connection-closed.new.connections.items in
    let put : new ≡ set old.connections.items c.args.k free_connection =
    c.put_connection-closed.ensures.after ∙ ap (λ (g : ConnectionState). set old.connections.items c.args.k g) c.new_connection.ensures in
    record {
      fits = fits_put_is (client_view old.client).config.limits old.connections.items new c.args.k free_connection put tt old.fits;
      reached = close_reached old.client old.requests old.connections.items c.args.k new put old.reached;
    }

pub returns : goal.returns
returns c =
    let old = c.args.self.now in
    let new = c.put_connection-closed.new.connections.items in
    let put : new ≡ set old.connections.items c.args.k free_connection =
    c.put_connection-closed.ensures.after ∙ ap (λ (g : ConnectionState). set old.connections.items c.args.k g) c.new_connection.ensures in
    close_done old.client old.requests old.connections.items c.args.k new put
