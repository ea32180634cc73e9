use Rattle.std.proofs.Common.{◌≡◌, set, ap, ◌∙◌, arith}
use Rattle.std.proofs.lemmas.Result.{err_from_is_err_and}
use Rattle.ads.specs.Ends.{client_view}
use Rattle.rbac_serve.specs.declared.connection.ConnectionState.{ConnectionState}
use Rattle.rbac_serve.specs.private.ConnectionStates.{free_connection}
use Rattle.rbac_serve.proofs.CallLemmas.{bytes_done, bytes_past, bytes_reached, close_reached, put_fits}
use Rattle.rbac_serve.proofs.PlaceLemmas.{fits_at, fits_put_is, state_put}
use Rattle.rbac_serve.proofs.worker.Worker.bytes.Goals as goal

pub answer_connection-requires : goal.answer_connection-requires
answer_connection-requires c =
    let old = c.args.self.now in
    fits_at (client_view old.client).config.limits old.connections.items c.args.k c.put_connection-connection.result
    c.put_connection-connection.ensures.before old.fits

pub invariant_of-self : goal.invariant_of-self
invariant_of-self c =
    let old = c.args.self.now in
    let mid = c.put_connection-connection.new.connections.items in
    let taken : mid ≡ set old.connections.items c.args.k free_connection =
    c.put_connection-connection.ensures.after ∙ ap (λ (x : ConnectionState). set old.connections.items c.args.k x) c.new_connection.ensures in
    record {
      fits = fits_put_is (client_view old.client).config.limits old.connections.items mid c.args.k free_connection taken tt old.fits;
      reached = close_reached old.client old.requests old.connections.items c.args.k mid taken old.reached;
    }

pub invariant_of-self-2 : goal.invariant_of-self-2
invariant_of-self-2 c =
    let old = c.args.self.now in
    let gs = old.connections.items in
    let mid = c.put_connection-connection.new.connections.items in
    let new = c.put_connection-free.new.connections.items in
    let g = c.put_connection-connection.result in
    let h = c.in_ok-connection.connection in
    let there = c.put_connection-connection.ensures.before in
    let taken : mid ≡ set gs c.args.k free_connection =
    c.put_connection-connection.ensures.after ∙ ap (λ (x : ConnectionState). set gs c.args.k x) c.new_connection.ensures in
    let (http, answer_connection, waits) = c.in_ok-connection.ensures.found in
    record {
      fits = put_fits old.client old.requests gs c.args.k mid new g h there taken c.put_connection-free.ensures.after
          c.in_ok-connection.ensures.fits old.fits;
      reached = bytes_reached old.client old.requests gs c.args.k mid new g h there taken c.put_connection-free.ensures.after
          c.args.bytes.now c.in_ok-connection.answered.answered_asks.items c.in_ok-connection.answered.closes
          (bytes_done old.client old.requests gs c.args.k mid new g h there taken c.put_connection-free.ensures.after
          c.args.bytes.now c.in_ok-connection.answered.answered_asks.items http c.in_ok-connection.answered.closes answer_connection waits) old.reached;
    }

pub returns-then-k-len-clause-found : goal.returns-then-k-len-clause-found
returns-then-k-len-clause-found c =
    let old = c.args.self.now in
    bytes_past old.client old.requests old.connections.items c.args.k (omega (arith, c.if-k-len.true, c.len.ensures))
    c.args.bytes.now c.new.result.items c.new.ensures.items

pub returns-in_err-connection-clause-fault : goal.returns-in_err-connection-clause-fault
returns-in_err-connection-clause-fault c =
    let old = c.args.self.now in
    let mid = c.put_connection-connection.new.connections.items in
    let taken : mid ≡ set old.connections.items c.args.k free_connection =
    c.put_connection-connection.ensures.after ∙ ap (λ (x : ConnectionState). set old.connections.items c.args.k x) c.new_connection.ensures in
    let left = err_from_is_err_and c.from_residual.result c.from_residual.ensures.1 in
    rw left.1 (state_put old.client old.requests old.connections.items mid c.args.k free_connection taken)

pub returns-clause-found : goal.returns-clause-found
returns-clause-found c =
    let old = c.args.self.now in
    let gs = old.connections.items in
    let mid = c.put_connection-connection.new.connections.items in
    let taken : mid ≡ set gs c.args.k free_connection =
    c.put_connection-connection.ensures.after ∙ ap (λ (x : ConnectionState). set gs c.args.k x) c.new_connection.ensures in
    let (http, answer_connection, waits) = c.in_ok-connection.ensures.found in
    bytes_done old.client old.requests gs c.args.k mid c.put_connection-free.new.connections.items c.put_connection-connection.result
    c.in_ok-connection.connection c.put_connection-connection.ensures.before taken c.put_connection-free.ensures.after
    c.args.bytes.now c.in_ok-connection.answered.answered_asks.items http c.in_ok-connection.answered.closes answer_connection waits
