use Rattle.std.proofs.Common.{◌≡◌, ◌<◌, [], length, refl, set, ap, ◌∙◌, arith}
use Rattle.ads.specs.Ends.{client_view}
use Rattle.rbac_serve.specs.Turns.{answer_sent}
use Rattle.rbac_serve.specs.Tables.{state_of}
use Rattle.rbac_serve.specs.declared.connection.ConnectionState.{ConnectionState}
use Rattle.rbac_serve.specs.private.ConnectionStates.{free_connection}
use Rattle.rbac_serve.proofs.CallLemmas.{left_there, nothing_sent, put_fits, send_done, send_past}
use Rattle.rbac_serve.proofs.PlaceLemmas.{fits_at, waits_past}
use Rattle.rbac_serve.proofs.Turning.{reached_more}
use Rattle.rbac_serve.proofs.worker.Worker.send.Goals as goal

pub invariant_of-self : goal.invariant_of-self
invariant_of-self g c =
    let old = c.args.self.now in
    let gs = old.connections.items in
    let mid = c.put_connection-session.new.connections.items in
    let new = c.put_connection-free.new.connections.items in
    let was = c.put_connection-session.result in
    let h : ConnectionState = record { session = was.session; outbox = c.send-sent.new.self } in
    let taken : mid ≡ set gs c.args.k free_connection =
    c.put_connection-session.ensures.after ∙ ap (λ (x : ConnectionState). set gs c.args.k x) c.new_connection.ensures in
    let (sent, appends, parts) = c.send-sent.ensures.order in
    record {
      fits = put_fits old.client old.requests gs c.args.k mid new was h c.put_connection-session.ensures.before taken
          c.put_connection-free.ensures.after
          (fits_at (client_view old.client).config.limits gs c.args.k was c.put_connection-session.ensures.before old.fits) old.fits;
      reached = reached_more (answer_sent c.args.k sent) (state_of old.client gs old.requests)
          (state_of old.client new old.requests)
          (send_done old.client old.requests gs c.args.k mid new was h c.put_connection-session.ensures.before taken
          c.put_connection-free.ensures.after sent refl parts) old.reached;
    }

pub returns-then-k-len-clause-order : goal.returns-then-k-len-clause-order
returns-then-k-len-clause-order g c =
    let old = c.args.self.now in (
      [],
      nothing_sent _,
      send_past old.client old.requests old.connections.items c.args.k (omega (arith, c.if-k-len.true, c.len.ensures)),
    )

pub returns-then-k-len-clause-all : goal.returns-then-k-len-clause-all
returns-then-k-len-clause-all g c = (
  λ is. waits_past c.args.self.now.connections.items c.args.k (omega (arith, c.if-k-len.true, c.len.ensures)),
  λ is. refl,
)

pub returns-clause-order : goal.returns-clause-order
returns-clause-order g c =
    let old = c.args.self.now in
    let gs = old.connections.items in
    let mid = c.put_connection-session.new.connections.items in
    let new = c.put_connection-free.new.connections.items in
    let was = c.put_connection-session.result in
    let h : ConnectionState = record { session = was.session; outbox = c.send-sent.new.self } in
    let taken : mid ≡ set gs c.args.k free_connection =
    c.put_connection-session.ensures.after ∙ ap (λ (x : ConnectionState). set gs c.args.k x) c.new_connection.ensures in
    let (sent, appends, parts) = c.send-sent.ensures.order in (
      sent,
      appends,
      send_done old.client old.requests gs c.args.k mid new was h c.put_connection-session.ensures.before taken
          c.put_connection-free.ensures.after sent refl parts,
    )

pub returns-clause-all : goal.returns-clause-all
returns-clause-all g c =
    let old = c.args.self.now in
    let gs = old.connections.items in
    let was = c.put_connection-session.result in
    let h : ConnectionState = record { session = was.session; outbox = c.send-sent.new.self } in
    let taken : c.put_connection-session.new.connections.items ≡ set gs c.args.k free_connection =
    c.put_connection-session.ensures.after ∙ ap (λ (x : ConnectionState). set gs c.args.k x) c.new_connection.ensures in
    let within : c.args.k < length gs = omega (arith, c.if-k-len.false, c.len.ensures) in
    rw (left_there old.client old.requests gs c.args.k c.put_connection-session.new.connections.items c.put_connection-free.new.connections.items
    was h c.put_connection-session.ensures.before taken c.put_connection-free.ensures.after within) c.send-sent.ensures.all
