use Rattle.std.proofs.Common.{◌≡◌, ℕ, true, false, List, [], length, take, refl, inl, sym, ap, subst, rules}
use Rattle.std.specs.Prelude.{is_some}
use Rattle.std.proofs.Math.Seq.{take-length}
use Rattle.ads.specs.Ends.{client_view}
use Rattle.proxy_core.specs.Events.{ads_bytes, ads_output}
use Rattle.rbac_serve.specs.Tables.{sessions_of}
use Rattle.rbac_serve.specs.Turns.{Works, no_stream}
use Rattle.rbac_serve.specs.Workers.{worker_view}
use Rattle.rbac_serve.proofs.Feeding.{drop_works, feed_works, fits_same, judges_up, none_up, one_request, with_stream}
use Rattle.rbac_serve.proofs.CallLemmas.{same_fits, same_reached}
use Rattle.rbac_serve.proofs.Turning.{works_more}
use Rattle.rbac_serve.proofs.worker.Worker.feed_all.Goals as goal

pub invariant_of-self : goal.invariant_of-self
invariant_of-self c =
    let old = c.args.self.now in
    record {
      fits = same_fits old.client c.feed.new.self old.connections.items c.in_err-fed.ensures.fault old.fits;
      reached = same_reached old.client c.feed.new.self old.connections.items old.requests c.in_err-fed.ensures.fault old.reached;
    }

pub invariant_of-self-2 : goal.invariant_of-self-2
invariant_of-self-2 c =
    let old = c.args.self.now in
    let client = client_view c.feed.new.self in
    let up : is_some (client_view old.client).stream ≡ true = search rules in
    let (versions, fed) = c.in_ok-fed.ensures.found in
    record {
      fits = fits_same (client_view old.client) client (sessions_of old.connections.items) c.in_ok-fed.ensures.config old.fits;
      reached = works_more (ads_bytes c.args.bytes.now) (ads_output c.in_ok-fed.fed.replies.items (is_some c.in_ok-fed.fed.ended))
          (worker_view old) (with_stream (worker_view old) client c.of.result)
          (feed_works (worker_view old) c.args.bytes.now c.requires c.in_ok-fed.fed.replies.items c.of.result
          (is_some c.in_ok-fed.fed.ended) versions client up fed c.of.ensures) old.reached;
    }

pub returns-then-not-is_up-clause-found : goal.returns-then-not-is_up-clause-found
returns-then-not-is_up-clause-found c =
    let old = worker_view c.args.self.now in
    let down : is_some old.core.client.stream ≡ false = search rules in
    subst (λ (l : List ℕ). Works old (ads_bytes c.args.bytes.now) (ads_output l false) old) (sym c.requires)
    (drop_works old c.args.bytes.now c.requires down)

pub returns-clause-found : goal.returns-clause-found
returns-clause-found c =
    let old = worker_view c.args.self.now in
    let client = client_view c.feed.new.self in
    let up : is_some old.core.client.stream ≡ true = search rules in
    let (versions, fed) = c.in_ok-fed.ensures.found in
    subst (λ (l : List ℕ). Works old (ads_bytes c.args.bytes.now) (ads_output l (is_some c.in_ok-fed.fed.ended))
    (with_stream old client c.of.result)) (sym c.of.ensures)
    (feed_works old c.args.bytes.now c.requires c.in_ok-fed.fed.replies.items c.of.result
    (is_some c.in_ok-fed.fed.ended) versions client up fed c.of.ensures)

pub returns-then-not-is_up-clause-one : goal.returns-then-not-is_up-clause-one
returns-then-not-is_up-clause-one c = λ one. inl c.requires

pub returns-clause-one : goal.returns-clause-one
returns-clause-one c = λ one.
    let (versions, fed) = c.in_ok-fed.ensures.found in
    rw c.of.ensures (one_request (client_view c.args.self.now.client) c.args.bytes.now c.in_ok-fed.fed.replies.items
    (is_some c.in_ok-fed.fed.ended) versions (client_view c.feed.new.self) one fed)

pub returns-then-not-is_up-clause-judged : goal.returns-then-not-is_up-clause-judged
returns-then-not-is_up-clause-judged c =
    let old = c.args.self.now in
    let down : is_some (client_view old.client).stream ≡ false = search rules in
    no_stream c.requires (none_up (client_view old.client).stream down) c.new.ensures.items refl

pub returns-clause-judged : goal.returns-clause-judged
returns-clause-judged c =
    let old = c.args.self.now in
    let up : is_some (client_view old.client).stream ≡ true = search rules in
    judges_up (worker_view old) c.args.bytes.now (length c.args.bytes.now) c.in_ok-fed.fed.judgements.items
    c.in_ok-fed.fed.ended _ (client_view old.client).stream c.requires refl up
    (rw (c.of.ensures, take-length c.args.bytes.now) c.in_ok-fed.ensures.judged)
