use Rattle.std.proofs.Common.{◌≡◌, true, false, [], take, length, min, refl, inl, rules}
use Rattle.std.specs.Prelude.{is_some}
use Rattle.ads.specs.Ends.{client_view}
use Rattle.proxy_core.specs.Events.{ads_bytes, ads_output}
use Rattle.rbac_serve.specs.Tables.{sessions_of}
use Rattle.rbac_serve.specs.Turns.{feeds, no_stream, still, waits}
use Rattle.rbac_serve.specs.Workers.{worker_view}
use Rattle.rbac_serve.proofs.Feeding.{drop_works, feed_works, fits_same, judges_up, none_up, none_waits, one_request, taken_few, taken_lacks, taken_some, with_stream}
use Rattle.rbac_serve.proofs.CallLemmas.{same_fits, same_reached}
use Rattle.rbac_serve.proofs.Turning.{works_more}
use Rattle.rbac_serve.proofs.worker.Worker.feed.Goals as goal

pub invariant_of-self : goal.invariant_of-self
invariant_of-self c =
    let old = c.args.self.now in
    record {
      fits = same_fits old.client c.feed.new.self old.connections.items c.in_err-fed.ensures.fault old.fits;
      reached = same_reached old.client c.feed.new.self old.connections.items old.requests c.in_err-fed.ensures.fault old.reached;
    }

pub invariant_of-self-2 : goal.invariant_of-self-2
invariant_of-self-2 c =
    let old = c.args.self.now in
    let client = client_view c.feed.new.self in
    let none : old.requests ≡ [] = none_waits old.requests c.has_request.result c.has_request.ensures c.if-has_request.false in
    let up : is_some (client_view old.client).stream ≡ true = search rules in
    let (versions, fed) = c.in_ok-fed.ensures.found in
    record {
      fits = fits_same (client_view old.client) client (sessions_of old.connections.items) c.in_ok-fed.ensures.config old.fits;
      reached = works_more (ads_bytes (take c.min-count.result c.args.bytes.now)) (ads_output c.in_ok-fed.fed.replies.items (is_some c.in_ok-fed.fed.ended))
          (worker_view old) (with_stream (worker_view old) client c.of.result)
          (feed_works (worker_view old) (take c.min-count.result c.args.bytes.now) none c.in_ok-fed.fed.replies.items c.of.result
          (is_some c.in_ok-fed.fed.ended) versions client up fed c.of.ensures) old.reached;
    }

pub returns-then-has_request-clause-found : goal.returns-then-has_request-clause-found
returns-then-has_request-clause-found c =
    waits (c.has_request.ensures.0 c.if-has_request.true) refl refl refl

pub returns-then-not-is_up-clause-found : goal.returns-then-not-is_up-clause-found
returns-then-not-is_up-clause-found c =
    let old = worker_view c.args.self.now in
    let none : old.requests ≡ [] = none_waits old.requests c.has_request.result c.has_request.ensures c.if-has_request.false in
    let down : is_some old.core.client.stream ≡ false = search rules in
    let few : c.min-count.result ≡ min c.lacks.result (length c.args.bytes.now) = search rules in
    feeds [] none (λ some. taken_some c.args.bytes.now c.lacks.result c.min-count.result few c.lacks.ensures.some some)
    (taken_few c.args.bytes.now c.lacks.result c.min-count.result few)
    (drop_works old (take c.min-count.result c.args.bytes.now) none down) (inl refl)

pub returns-clause-found : goal.returns-clause-found
returns-clause-found c =
    let old = worker_view c.args.self.now in
    let client = client_view c.feed.new.self in
    let count = c.min-count.result in
    let none : old.requests ≡ [] = none_waits old.requests c.has_request.result c.has_request.ensures c.if-has_request.false in
    let up : is_some old.core.client.stream ≡ true = search rules in
    let few : count ≡ min c.lacks.result (length c.args.bytes.now) = search rules in
    let (versions, fed) = c.in_ok-fed.ensures.found in
    let one = c.lacks.ensures.one (take count c.args.bytes.now)
    (taken_lacks c.args.bytes.now c.lacks.result count few) in
    feeds c.in_ok-fed.fed.replies.items none
    (λ some. taken_some c.args.bytes.now c.lacks.result count few c.lacks.ensures.some some)
    (taken_few c.args.bytes.now c.lacks.result count few)
    (feed_works old (take count c.args.bytes.now) none c.in_ok-fed.fed.replies.items c.of.result
    (is_some c.in_ok-fed.fed.ended) versions client up fed c.of.ensures)
    (one_request old.core.client (take count c.args.bytes.now) c.in_ok-fed.fed.replies.items (is_some c.in_ok-fed.fed.ended)
    versions client one fed)

pub returns-then-has_request-clause-judged : goal.returns-then-has_request-clause-judged
returns-then-has_request-clause-judged c =
    still (c.has_request.ensures.0 c.if-has_request.true) c.new.ensures.items refl

pub returns-then-not-is_up-clause-judged : goal.returns-then-not-is_up-clause-judged
returns-then-not-is_up-clause-judged c =
    let old = c.args.self.now in
    let none : old.requests ≡ [] = none_waits old.requests c.has_request.result c.has_request.ensures c.if-has_request.false in
    let down : is_some (client_view old.client).stream ≡ false = search rules in
    no_stream none (none_up (client_view old.client).stream down) c.new-then-not-is_up.ensures.items refl

pub returns-clause-judged : goal.returns-clause-judged
returns-clause-judged c =
    let old = c.args.self.now in
    let none : old.requests ≡ [] = none_waits old.requests c.has_request.result c.has_request.ensures c.if-has_request.false in
    let up : is_some (client_view old.client).stream ≡ true = search rules in
    judges_up (worker_view old) c.args.bytes.now c.min-count.result c.in_ok-fed.fed.judgements.items
    c.in_ok-fed.fed.ended _ (client_view old.client).stream none refl up (rw c.of.ensures c.in_ok-fed.ensures.judged)
