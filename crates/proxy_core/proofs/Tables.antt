-- Sessions that are kept in a table, beside a client: what is done with one is an event.
use Rattle.std.proofs.Common.{◌≡◌, ℕ, ◌<◌, Bool, false, Option, Some, None, List, [], ◌∷◌, ◌++◌, length, refl, ap}
use Rattle.std.specs.Prelude.{is_none}
use Rattle.attributes.specs.Conn.{Facts}
use Rattle.ads.specs.Answer.{first_request}
use Rattle.ads.specs.Client.{ClientValue, Feeds, IsFrameThen, stream_down, stream_up}
use Rattle.http_front.specs.Front.{FrontValue}
use Rattle.proxy_core.specs.Events.{ads_up, ads_bytes, ads_lost, http_open, http_bytes, http_closed, ads_output, http_output, no_output}
use Rattle.proxy_core.specs.Step.{CallDoes, CallsDo, EventCall, answered, no_memory, OpensFront, in_place, ProxyValue, StepsBy, TakesAds, TakesBytes, front_at, with_client, with_conn}

pub open_step : (p : ProxyValue) (k : ℕ) (facts : Facts) (front : Option FrontValue) → k < length p.conns
    → OpensFront p.client.config.limits facts front
    → StepsBy p (http_open k facts) (http_output [] (is_none front)) (with_conn p k front)
open_step p k facts front in' opens = in_place front in' opens refl refl

pub bytes_step : (p : ProxyValue) (k : ℕ) (front : FrontValue) (bytes http : List ℕ) (after : Option FrontValue)
    → front_at p k ≡ Some front → TakesBytes p.client.accepted front bytes http after
    → StepsBy p (http_bytes k bytes) (http_output http (is_none after)) (with_conn p k after)
bytes_step p k front bytes http after there takes = rw there (http, after, takes, refl, refl)

pub close_step : (p : ProxyValue) (k : ℕ) → StepsBy p (http_closed k) no_output (with_conn p k None)
close_step p k = (refl, refl)

-- memory ran out for bytes: the connection is closed
pub gone_step : (p : ProxyValue) (k : ℕ) (bytes : List ℕ)
    → CallsDo p (no_memory (http_bytes k bytes) ∷ answered (http_closed k) no_output ∷ []) (with_conn p k None)
gone_step p k bytes = (p, refl, (with_conn p k None, close_step p k, refl))

pub up_step : (p : ProxyValue) (client : ClientValue) (bytes : List ℕ)
    → IsFrameThen (first_request p.client.config p.client.accepted) bytes [] → client ≡ stream_up p.client
    → StepsBy p ads_up (ads_output bytes false) (with_client p client)
up_step p client bytes frame is = (bytes, frame, refl, ap (with_client p) is)

pub feed_step : (p : ProxyValue) (rest bytes replies : List ℕ) (is_broken : Bool) (versions : List (List ℕ))
    (client : ClientValue) → p.client.stream ≡ Some rest → Feeds p.client bytes replies is_broken versions client
    → StepsBy p (ads_bytes bytes) (ads_output replies is_broken) (with_client p client)
feed_step p rest bytes replies is_broken versions client up feeds = by p.client.stream up
  where
    by : (s : Option (List ℕ)) → s ≡ Some rest → TakesAds s p bytes (ads_output replies is_broken) (with_client p client)
    by None is = absurd cc
    by (Some more) is = (replies, is_broken, versions, client, feeds, refl, refl)

pub lost_step : (p : ProxyValue) → StepsBy p ads_lost no_output (with_client p (stream_down p.client))
lost_step p = (refl, refl)

-- one more call
pub calls_more : (calls : List EventCall) (call : EventCall) (old now new : ProxyValue) → CallsDo old calls now
    → CallDoes now call new → CallsDo old (calls ++ call ∷ []) new
calls_more [] call old now new same does = (new, rw same at does, refl)
calls_more (first ∷ calls) call old now new (next, does, others) last =
    (next, does, calls_more calls call next now new others last)
