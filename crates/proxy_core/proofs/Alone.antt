-- A connection among many has the outputs that it has alone.
use Rattle.std.proofs.Common.{◌≡◌, ℕ, ◌<◌, ◌==◌, Bool, true, false, true≢false, Option, Some, None, List, [], ◌∷◌, length, refl, sym, ap, ◌∙◌, arith, if◌then◌else◌, length-set}
use Rattle.std.proofs.lemmas.Bool.{eqb-true, eq-eqb}
use Rattle.attributes.specs.Conn.{Facts}
use Rattle.ads.specs.Config.{ConfigValue}
use Rattle.ads.specs.Client.{ClientValue}
use Rattle.http_front.specs.Front.{FrontValue}
use Rattle.proxy_core.specs.Events.{EventValue, ads_up, ads_bytes, ads_lost, http_open, http_bytes, http_closed, OutputValue}
use Rattle.proxy_core.specs.Headline.{Headline}
use Rattle.proxy_core.specs.Step.{CallsDo, EventCall, answered, no_memory, OpensAt, in_place, nowhere, ProxyValue, StepsBy, TakesAds, TakesHttp, events_of, outputs_of, front_at, new_proxy, new_with, nobody, with_conn}
use Rattle.proxy_core.specs.Worker.{call_then, calls_at, seen_at}
use Rattle.proxy_core.proofs.Places.{nobody_length, none_there, set_none, set_other, set_same}
use Rattle.proxy_core.proofs.Whole.{headline}

-- the proxy that has the connection in place `k` alone, in place 0
abbrev alone : ℕ → ProxyValue → ProxyValue
alone k p = record { client = p.client; conns = front_at p k ∷ nobody 7 }

-- ---- what is put in place `k` is put in place 0

abbrev joined : ClientValue → Option FrontValue → ProxyValue
joined client front = record { client = client; conns = front ∷ nobody 7 }

put_there : (k : ℕ) (old : ProxyValue) (conn : Option FrontValue) → k < length old.conns
    → alone k (with_conn old k conn) ≡ with_conn (alone k old) 0 conn
put_there k old conn in' = ap (joined old.client) (set_same old.conns k conn in')

closed_there : (k : ℕ) (old : ProxyValue) → alone k (with_conn old k None) ≡ with_conn (alone k old) 0 None
closed_there k old = ap (joined old.client) (set_none old.conns k)

-- another place is none of its matter
put_elsewhere : (k j : ℕ) (old : ProxyValue) (conn : Option FrontValue) → (k == j) ≡ false
    → alone k (with_conn old j conn) ≡ alone k old
put_elsewhere k j old conn is =
    ap (joined old.client) (set_other old.conns j k conn (λ same. true≢false (sym (eq-eqb k j (sym same)) ∙ is)))

-- ---- the update stream

ads_alone : (r : Option (List ℕ)) (k : ℕ) (old : ProxyValue) (bytes : List ℕ) (out : OutputValue) (new : ProxyValue)
    → TakesAds r old bytes out new → TakesAds r (alone k old) bytes out (alone k new)
ads_alone None k old bytes out new (is, same) = (is, ap (alone k) same)
ads_alone (Some rest) k old bytes out new (replies, is_broken, versions, client, feeds, is, same) =
    (replies, is_broken, versions, client, feeds, is, ap (alone k) same)

-- ---- the connection's own events

opens_alone : (k : ℕ) (old : ProxyValue) (facts : Facts) (out : OutputValue) (new : ProxyValue) → k < length old.conns
    → OpensAt old k facts out new → OpensAt (alone k old) 0 facts out (alone k new)
opens_alone k old facts out new in' (in_place front there opens is made) =
    in_place front (omega arith) opens is (ap (alone k) made ∙ put_there k old front in')
opens_alone k old facts out new in' (nowhere far is made) = absurd (omega (arith, in', far))

http_alone : (f : Option FrontValue) (k : ℕ) (old : ProxyValue) (bytes : List ℕ) (out : OutputValue) (new : ProxyValue)
    → k < length old.conns → TakesHttp f old k bytes out new → TakesHttp f (alone k old) 0 bytes out (alone k new)
http_alone None k old bytes out new in' (is, same) = (is, ap (alone k) same)
http_alone (Some front) k old bytes out new in' (http, after, takes, is, made) =
    (http, after, takes, is, ap (alone k) made ∙ put_there k old after in')

-- ---- the events of others

http_elsewhere : (f : Option FrontValue) (k j : ℕ) (old : ProxyValue) (bytes : List ℕ) (out : OutputValue)
    (new : ProxyValue) → (k == j) ≡ false → TakesHttp f old j bytes out new → alone k new ≡ alone k old
http_elsewhere None k j old bytes out new other (is, same) = ap (alone k) same
http_elsewhere (Some front) k j old bytes out new other (http, after, takes, is, made) =
    ap (alone k) made ∙ put_elsewhere k j old after other

opens_elsewhere : (k j : ℕ) (old : ProxyValue) (facts : Facts) (out : OutputValue) (new : ProxyValue)
    → (k == j) ≡ false → OpensAt old j facts out new → alone k new ≡ alone k old
opens_elsewhere k j old facts out new other (in_place front there opens is made) =
    ap (alone k) made ∙ put_elsewhere k j old front other
opens_elsewhere k j old facts out new other (nowhere far is made) = ap (alone k) made

-- ---- the places stay

ads_stays : (r : Option (List ℕ)) (old : ProxyValue) (bytes : List ℕ) (out : OutputValue) (new : ProxyValue)
    → TakesAds r old bytes out new → length new.conns ≡ length old.conns
ads_stays None old bytes out new (is, same) = ap (λ (p : ProxyValue). length p.conns) same
ads_stays (Some rest) old bytes out new (replies, is_broken, versions, client, feeds, is, same) =
    ap (λ (p : ProxyValue). length p.conns) same

put_stays : (k : ℕ) (old new : ProxyValue) (conn : Option FrontValue) → new ≡ with_conn old k conn
    → length new.conns ≡ length old.conns
put_stays k old new conn made = ap (λ (p : ProxyValue). length p.conns) made ∙ length-set old.conns k conn

http_stays : (f : Option FrontValue) (k : ℕ) (old : ProxyValue) (bytes : List ℕ) (out : OutputValue) (new : ProxyValue)
    → TakesHttp f old k bytes out new → length new.conns ≡ length old.conns
http_stays None k old bytes out new (is, same) = ap (λ (p : ProxyValue). length p.conns) same
http_stays (Some front) k old bytes out new (http, after, takes, is, made) = put_stays k old new after made

opens_stays : (k : ℕ) (old : ProxyValue) (facts : Facts) (out : OutputValue) (new : ProxyValue)
    → OpensAt old k facts out new → length new.conns ≡ length old.conns
opens_stays k old facts out new (in_place front there opens is made) = put_stays k old new front made
opens_stays k old facts out new (nowhere far is made) = ap (λ (p : ProxyValue). length p.conns) made

stays : (event : EventValue) (old : ProxyValue) (out : OutputValue) (new : ProxyValue) → StepsBy old event out new
    → length new.conns ≡ length old.conns
stays ads_up old out new (bytes, frame, is, made) = ap (λ (p : ProxyValue). length p.conns) made
stays (ads_bytes bytes) old out new gives = ads_stays old.client.stream old bytes out new gives
stays ads_lost old out new (is, made) = ap (λ (p : ProxyValue). length p.conns) made
stays (http_open k facts) old out new opens = opens_stays k old facts out new opens
stays (http_bytes k bytes) old out new gives = http_stays (front_at old k) k old bytes out new gives
stays (http_closed k) old out new (is, made) = put_stays k old new None made

-- ---- one event

-- the effect of an event as it is seen in a place: none, if it is not seen there
abbrev SeenBy : Option EventValue → ProxyValue → OutputValue → ProxyValue → Type 0
SeenBy None old out new = new ≡ old
SeenBy (Some event) old out new = StepsBy old event out new

-- seen or not, by whose it is
one_of : (b : Bool) (event : EventValue) (old : ProxyValue) (out : OutputValue) (new : ProxyValue)
    → (b ≡ true → StepsBy old event out new) → (b ≡ false → new ≡ old)
    → SeenBy (if b then Some event else None) old out new
one_of true event old out new own other = own refl
one_of false event old out new own other = other refl

step_seen : (event : EventValue) (k : ℕ) (old : ProxyValue) (out : OutputValue) (new : ProxyValue)
    → k < length old.conns → StepsBy old event out new → SeenBy (seen_at k event) (alone k old) out (alone k new)
step_seen ads_up k old out new in' (bytes, frame, is, made) = (bytes, frame, is, ap (alone k) made)
step_seen (ads_bytes bytes) k old out new in' gives = ads_alone old.client.stream k old bytes out new gives
step_seen ads_lost k old out new in' (is, made) = (is, ap (alone k) made)
step_seen (http_open j facts) k old out new in' opens =
    one_of (k == j) (http_open 0 facts) (alone k old) out (alone k new)
    (λ same. opens_alone k old facts out new in' (rw (sym (eqb-true k j same)) at opens))
    (λ other. opens_elsewhere k j old facts out new other opens)
step_seen (http_bytes j bytes) k old out new in' gives =
    one_of (k == j) (http_bytes 0 bytes) (alone k old) out (alone k new)
    (λ same. http_alone (front_at old k) k old bytes out new in' (rw (sym (eqb-true k j same)) at gives))
    (λ other. http_elsewhere (front_at old j) k j old bytes out new other gives)
step_seen (http_closed j) k old out new in' (is, made) =
    one_of (k == j) (http_closed 0) (alone k old) out (alone k new)
    (λ same. (is, ap (alone k) (rw (sym (eqb-true k j same)) at made) ∙ closed_there k old))
    (λ other. ap (alone k) made ∙ put_elsewhere k j old None other)

-- ---- all events

seen_then : (o : Option EventValue) (out : OutputValue) (calls : List EventCall) (old next end : ProxyValue)
    → SeenBy o old out next → CallsDo next calls end
    → CallsDo old (call_then (λ e. answered e out) o calls) end
seen_then None out calls old next end same others = rw (sym same) others
seen_then (Some event) out calls old next end steps others = (next, steps, others)

skipped_then : (o : Option EventValue) (calls : List EventCall) (old end : ProxyValue) → CallsDo old calls end
    → CallsDo old (call_then no_memory o calls) end
skipped_then None calls old end others = others
skipped_then (Some event) calls old end others = (old, refl, others)

all_seen : (calls : List EventCall) (k : ℕ) (old end : ProxyValue) → k < length old.conns → CallsDo old calls end
    → CallsDo (alone k old) (calls_at k calls) (alone k end)
all_seen [] k old end in' same = ap (alone k) same
all_seen (no_memory event ∷ calls) k old end in' (next, same, others) =
    skipped_then (seen_at k event) (calls_at k calls) (alone k old) (alone k end)
    (all_seen calls k old end in' (rw same at others))
all_seen (answered event out ∷ calls) k old end in' (next, steps, others) =
    seen_then (seen_at k event) out (calls_at k calls) (alone k old) (alone k next) (alone k end)
    (step_seen event k old out next in' steps)
    (all_seen calls k next end (rw (stays event old out next steps) in') others)

starts_alone : (n k : ℕ) (c : ConfigValue) → alone k (new_with n c) ≡ new_proxy c
starts_alone n k c = ap (joined (new_with n c).client) (none_there n k)

pub is_a_proxy : (c : ConfigValue) (n k : ℕ) (calls : List EventCall) (end : ProxyValue) → k < n
    → CallsDo (new_with n c) calls end
    → (last : ProxyValue) × CallsDo (new_proxy c) (calls_at k calls) last × (last.client ≡ end.client)
    × (front_at last 0 ≡ front_at end k)
is_a_proxy c n k calls end in' all = (
  alone k end,
  rw (starts_alone n k c) at (all_seen calls k (new_with n c) end (rw (nobody_length n) in') all),
  refl,
  refl,
)

pub worker_headline : (c : ConfigValue) (n k : ℕ) (calls : List EventCall) (end : ProxyValue) → k < n
    → CallsDo (new_with n c) calls end → Headline c (events_of (calls_at k calls)) (outputs_of (calls_at k calls))
worker_headline c n k calls end in' all =
    let (last, run, client, front) = is_a_proxy c n k calls end in' all in
    headline c (calls_at k calls) last run
