-- Turns of a worker in order.
use Rattle.std.proofs.Common.{◌≡◌, ℕ, zero, suc, ◌<◌, Bool, Option, Some, None, List, [], ◌∷◌, ◌++◌, length, set, refl, sym, ap, ◌∙◌, subst, length-set}
use Rattle.std.specs.Prelude.{is_none, slice_get}
use Rattle.std.proofs.Math.Logic.{∥∥₁_elim, ∥∥₁_prop}
use Rattle.std.proofs.lemmas.Grind.{merely}
use Rattle.attributes.specs.Conn.{Facts}
use Rattle.ads.specs.Config.{ConfigValue}
use Rattle.ads.specs.Client.{ClientValue, FeedsBy}
use Rattle.http_front.specs.Front.{FrontValue}
use Rattle.proxy_core.specs.Events.{EventValue, ads_up, ads_bytes, ads_lost, http_open, http_bytes, http_closed, OutputValue, http_output, no_output}
use Rattle.proxy_core.specs.Step.{CallsDo, EventCall, answered, no_memory, OpensAt, OpensFront, in_place, nowhere, ProxyValue, StepsBy, TakesAds, TakesHttp, front_at, front_in, with_client, with_conn}
use Rattle.proxy_core.specs.declared.answered_ask.AnsweredAsk.{AnsweredAsk}
use Rattle.proxy_core.proofs.AnsweredAsks.{answers_takes}
use Rattle.proxy_core.proofs.Places.{nobody_length}
use Rattle.proxy_core.proofs.Tables.{bytes_step, close_step, open_step}
use Rattle.rbac_serve.specs.Tables.{WorkerValue, closed_at, new_worker, waiting_at}
use Rattle.rbac_serve.specs.Turns.{IsReached, AnswersTurn, Turn, called, answer_sent, request_sent, TurnDoes, TurnsDo, Works, calls_of}
use Rattle.rbac_serve.specs.private.ConnectionStates.{AnswersConnection}
use Rattle.rbac_serve.proofs.PlaceLemmas.{put_in}

-- ---- what stays

abbrev pub Stays : ProxyValue → ProxyValue → Type 0
Stays old new = (new.client.config ≡ old.client.config) × (length new.conns ≡ length old.conns)

same_stays : (old new : ProxyValue) → new ≡ old → Stays old new
same_stays old new same =
    (ap (λ (p : ProxyValue). p.client.config) same, ap (λ (p : ProxyValue). length p.conns) same)

client_stays : (old new : ProxyValue) (client : ClientValue) → client.config ≡ old.client.config
    → new ≡ with_client old client → Stays old new
client_stays old new client config made =
    (ap (λ (p : ProxyValue). p.client.config) made ∙ config, ap (λ (p : ProxyValue). length p.conns) made)

put_stays : (old new : ProxyValue) (k : ℕ) (conn : Option FrontValue) → new ≡ with_conn old k conn → Stays old new
put_stays old new k conn made = (
  ap (λ (p : ProxyValue). p.client.config) made,
  ap (λ (p : ProxyValue). length p.conns) made ∙ length-set old.conns k conn,
)

feeds_stays : (s : Option (List ℕ)) (old : ClientValue) (bytes replies : List ℕ) (is_broken : Bool)
    (versions : List (List ℕ)) (new : ClientValue) → FeedsBy s old bytes replies is_broken versions new
    → new.config ≡ old.config
feeds_stays None old bytes replies is_broken versions new (none, broken, nothing, same) =
    ap (λ (c : ClientValue). c.config) same
feeds_stays (Some rest) old bytes replies is_broken versions new (fed, broken) = fed.config

ads_stays : (s : Option (List ℕ)) (old : ProxyValue) (bytes : List ℕ) (out : OutputValue) (new : ProxyValue)
    → TakesAds s old bytes out new → Stays old new
ads_stays None old bytes out new (is, same) = same_stays old new same
ads_stays (Some rest) old bytes out new (replies, is_broken, versions, client, feeds, is, made) =
    client_stays old new client
    (feeds_stays old.client.stream old.client bytes replies is_broken versions client feeds) made

opens_stays : (k : ℕ) (old : ProxyValue) (facts : Facts) (out : OutputValue) (new : ProxyValue)
    → OpensAt old k facts out new → Stays old new
opens_stays k old facts out new (in_place front there opens is made) = put_stays old new k front made
opens_stays k old facts out new (nowhere far is made) = same_stays old new made

http_stays : (f : Option FrontValue) (k : ℕ) (old : ProxyValue) (bytes : List ℕ) (out : OutputValue) (new : ProxyValue)
    → TakesHttp f old k bytes out new → Stays old new
http_stays None k old bytes out new (is, same) = same_stays old new same
http_stays (Some front) k old bytes out new (http, after, takes, is, made) = put_stays old new k after made

step_stays : (event : EventValue) (old : ProxyValue) (out : OutputValue) (new : ProxyValue)
    → StepsBy old event out new → Stays old new
step_stays ads_up old out new (bytes, frame, is, made) = client_stays old new _ refl made
step_stays (ads_bytes bytes) old out new gives = ads_stays old.client.stream old bytes out new gives
step_stays ads_lost old out new (is, made) = client_stays old new _ refl made
step_stays (http_open k facts) old out new opens = opens_stays k old facts out new opens
step_stays (http_bytes k bytes) old out new gives = http_stays (front_at old k) k old bytes out new gives
step_stays (http_closed k) old out new (is, made) = put_stays old new k None made

pub turn_stays : (turn : Turn) (old new : WorkerValue) → TurnDoes old turn new → Stays old.core new.core
turn_stays (called (answered event out)) old new works = step_stays event old.core out new.core works.steps
turn_stays (called (no_memory event)) old new same =
    same_stays old.core new.core (ap (λ (w : WorkerValue). w.core) same)
turn_stays (answer_sent k bytes) old new (left, is, made) =
    same_stays old.core new.core (ap (λ (w : WorkerValue). w.core) made)
turn_stays (request_sent bytes) old new (left, is, made) =
    same_stays old.core new.core (ap (λ (w : WorkerValue). w.core) made)

-- ---- one more turn

turns_more : (turns : List Turn) (turn : Turn) (old now new : WorkerValue) → TurnsDo old turns now → TurnDoes now turn new
    → TurnsDo old (turns ++ turn ∷ []) new
turns_more [] turn old now new same does = (new, rw same at does, refl)
turns_more (first ∷ turns) turn old now new (next, does, others) last =
    (next, does, turns_more turns turn next now new others last)

pub start_same : (n m : ℕ) (c d : ConfigValue) → n ≡ m → c ≡ d → new_worker n c ≡ new_worker m d
start_same n m c d places config = ap (λ (it : ℕ). new_worker it c) places ∙ ap (new_worker m) config

more : (turn : Turn) (old new : WorkerValue) → TurnDoes old turn new → IsReached old → IsReached new
more turn old new does (turns, all) =
    let (config, places) = turn_stays turn old new does in (
      turns ++ turn ∷ [],
      subst (λ (start : WorkerValue). TurnsDo start (turns ++ turn ∷ []) new)
          (sym (start_same (length new.core.conns) (length old.core.conns) new.core.client.config
          old.core.client.config places config))
          (turns_more turns turn _ old new all does),
    )

pub reached_more : (turn : Turn) (old new : WorkerValue) → TurnDoes old turn new → ∥ IsReached old ∥₁ → ∥ IsReached new ∥₁
reached_more turn old new does reached = ∥∥₁_elim reached ∥∥₁_prop (λ it. merely (more turn old new does it))

pub works_more : (event : EventValue) (out : OutputValue) (old new : WorkerValue) → Works old event out new
    → ∥ IsReached old ∥₁ → ∥ IsReached new ∥₁
works_more event out old new works = reached_more (called (answered event out)) old new works

pub start_reached : (n : ℕ) (c : ConfigValue) → ∥ IsReached (new_worker n c) ∥₁
start_reached n c =
    merely ([], ap (λ (it : ℕ). new_worker it c) (sym (nobody_length n)))

-- ---- the events of a connection

pub open_works : (old : WorkerValue) (k : ℕ) (facts : Facts) (front : Option FrontValue) → k < length old.core.conns
    → OpensFront old.core.client.config.limits facts front
    → Works old (http_open k facts) (http_output [] (is_none front))
    (record { core = with_conn old.core k front; answers = set old.answers k []; requests = old.requests })
open_works old k facts front in' opens =
    record { steps = open_step old.core k facts front in' opens; answers = refl; requests = refl }

pub close_works : (old : WorkerValue) (k : ℕ) → Works old (http_closed k) no_output (closed_at k old)
close_works old k = record { steps = close_step old.core k; answers = refl; requests = refl }

nothing_put : (xs : List (Option FrontValue)) (k : ℕ) → front_in (slice_get xs k) ≡ None → set xs k None ≡ xs
nothing_put [] k none = refl
nothing_put (None ∷ xs) zero none = refl
nothing_put (Some f ∷ xs) zero none = absurd cc
nothing_put (x ∷ xs) (suc k) none = ap (λ (ys : List (Option FrontValue)). x ∷ ys) (nothing_put xs k none)

-- a worker once the connection in place `k` delivered bytes that were answered so
abbrev pub answered_at : WorkerValue → ℕ → List ℕ → Option FrontValue → WorkerValue
answered_at old k http after = put_in old k after (waiting_at k old.answers ++ http)

pub answered_turn : (session : Option FrontValue) (old : WorkerValue) (k : ℕ) (bytes : List ℕ) (answered_asks : List AnsweredAsk)
    (http : List ℕ) (after : Option FrontValue) (closes : Bool) → front_at old.core k ≡ session
    → AnswersConnection session old.core.client.accepted bytes answered_asks http after closes
    → AnswersTurn old k bytes answered_asks closes (answered_at old k http after)
answered_turn None old k bytes answered_asks http after closes is (nothing, none, gone, stays) =
    rw (none, gone, stays) (
      [],
      record {
        steps = rw is (
          refl,
          ap (λ (xs : List (Option FrontValue)). record { client = old.core.client; conns = xs })
              (nothing_put old.core.conns k is),
        );
        answers = refl;
        requests = refl;
      },
      rw is (nothing, refl),
    )
answered_turn (Some front) old k bytes answered_asks http after closes is (reports, stays) =
    rw stays (
      http,
      record {
        steps = bytes_step old.core k front bytes http after is
            (answers_takes old.core.client.accepted front bytes answered_asks http after reports);
        answers = refl;
        requests = refl;
      },
      rw is (after, reports),
    )

-- ---- the calls of turns

core_is : (turns : List EventCall) (old next new : ProxyValue) → next ≡ old → CallsDo next turns new → CallsDo old turns new
core_is calls old next new same all = rw same at all

pub calls_do : (turns : List Turn) (old new : WorkerValue) → TurnsDo old turns new
    → CallsDo old.core (calls_of turns) new.core
calls_do [] old new same = ap (λ (w : WorkerValue). w.core) same
calls_do (called (answered event out) ∷ turns) old new (next, works, others) =
    (next.core, works.steps, calls_do turns next new others)
calls_do (called (no_memory event) ∷ turns) old new (next, same, others) =
    (next.core, ap (λ (w : WorkerValue). w.core) same, calls_do turns next new others)
calls_do (answer_sent k bytes ∷ turns) old new (next, (left, is, made), others) =
    core_is (calls_of turns) old.core next.core new.core (ap (λ (w : WorkerValue). w.core) made)
    (calls_do turns next new others)
calls_do (request_sent bytes ∷ turns) old new (next, (left, is, made), others) =
    core_is (calls_of turns) old.core next.core new.core (ap (λ (w : WorkerValue). w.core) made)
    (calls_do turns next new others)
