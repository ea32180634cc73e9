-- The update stream of a worker.
use Rattle.std.proofs.Common.{◌≡◌, ◌≢◌, ◌↔◌, true≢false, inl, inr, ℕ, ◌≤◌, ◌<◌, min, take, Bool, true, false, Option, Some, None, List, [], ◌∷◌, ◌++◌, length, refl, sym, ap, ◌∙◌, arith, subst, append-nil}
use Rattle.std.specs.Prelude.{IsTrue, is_some}
use Rattle.std.specs.List.{AllByRecursion}
use Rattle.std.proofs.Math.Nat.{le-min, min-le_left, min-le_right}
use Rattle.std.proofs.lemmas.List.{length-take-le}
use Rattle.ads.specs.Answer.{Accepted, first_request}
use Rattle.ads.specs.Client.{AreAnswered, ClientValue, CompletesOne, Feeds, FeedsBy, IsFrameThen, stream_down, stream_up}
use Rattle.ads.specs.Config.{ConfigValue}
use Rattle.ads.specs.Judgements.{ReportsJudgementsBy}
use Rattle.ads.specs.declared.ended.Ended.{Ended}
use Rattle.ads.specs.declared.judgement.Judgement.{Judgement}
use Rattle.http_front.specs.Front.{FrontValue}
use Rattle.proxy_core.specs.Events.{ads_bytes, ads_lost, ads_output, ads_up, no_output}
use Rattle.proxy_core.specs.Step.{TakesAds, with_client}
use Rattle.rbac_serve.specs.Tables.{FitsFor, WorkerValue}
use Rattle.rbac_serve.specs.Turns.{IsOneRequest, JudgesTurn, Works, judges}

-- the worker with another client and other requests that wait
abbrev pub with_stream : WorkerValue → ClientValue → List ℕ → WorkerValue
with_stream w client requests =
    record { core = with_client w.core client; answers = w.answers; requests = requests }

-- a client with the same configuration has the same limits
pub fits_same : (old new : ClientValue) (sessions : List (Option FrontValue)) → new.config ≡ old.config
    → ∥ AllByRecursion (FitsFor old.config.limits) sessions ∥₁ → ∥ AllByRecursion (FitsFor new.config.limits) sessions ∥₁
fits_same old new sessions same fits =
    subst (λ (c : ConfigValue). ∥ AllByRecursion (FitsFor c.limits) sessions ∥₁) (sym same) fits

pub up_works : (old : WorkerValue) (client : ClientValue) (bytes requests : List ℕ)
    → IsFrameThen (first_request old.core.client.config old.core.client.accepted) bytes []
    → client ≡ stream_up old.core.client → requests ≡ bytes
    → Works old ads_up (ads_output bytes false) (with_stream old client requests)
up_works old client bytes requests frame is waits = record {
  steps = (bytes, frame, refl, ap (with_client old.core) is);
  answers = refl;
  requests = waits;
}

pub lost_works : (old : WorkerValue) (client : ClientValue) (requests : List ℕ) → client ≡ stream_down old.core.client
    → requests ≡ [] → Works old ads_lost no_output (with_stream old client requests)
lost_works old client requests is none = record {
  steps = (refl, ap (with_client old.core) is);
  answers = refl;
  requests = none;
}

module _ (old : WorkerValue) (bytes : List ℕ) (none : old.requests ≡ []) where
  takes : (s : Option (List ℕ)) (replies : List ℕ) (is_broken : Bool) (versions : List (List ℕ)) (client : ClientValue)
      → is_some s ≡ true → Feeds old.core.client bytes replies is_broken versions client
      → TakesAds s old.core bytes (ads_output replies is_broken) (with_client old.core client)
  takes None replies is_broken versions client up feeds = absurd cc
  takes (Some rest) replies is_broken versions client up feeds = (replies, is_broken, versions, client, feeds, refl, refl)

  pub feed_works : (replies requests : List ℕ) (is_broken : Bool) (versions : List (List ℕ)) (client : ClientValue)
      → is_some old.core.client.stream ≡ true → Feeds old.core.client bytes replies is_broken versions client
      → requests ≡ replies → Works old (ads_bytes bytes) (ads_output replies is_broken) (with_stream old client requests)
  feed_works replies requests is_broken versions client up feeds waits = record {
    steps = takes old.core.client.stream replies is_broken versions client up feeds;
    answers = refl;
    requests = waits ∙ sym (ap (λ (l : List ℕ). l ++ replies) none);
  }

  drops : (s : Option (List ℕ)) → is_some s ≡ false → TakesAds s old.core bytes (ads_output [] false) old.core
  drops None down = (refl, refl)
  drops (Some rest) down = absurd cc

  pub drop_works : is_some old.core.client.stream ≡ false → Works old (ads_bytes bytes) (ads_output [] false) old
  drop_works down = record {
    steps = drops old.core.client.stream down;
    answers = refl;
    requests = sym (append-nil old.requests);
  }

-- ---- at most one request

answered_one : (c : ConfigValue) (old : Accepted) (messages : List (List ℕ)) (replies : List ℕ)
    (versions : List (List ℕ)) (new : Accepted) (ends : Bool) → length messages ≤ 1
    → AreAnswered c old messages replies versions new ends → IsOneRequest replies
answered_one c old [] replies versions new ends few (none, versions', same, ends') = inl none
answered_one c old (m ∷ []) replies versions new ends few (inl (fault, none, versions', same, ends')) = inl none
answered_one c old (m ∷ []) replies versions new ends few
    (inr (response, reply, next, rest, later, is, answers, frame, accepted, (none, versions', same, ends'))) =
    inr (reply, rw none at frame)
answered_one c old (m ∷ n ∷ ms) replies versions new ends few answers = absurd (omega (arith, few))

fed_one : (s : Option (List ℕ)) (old : ClientValue) (bytes replies : List ℕ) (is_broken : Bool)
    (versions : List (List ℕ)) (new : ClientValue) → old.stream ≡ s → CompletesOne old bytes
    → FeedsBy s old bytes replies is_broken versions new → IsOneRequest replies
fed_one None old bytes replies is_broken versions new is one (none, broken, versions', same) = inl none
fed_one (Some rest) old bytes replies is_broken versions new is one (fed, broken) =
    answered_one old.config old.accepted fed.messages replies versions new.accepted fed.ends
    (one rest fed.messages fed.tail is fed.cut) fed.answered

pub one_request : (old : ClientValue) (bytes replies : List ℕ) (is_broken : Bool) (versions : List (List ℕ))
    (new : ClientValue) → CompletesOne old bytes → Feeds old bytes replies is_broken versions new
    → IsOneRequest replies
one_request old bytes replies is_broken versions new one feeds =
    fed_one old.stream old bytes replies is_broken versions new refl one feeds

-- ---- whether a request waits

pub none_waits : (waiting : List ℕ) (some : Bool) → (IsTrue some ↔ (waiting ≢ [])) → some ≡ false → waiting ≡ []
none_waits [] some is not = refl
none_waits (b ∷ bytes) some is not = absurd (true≢false (sym (is.1 (λ nil. absurd cc)) ∙ not))

-- ---- the bytes that are taken

some_length : (bytes : List ℕ) → bytes ≢ [] → 0 < length bytes
some_length [] some = absurd (some refl)
some_length (b ∷ bytes) some = omega arith

module _ (bytes : List ℕ) (lacks count : ℕ) (is : count ≡ min lacks (length bytes)) where
  pub taken_few : count ≤ length bytes
  taken_few = rw is (min-le_right lacks (length bytes))

  pub taken_lacks : length (take count bytes) ≤ lacks
  taken_lacks =
      let within : count ≤ lacks = rw is (min-le_left lacks (length bytes)) in
      omega (arith, within, length-take-le count bytes taken_few)

  pub taken_some : 0 < lacks → bytes ≢ [] → 0 < count
  taken_some some there = rw is (le-min some (some_length bytes there))

-- ---- what is judged

pub none_up : (stream : Option (List ℕ)) → is_some stream ≡ false → stream ≡ None
none_up None down = refl
none_up (Some rest) down = absurd (true≢false down)

-- what a client says of a stream that is up
pub judges_up : (old : WorkerValue) (bytes : List ℕ) (count : ℕ) (js : List Judgement) (ends : Option Ended)
    (new : WorkerValue) (stream : Option (List ℕ)) → old.requests ≡ [] → old.core.client.stream ≡ stream
    → is_some stream ≡ true
    → ReportsJudgementsBy stream old.core.client (take count bytes) new.requests js ends new.core.client
    → JudgesTurn old bytes count js ends new
judges_up old bytes count js ends new None none is up reported = absurd (true≢false (sym up))
judges_up old bytes count js ends new (Some rest) none is up reported = judges rest none is reported
