-- The effect of one event on a proxy, from the state that the proxy keeps (this project's own).
use Rattle.std.specs.Prelude.{◌≡◌, ◌⊎◌, ℕ, zero, suc, length, is_none, ◌<◌, ◌≤◌, Bool, false, Option, Some, None, List, [], ◌∷◌, ◌++◌, map, slice_get, set, if◌then◌else◌, ⊤}
use Rattle.attributes.specs.Conn.{AreFacts, Facts}
use Rattle.attributes.specs.Limits.{FactsInLimits, LimitsValue}
use Rattle.attributes.specs.Request.{RequestValue}
use Rattle.cel_tree.specs.Checked.{CelChecked}
use Rattle.rbac_policy.specs.Admission.{IsAdmittedAs}
use Rattle.rbac_policy.specs.Condition.{is_met}
use Rattle.rbac_policy.specs.Filter.{Filter}
use Rattle.rbac_policy.specs.Verdict.{IsVerdict, SomeAsked}
use Rattle.ads.specs.Config.{ConfigValue}
use Rattle.ads.specs.Answer.{Accepted, AdmittedValue, first_request}
use Rattle.ads.specs.Client.{ClientValue, Feeds, IsFrameThen, new_client, stream_down, stream_up}
use Rattle.http_front.specs.Answer.{answer_of, reply_view}
use Rattle.proxy_core.specs.declared.answered_ask.AnsweredAsk.{AnsweredAsk}
use Rattle.http_front.specs.Front.{FrontValue, HasNoAsk, fed_front, keeping, new_front}
use Rattle.http_front.specs.Heads.{TakesAll, is_closed}
use Rattle.http_front.specs.declared.ask.Ask.{Ask}
use Rattle.proxy_core.specs.Chain.{AreRepliesTo, IsReplyTo, VerdictValue}
use Rattle.proxy_core.specs.Events.{EventValue, ads_up, ads_bytes, ads_lost, http_open, http_bytes, http_closed, OutputValue, no_output, ads_output, http_output}
use Rattle.proxy_core.specs.Run.{places}

-- ---- policies as they are enforced

-- the verdict is that of every written filter that these enforced policies may have been made from
abbrev pub DecidesAsWritten : RequestValue → AdmittedValue → VerdictValue → Type 0
DecidesAsWritten r a v = (rules : Filter CelChecked) → IsAdmittedAs a.limits rules a.filter
    → IsVerdict (is_met r) r rules v.allowed v.matched

-- the enforced policies ask for a condition: each written filter that may be enforced as them asks for one
abbrev pub AsksAsWritten : RequestValue → AdmittedValue → Type 0
AsksAsWritten r a = (rules : Filter CelChecked) → IsAdmittedAs a.limits rules a.filter
    → SomeAsked (is_met r) (λ condition. Unit {0}) r rules

-- the bytes are the answers to the asks, by the enforced policies
abbrev pub AreEnforced : Accepted → List Ask → List ℕ → Type 0
AreEnforced = AreRepliesTo DecidesAsWritten AsksAsWritten

-- ---- the proxy

-- a proxy: its client, and in each place the front of the connection that is open there
pub record ProxyValue : Type 0 where
  pub client : ClientValue
  pub conns : List (Option FrontValue)

-- so many places, with no connection open
abbrev pub nobody : ℕ → List (Option FrontValue)
nobody zero = []
nobody (suc n) = None ∷ nobody n

-- a proxy with so many places, to which nothing has happened
abbrev pub new_with : ℕ → ConfigValue → ProxyValue
new_with n c = record { client = new_client c; conns = nobody n }

-- a proxy to which nothing has happened
abbrev pub new_proxy : ConfigValue → ProxyValue
new_proxy c = new_with places c

-- the proxy with another client
abbrev pub with_client : ProxyValue → ClientValue → ProxyValue
with_client p client = record { client = client; conns = p.conns }

-- the proxy with this front, or none, in a place
abbrev pub with_conn : ProxyValue → ℕ → Option FrontValue → ProxyValue
with_conn p k conn = record { client = p.client; conns = set p.conns k conn }

-- the front in a place; none if there is no such place
abbrev pub front_in : Option (Option FrontValue) → Option FrontValue
front_in None = None
front_in (Some front) = front

-- the front of the connection in this place; none if none is open
abbrev pub front_at : ProxyValue → ℕ → Option FrontValue
front_at p k = front_in (slice_get p.conns k)

-- bytes of the update stream arrive: the client reads them if a stream is up, otherwise they are dropped
abbrev pub TakesAds : Option (List ℕ) → ProxyValue → List ℕ → OutputValue → ProxyValue → Type 0
TakesAds None old bytes out new = (out ≡ no_output) × (new ≡ old)
TakesAds (Some rest) old bytes out new = (replies : List ℕ) × (is_broken : Bool) × (versions : List (List ℕ))
    × (client : ClientValue) × Feeds old.client bytes replies is_broken versions client
    × (out ≡ ads_output replies is_broken) × (new ≡ with_client old client)

-- a connection opens with these facts: its front; none if they are outside the limits
pub data OpensFront (limits : LimitsValue) (facts : Facts) (front : Option FrontValue) : Type 0 where
  opened : AreFacts facts → FactsInLimits facts limits → front ≡ Some (new_front limits facts)
      → OpensFront limits facts front
  unfit : (FactsInLimits facts limits → ⊥) → front ≡ None → OpensFront limits facts front

-- a connection opens, and takes its place; it is closed if it has no front
pub data OpensAt (old : ProxyValue) (k : ℕ) (facts : Facts) (out : OutputValue) (new : ProxyValue) : Type 0 where
  in_place : (front : Option FrontValue) → k < length old.conns → OpensFront old.client.config.limits facts front
      → out ≡ http_output [] (is_none front) → new ≡ with_conn old k front → OpensAt old k facts out new
  nowhere : length old.conns ≤ k → out ≡ no_output → new ≡ old → OpensAt old k facts out new

-- the front after the bytes: all asks that they complete were taken
abbrev pub CompletesAsks : FrontValue → List ℕ → List Ask → FrontValue → Type 0
CompletesAsks front bytes asks after = TakesAll front.limits front.facts (fed_front front bytes).kept asks after.kept
    × HasNoAsk after × (after ≡ keeping front after.kept)

-- each answer is one to its ask, and the bytes are the answers, in order
abbrev pub AnswersAsks : Accepted → List AnsweredAsk → List ℕ → Type 0
AnswersAsks accepted [] bytes = bytes ≡ []
AnswersAsks accepted (t ∷ answered_asks) bytes = (more : List ℕ)
    × IsReplyTo DecidesAsWritten AsksAsWritten accepted t.ask (reply_view t.reply)
    × (bytes ≡ answer_of (reply_view t.reply) ++ more) × AnswersAsks accepted answered_asks more

-- a front reads bytes: the asks that they complete with their answers, these as bytes, and the front after
-- them. There is none if the connection closes after the answers
abbrev pub AnswersBytes : Accepted → FrontValue → List ℕ → List AnsweredAsk → List ℕ → Option FrontValue → Type 0
AnswersBytes accepted front bytes answered_asks http after = (last : FrontValue) × CompletesAsks front bytes (map (λ t. t.ask) answered_asks) last
    × AnswersAsks accepted answered_asks http × (after ≡ (if is_closed last.kept then None else Some last))

-- the same, whatever was reported
abbrev pub TakesBytes : Accepted → FrontValue → List ℕ → List ℕ → Option FrontValue → Type 0
TakesBytes accepted front bytes http after =
    (asks : List Ask) × (last : FrontValue) × CompletesAsks front bytes asks last
    × AreEnforced accepted asks http × (after ≡ (if is_closed last.kept then None else Some last))

-- bytes of a connection arrive: the front in its place reads them; if there is none, they are dropped
abbrev pub TakesHttp : Option FrontValue → ProxyValue → ℕ → List ℕ → OutputValue → ProxyValue → Type 0
TakesHttp None old k bytes out new = (out ≡ no_output) × (new ≡ old)
TakesHttp (Some front) old k bytes out new = (http : List ℕ) × (after : Option FrontValue)
    × TakesBytes old.client.accepted front bytes http after × (out ≡ http_output http (is_none after))
    × (new ≡ with_conn old k after)

-- the effect of an event: its output, and the proxy after it
abbrev pub StepsBy : ProxyValue → EventValue → OutputValue → ProxyValue → Type 0
StepsBy old ads_up out new =
    (bytes : List ℕ) × IsFrameThen (first_request old.client.config old.client.accepted) bytes []
    × (out ≡ ads_output bytes false) × (new ≡ with_client old (stream_up old.client))
StepsBy old (ads_bytes bytes) out new = TakesAds old.client.stream old bytes out new
StepsBy old ads_lost out new = (out ≡ no_output) × (new ≡ with_client old (stream_down old.client))
StepsBy old (http_open k facts) out new = OpensAt old k facts out new
StepsBy old (http_bytes k bytes) out new = TakesHttp (front_at old k) old k bytes out new
StepsBy old (http_closed k) out new = (out ≡ no_output) × (new ≡ with_conn old k None)

-- the event takes no memory: the stream is lost or is not up; the connection is closed, is not open, or does not open
abbrev pub TakesNoMemory : ProxyValue → EventValue → Type 0
TakesNoMemory p ads_up = ⊥
TakesNoMemory p (ads_bytes bytes) = p.client.stream ≡ None
TakesNoMemory p ads_lost = ⊤
TakesNoMemory p (http_open k facts) = (length p.conns ≤ k) ⊎ (FactsInLimits facts p.client.config.limits → ⊥)
TakesNoMemory p (http_bytes k bytes) = front_at p k ≡ None
TakesNoMemory p (http_closed k) = ⊤

-- ---- calls

-- a call with an event: it returned an output, or memory ran out
pub data EventCall : Type 0 where
  answered : EventValue → OutputValue → EventCall
  no_memory : EventValue → EventCall

-- the event of a call
abbrev pub event_of : EventCall → EventValue
event_of (answered event out) = event
event_of (no_memory event) = event

-- the effect of a call: if memory ran out, nothing changes
abbrev pub CallDoes : ProxyValue → EventCall → ProxyValue → Type 0
CallDoes old (answered event out) new = StepsBy old event out new
CallDoes old (no_memory event) new = new ≡ old

-- calls in order
abbrev pub CallsDo : ProxyValue → List EventCall → ProxyValue → Type 0
CallsDo old [] new = new ≡ old
CallsDo old (call ∷ calls) new = (next : ProxyValue) × CallDoes old call next × CallsDo next calls new

-- the events of the calls that did not run out of memory
abbrev pub events_of : List EventCall → List EventValue
events_of [] = []
events_of (answered event out ∷ calls) = event ∷ events_of calls
events_of (no_memory event ∷ calls) = events_of calls

-- the outputs of the calls that did not run out of memory
abbrev pub outputs_of : List EventCall → List OutputValue
outputs_of [] = []
outputs_of (answered event out ∷ calls) = out ∷ outputs_of calls
outputs_of (no_memory event ∷ calls) = outputs_of calls
