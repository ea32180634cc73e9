-- The requests of a front proxy's clients, each a connection of its own to the core (this project's own; RFC 9110,
-- section 5).
use Rattle.std.specs.Prelude.{◌≡◌, ℕ, Bool, false, true, List, [], ◌∷◌, ◌++◌, Option, Some, None, length}
use Rattle.std.specs.String.{string_bytes}
use Rattle.std.specs.List.{AllByRecursion}
use Rattle.attributes.specs.Conn.{Facts, conn_view}
use Rattle.attributes.specs.Headers.{Entry}
use Rattle.attributes.specs.Limits.{FactsInLimits}
use Rattle.head_map.specs.Heads.{head_of}
use Rattle.head_map.specs.Mapped.{MappingValue, PartsValue, mapping_view}
use Rattle.http_front.specs.Answer.{ReplyValue, reply_view}
use Rattle.http_front.specs.Asks.{request_of_head}
use Rattle.http_front.specs.Front.{FrontValue, new_front}
use Rattle.http_front.specs.Head.{HeadValue}
use Rattle.http_front.specs.Heads.{Kept}
use Rattle.http_front.specs.Lines.{AreNextLines, StartsNext}
use Rattle.http_front.specs.Rules.{lines_of}
use Rattle.http_front.specs.declared.answer.Case.TheVariants as cases
use Rattle.http_front.specs.declared.answer.Reply.{Reply}
use Rattle.http_front.specs.declared.ask.Ask.{Ask}
use Rattle.http_front.specs.declared.ask.Ask.TheVariants as asks
use Rattle.http_front.specs.declared.fault.HeadFault.{HeadFault}
use Rattle.http_front.specs.declared.fault.HeadFault.TheVariants.{OutsideLimits, Unfinished}
use Rattle.proxy_core.specs.Step.{AnswersBytes}
use Rattle.proxy_core.specs.declared.answered_ask.AnsweredAsk.{AnsweredAsk}
use Rattle.rbac_serve.specs.Tables.{WorkerValue}
use Rattle.serve_config.specs.declared.config.Paths.{Paths}
use Rattle.serve_loop.specs.declared.stream.Stream.TheVariants.{Place}
use Rattle.serve_loop.specs.History.{Effect, accepted, answered, closed, concerns, gave, received, took}
use Rattle.serve_core.specs.Cores.{CoreValue, Turns}
use Rattle.serve_core.specs.Rules.{IsJudgedClient, IsUnjudged, reply_without}
use Rattle.serve_core.specs.Turns.{ServerFacts, ServerTurn}
use Rattle.serve_core.specs.declared.front_answer.ClientRequest.{ClientRequest}
use Rattle.serve_core.specs.declared.front_answer.FrontAnswer.{FrontAnswer}
use Rattle.serve_core.specs.declared.front_answer.FrontAnswer.TheVariants as answers
use Rattle.serve_core.specs.declared.rule.MappingRule.{MappingRule}
use Rattle.serve_core.specs.declared.unjudged.Unjudged.{Unjudged}

-- how the requests of a front give those of its clients: the mapping, and which paths are judged
pub record RuleValue : Type 0 where
  pub mapping : MappingValue
  pub paths : Paths

-- the rule that a `MappingRule` of the code means
abbrev pub rule_view : MappingRule → RuleValue
rule_view rule = record { mapping = mapping_view rule.mapping.now; paths = rule.paths }

-- ---- a client's connection

-- the turn is of the connection in this place
abbrev pub IsTurnAt : ℕ → ServerTurn → Type 0
IsTurnAt k (took event effect) = concerns (Place k) event ≡ true
IsTurnAt k (gave s bytes) = ⊥

-- the core took turns of the connection in this place alone, and its client stays as it was
pub record OnlyAt (k : ℕ) (old new : CoreValue) : Type 0 where
  pub more : List ServerTurn
  pub turns : new.turns ≡ more ++ old.turns
  pub here : AllByRecursion (IsTurnAt k) more
  pub client : new.worker.core.client ≡ old.worker.core.client
  pub places : length new.worker.core.conns ≡ length old.worker.core.conns

-- a client's connection opens in a place of the core and delivers a head. The core answers these bytes to it, and the
-- connection is closed
pub record Converses (old : CoreValue) (k : ℕ) (conn : ServerFacts) (head out : List ℕ) (new : CoreValue) : Type 0 where
  pub opened : CoreValue
  pub judged : CoreValue
  pub closes : Bool
  pub effect : Effect
  pub opens : Turns old (took (accepted k conn) (answered [] false)) opened
  pub gives : Turns opened (took (received (Place k) head) (answered out closes)) judged
  pub ends : Turns judged (took (closed (Place k)) effect) new

-- a client's connection opens in a place of the core, which closes it at once; the core is given no byte
pub record IsTurnedAway (old : CoreValue) (k : ℕ) (conn : ServerFacts) (new : CoreValue) : Type 0 where
  pub opened : CoreValue
  pub effect : Effect
  pub opens : Turns old (took (accepted k conn) (answered [] true)) opened
  pub ends : Turns opened (took (closed (Place k)) effect) new

-- what the core was given of a client whose connection is still open, and what that asked. It asked nothing if the facts
-- are outside the limits, and then no head was given
abbrev pub IsGiven : CoreValue → ℕ → ServerFacts → List ℕ → Option (List AnsweredAsk) → CoreValue → Type 0
IsGiven old k conn head None new = (FactsInLimits (conn_view conn) old.worker.core.client.config.limits → ⊥)
    × Turns old (took (accepted k conn) (answered [] true)) new
IsGiven old k conn head (Some answered_asks) new = (opened : CoreValue) × (closes : Bool) × (out : List ℕ)
    × (after : Option FrontValue) × Turns old (took (accepted k conn) (answered [] false)) opened
    × Turns opened (took (received (Place k) head) (answered out closes)) new
    × AnswersBytes old.worker.core.client.accepted (new_front old.worker.core.client.config.limits (conn_view conn)) head
    answered_asks out after

-- a head with this fault, and its answer, by which nothing was judged
abbrev pub IsFaulty : WorkerValue → HeadFault → AnsweredAsk → Type 0
IsFaulty w fault it = (it.ask ≡ asks.Fault fault) × (reply_view it.reply ≡ reply_without (cases.Fault fault) w)

-- the first of these; if there is none, the fault of a head that is not whole
abbrev pub IsFirst : WorkerValue → List AnsweredAsk → AnsweredAsk → Type 0
IsFirst w [] it = IsFaulty w Unfinished it
IsFirst w (first ∷ others) it = it ≡ first

-- the answer to a client's request: the core's to exactly this head, on a connection with the facts of the client. If
-- these are outside the limits, it is 431
pub data IsAnswered (old : CoreValue) (k : ℕ) (client : PartsValue) (http11 : Bool) (request : ClientRequest)
    (new : CoreValue) : Type 0 where
  judged : (answered_asks : List AnsweredAsk) (out : List ℕ) (after : Option FrontValue)
      → Converses old k request.conn (head_of client http11) out new
      → string_bytes request.head ≡ head_of client http11
      → AnswersBytes old.worker.core.client.accepted (new_front old.worker.core.client.config.limits client.facts)
      (head_of client http11) answered_asks out after
      → IsFirst old.worker answered_asks request.answered_ask → IsAnswered old k client http11 request new
  unfit : (FactsInLimits client.facts old.worker.core.client.config.limits → ⊥)
      → IsTurnedAway old k request.conn new → string_bytes request.head ≡ []
      → IsFaulty old.worker OutsideLimits request.answered_ask → IsAnswered old k client http11 request new

-- the answer is that of this request, with the client's facts
abbrev pub AnswersClient : CoreValue → ℕ → PartsValue → Bool → ClientRequest → CoreValue → Type 0
AnswersClient old k client http11 request new =
    (conn_view request.conn ≡ client.facts) × IsAnswered old k client http11 request new

-- ---- a front's request

-- the parts of the request of a head, on a connection with these facts
abbrev pub parts_of_head : HeadValue → Facts → PartsValue
parts_of_head h facts = record { method = h.method; target = h.target; lines = lines_of h; facts = facts }

-- the request is not judged, and the core takes no turn
abbrev pub Refuses : CoreValue → Unjudged → FrontAnswer → CoreValue → Type 0
Refuses old unjudged answer new = (reply : Reply) × (answer ≡ answers.Unjudged unjudged reply)
    × (reply_view reply ≡ reply_without unjudged.case old.worker) × (new ≡ old)

-- the answer to the request of a front's head: the core's to the request of the client that the rule gives. If the rule
-- gives none, the request is not judged, and the answer says so
pub data AnswersHead (rule : RuleValue) (k : ℕ) (h : HeadValue) (facts : Facts) (old : CoreValue) (answer : FrontAnswer)
    (new : CoreValue) : Type 0 where
  judged : (client : PartsValue) (request : ClientRequest)
      → IsJudgedClient rule.mapping rule.paths (parts_of_head h facts) client
      → AnswersClient old k client h.http11 request new → answer ≡ answers.Judged request
      → AnswersHead rule k h facts old answer new
  refused : (unjudged : Unjudged) → IsUnjudged rule.mapping rule.paths (parts_of_head h facts) unjudged
      → Refuses old unjudged answer new → AnswersHead rule k h facts old answer new

-- the answer to the ask with which begins what a front keeps
abbrev pub AnswersAsk : RuleValue → ℕ → Facts → Kept → Ask → CoreValue → FrontAnswer → CoreValue → Type 0
AnswersAsk rule k facts kept (asks.Judge r closes) old answer new = (h : HeadValue) × (rest : List ℕ)
    × StartsNext kept h rest × (r ≡ request_of_head h facts) × AnswersHead rule k h facts old answer new
AnswersAsk rule k facts kept (asks.Fault fault) old answer new =
    (unjudged : Unjudged) × (unjudged.case ≡ cases.Fault fault) × Refuses old unjudged answer new

-- ---- the lines of an ask

-- these are the lines of the head that asks; of a fault they are any
abbrev pub AreAskLines : Facts → Kept → Ask → List Entry → Type 0
AreAskLines facts kept (asks.Judge r closes) lines = (h : HeadValue) × (rest : List ℕ) × StartsNext kept h rest
    × (r ≡ request_of_head h facts) × (lines ≡ lines_of h)
AreAskLines facts kept (asks.Fault fault) lines = Unit {0}

-- the lines that a front reports of its next ask; any if it reports none
abbrev pub AreToldLines : FrontValue → List Entry → Type 0
AreToldLines front lines = (found : Option (List Entry)) × AreNextLines front found
    × ((some : List Entry) → found ≡ Some some → lines ≡ some)
