-- The outputs of a proxy for a list of events (xDS REST and gRPC protocol, "ACK and NACK"; RFC 9112, section 9). An
-- event is judged on all bytes since its update stream or its connection began. No state of the code is used. Lists of
-- moments have the latest event first.
use Rattle.std.specs.Prelude.{◌≡◌, ℕ, ◌==◌, ◌<◌, ◌≤◌, nat_lt, not, Bool, true, false, ◌&&◌, Option, Some, None, List, [], ◌∷◌, ◌++◌, map, option_map, reverse, if◌then◌else◌}
use Rattle.attributes.specs.Conn.{AreFacts, Facts}
use Rattle.attributes.specs.Limits.{LimitsValue, FactsInLimits}
use Rattle.attributes.specs.Request.{RequestValue}
use Rattle.proto_wire.specs.declared.refusal.Refusal.{Refusal}
use Rattle.xds_wire.specs.Frames.{Cut, Tail, unfinished, broken}
use Rattle.xds_wire.specs.declared.fault.FrameFault.{FrameFault}
use Rattle.xds_wire.specs.Discovery.{RequestMessage, ResponseMessage, IsResponse, ResponseFault}
use Rattle.cel_tree.specs.Checked.{CelChecked}
use Rattle.rbac_policy.specs.Admission.{IsAdmissibleAs}
use Rattle.rbac_policy.specs.Condition.{is_met}
use Rattle.rbac_policy.specs.Filter.{Filter}
use Rattle.rbac_policy.specs.Verdict.{IsVerdict, SomeAsked}
use Rattle.ads.specs.Config.{ConfigValue, FilterValue}
use Rattle.ads.specs.Answer.{AcceptedOf, AnswersAs, first_request, nothing_accepted}
use Rattle.ads.specs.Client.{IsFrameThen, most_bytes}
use Rattle.http_front.specs.Heads.{Heads}
use Rattle.http_front.specs.declared.ask.Ask.{Ask}
use Rattle.proxy_core.specs.Chain.{AreRepliesTo, VerdictValue}
use Rattle.proxy_core.specs.Events.{EventValue, ads_up, ads_bytes, ads_lost, http_open, http_bytes, http_closed, OutputValue, no_output, ads_output, http_output}

-- ---- policies as they are written

-- the rules of a filter as they are written, with checked expressions as conditions
abbrev pub Rules : Type 0
Rules = Filter CelChecked

-- the bytes are admissible under the filter's budget, as these rules
abbrev pub AreRules : LimitsValue → FilterValue → List ℕ → Rules → Type 0
AreRules limits f bytes rules = IsAdmissibleAs bytes limits f.budget rules

-- the rules give this verdict: conditions have their meaning in CEL, and an error is no match
abbrev pub DecideByMeaning : RequestValue → Rules → VerdictValue → Type 0
DecideByMeaning r rules v = IsVerdict (is_met r) r rules v.allowed v.matched

-- the rules ask for a condition for this request
abbrev pub AskCondition : RequestValue → Rules → Type 0
AskCondition r rules = SomeAsked (is_met r) (λ condition. Unit {0}) r rules

-- the acknowledged state: the last version, the rules of each filter, and the number of acknowledged responses
abbrev pub Acknowledged : Type 0
Acknowledged = AcceptedOf Rules

-- ---- what happened

-- a response, the answer to it, and the acknowledged state after it
pub record Exchange : Type 0 where
  pub response : ResponseMessage
  pub reply : RequestMessage
  pub after : Acknowledged

-- a moment: an event and its output, the responses that the event completed, with their answers, and the asks that it
-- completed
pub record Moment : Type 0 where
  pub event : EventValue
  pub output : OutputValue
  pub exchanges : List Exchange
  pub asks : List Ask

-- the acknowledged state after the exchanges
abbrev pub acknowledged_after : Acknowledged → List Exchange → Acknowledged
acknowledged_after acknowledged [] = acknowledged
acknowledged_after acknowledged (x ∷ exchanges) = acknowledged_after x.after exchanges

-- the acknowledged state after the moments of the past
abbrev pub acknowledged_in : ConfigValue → List Moment → Acknowledged
acknowledged_in c [] = nothing_accepted c
acknowledged_in c (m ∷ past) = acknowledged_after (acknowledged_in c past) m.exchanges

-- ---- update streams

-- an update stream: the moments before it came up, all its bytes, and all its exchanges
pub record UpdateStream : Type 0 where
  pub before : List Moment
  pub bytes : List ℕ
  pub exchanges : List Exchange

-- the update stream with further bytes and exchanges
abbrev pub stream_more : List ℕ → List Exchange → UpdateStream → UpdateStream
stream_more bytes exchanges s =
    record { before = s.before; bytes = s.bytes ++ bytes; exchanges = s.exchanges ++ exchanges }

-- the update stream after an event, from the one before it; an output that closes the stream ends it
abbrev pub stream_then : Moment → List Moment → Option UpdateStream → EventValue → Option UpdateStream
stream_then m past old ads_up = Some (record { before = past; bytes = []; exchanges = [] })
stream_then m past old (ads_bytes bytes) =
    if m.output.ads_close then None else option_map (stream_more bytes m.exchanges) old
stream_then m past old ads_lost = None
stream_then m past old (http_open k facts) = old
stream_then m past old (http_bytes k bytes) = old
stream_then m past old (http_closed k) = old

-- the update stream that is up; none if none is up
abbrev pub stream_in : List Moment → Option UpdateStream
stream_in [] = None
stream_in (m ∷ past) = stream_then m past (stream_in past) m.event

-- the messages are responses, and these exchanges answer them in order, beginning with this acknowledged state
abbrev pub AreExchanges : ConfigValue → Acknowledged → List (List ℕ) → List Exchange → Type 0
AreExchanges c old [] exchanges = exchanges ≡ []
AreExchanges c old (message ∷ messages) [] = ⊥
AreExchanges c old (message ∷ messages) (x ∷ exchanges) = IsResponse message x.response
    × AnswersAs AreRules c x.response old x.reply x.after × AreExchanges c x.after messages exchanges

-- the state of a stream after its exchanges: unfinished, or broken by a frame or by a message that is not a response
pub data StreamGoesOn (others : List (List ℕ)) (tail : Tail) (is_broken : Bool) : Type 0 where
  is_unfinished : (rest : List ℕ) → others ≡ [] → tail ≡ unfinished rest → is_broken ≡ false
      → StreamGoesOn others tail is_broken
  bad_frame : (fault : FrameFault) → others ≡ [] → tail ≡ broken fault → is_broken ≡ true
      → StreamGoesOn others tail is_broken
  no_response : (message : List ℕ) (more : List (List ℕ)) (e : Refusal) → others ≡ message ∷ more
      → ResponseFault message e → is_broken ≡ true → StreamGoesOn others tail is_broken

-- the exchanges of all bytes of a stream, from the acknowledged state before the stream, and whether the stream is
-- broken
pub record IsUpdateStream (c : ConfigValue) (old : Acknowledged) (bytes : List ℕ) (exchanges : List Exchange)
    (is_broken : Bool) : Type 0 where
  pub messages : List (List ℕ)
  pub others : List (List ℕ)
  pub tail : Tail
  pub cut : Cut bytes most_bytes (messages ++ others) tail
  pub answered : AreExchanges c old messages exchanges
  pub goes_on : StreamGoesOn others tail is_broken

-- the bytes are the frames of the answers, in order
abbrev pub AreSent : List Exchange → List ℕ → Type 0
AreSent [] bytes = bytes ≡ []
AreSent (x ∷ exchanges) bytes = (more : List ℕ) × IsFrameThen x.reply bytes more × AreSent exchanges more

-- ---- connections

-- the greatest number of connections
abbrev pub places : ℕ
places = 8

-- a connection: its facts, all its bytes, and all asks that they complete
pub record Connection : Type 0 where
  pub facts : Facts
  pub bytes : List ℕ
  pub asks : List Ask

-- the connection with further bytes and asks
abbrev pub connection_more : List ℕ → List Ask → Connection → Connection
connection_more bytes asks s = record { facts = s.facts; bytes = s.bytes ++ bytes; asks = s.asks ++ asks }

-- the connection with a number after an event of that number, from the one before it; an output that closes the
-- connection ends it
abbrev pub connection_then : Moment → Option Connection → EventValue → Option Connection
connection_then m old ads_up = old
connection_then m old (ads_bytes bytes) = old
connection_then m old ads_lost = old
connection_then m old (http_open k facts) = if nat_lt k places && not m.output.http_close
    then Some (record { facts = facts; bytes = []; asks = [] }) else None
connection_then m old (http_bytes k bytes) =
    if m.output.http_close then None else option_map (connection_more bytes m.asks) old
connection_then m old (http_closed k) = None

-- whether the event is one of the connection with this number
abbrev pub is_of : ℕ → EventValue → Bool
is_of number (http_open k facts) = k == number
is_of number (http_bytes k bytes) = k == number
is_of number (http_closed k) = k == number
is_of number event = false

-- the open connection with this number; none if none is open
abbrev pub connection_in : ℕ → List Moment → Option Connection
connection_in number [] = None
connection_in number (m ∷ past) = if is_of number m.event
    then connection_then m (connection_in number past) m.event else connection_in number past

-- ---- moments

-- the event completed nothing, and has this output
abbrev pub IsQuiet : Moment → OutputValue → Type 0
IsQuiet m output = (m.output ≡ output) × (m.exchanges ≡ []) × (m.asks ≡ [])

-- bytes of the update stream, judged with all bytes before them; if no stream is up, they are dropped
abbrev pub GivesStream : ConfigValue → List Moment → Moment → List ℕ → Option UpdateStream → Type 0
GivesStream c past m bytes None = IsQuiet m no_output
GivesStream c past m bytes (Some s) = (replies : List ℕ) × (is_broken : Bool)
    × IsUpdateStream c (acknowledged_in c s.before) (s.bytes ++ bytes) (s.exchanges ++ m.exchanges) is_broken
    × AreSent m.exchanges replies × (m.output ≡ ads_output replies is_broken) × (m.asks ≡ [])

-- bytes of a connection, judged with all bytes before them. Their asks are answered by what was acknowledged in earlier
-- events. If the connection is not open, the bytes are dropped
abbrev pub GivesConnection : ConfigValue → List Moment → Moment → List ℕ → Option Connection → Type 0
GivesConnection c past m bytes None = IsQuiet m no_output
GivesConnection c past m bytes (Some s) = (answers : List ℕ) × (is_done : Bool)
    × Heads c.limits s.facts (s.bytes ++ bytes) (s.asks ++ m.asks) is_done
    × AreRepliesTo DecideByMeaning AskCondition (acknowledged_in c past) m.asks answers
    × (m.output ≡ http_output answers is_done) × (m.exchanges ≡ [])

-- a connection opens: it is closed if its facts are outside the limits. Its texts are UTF-8, and its numbers are in
-- their ranges
pub data Opens (limits : LimitsValue) (k : ℕ) (facts : Facts) (output : OutputValue) : Type 0 where
  fits : k < places → AreFacts facts → FactsInLimits facts limits → output ≡ no_output → Opens limits k facts output
  unfit : k < places → (FactsInLimits facts limits → ⊥) → output ≡ http_output [] true
      → Opens limits k facts output
  nowhere : places ≤ k → output ≡ no_output → Opens limits k facts output

-- the effect of an event after the past
abbrev pub Happens : ConfigValue → List Moment → Moment → EventValue → Type 0
Happens c past m ads_up = (bytes : List ℕ) × IsFrameThen (first_request c (acknowledged_in c past)) bytes []
    × IsQuiet m (ads_output bytes false)
Happens c past m (ads_bytes bytes) = GivesStream c past m bytes (stream_in past)
Happens c past m ads_lost = IsQuiet m no_output
Happens c past m (http_open k facts) = (output : OutputValue) × Opens c.limits k facts output × IsQuiet m output
Happens c past m (http_bytes k bytes) = GivesConnection c past m bytes (connection_in k past)
Happens c past m (http_closed k) = IsQuiet m no_output

-- each moment happens after those before it
abbrev pub IsHistory : ConfigValue → List Moment → Type 0
IsHistory c [] = Unit {0}
IsHistory c (m ∷ past) = Happens c past m m.event × IsHistory c past

-- the events of a history, in order
abbrev pub events_in : List Moment → List EventValue
events_in history = reverse (map (λ m. m.event) history)

-- the outputs of a history, in order
abbrev pub outputs_in : List Moment → List OutputValue
outputs_in history = reverse (map (λ m. m.output) history)
