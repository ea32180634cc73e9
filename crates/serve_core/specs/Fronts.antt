-- The connections of front proxies: what waits for them, and what a turn of the loop does (this project's own; RFC 9112,
-- section 9.6).
use Rattle.std.specs.Prelude.{◌≡◌, ℕ, Bool, false, true, List, [], ◌∷◌, ◌++◌, Option, Some, None, codes, drop, get_or, length, set}
use Rattle.std.specs.Str.{bytes_eq}
use Rattle.attributes.specs.Conn.{Facts, conn_view}
use Rattle.attributes.specs.Limits.{FactsInLimits, LimitsValue}
use Rattle.ads.specs.Config.{ConfigValue}
use Rattle.http_front.specs.Answer.{ReplyValue, answer_of, reply_view}
use Rattle.http_front.specs.Front.{HasNoAsk, fed_front, keeping, new_front}
use Rattle.http_front.specs.Heads.{Kept, Takes, is_closed}
use Rattle.http_front.specs.declared.ask.Ask.{Ask}
use Rattle.http_front.specs.declared.ask.Ask.TheVariants as asks
use Rattle.rbac_serve.specs.Tables.{new_worker}
use Rattle.serve_loop.specs.declared.stream.Stream.{Stream}
use Rattle.serve_loop.specs.declared.stream.Stream.TheVariants.{Place, Updates}
use Rattle.serve_loop.specs.History as history
use Rattle.serve_loop.specs.History.{accepted, answered, closed, connected, drain, gave, no_memory, received, took}
use Rattle.serve_core.specs.ClientRequests.{AnswersAsk, OnlyAt, RuleValue}
use Rattle.serve_core.specs.Cores.{CoreValue, Turns, core_view}
use Rattle.serve_core.specs.Turns.{ServerEvent, ServerTurn}
use Rattle.serve_core.specs.declared.front_answer.FrontAnswer.{FrontAnswer}
use Rattle.serve_core.specs.declared.front_answer.FrontAnswer.TheVariants as answers
use Rattle.serve_core.specs.declared.front_connection.FrontConnection.{FrontConnection}
use Rattle.serve_core.specs.declared.fronts.Fronts.{Fronts}

-- ---- one connection

-- the reply of an answer
abbrev pub reply_in : FrontAnswer → ReplyValue
reply_in (answers.Judged request) = reply_view request.answered_ask.reply
reply_in (answers.Unjudged unjudged reply) = reply_view reply

-- the reply in the frame of the front's request: it closes the connection, and has no body, as that asks
abbrev pub framed : Ask → ReplyValue → ReplyValue
framed (asks.Judge r closes) reply = record reply { closes = closes; is_head = bytes_eq r.method (codes "HEAD") }
framed (asks.Fault fault) reply = record reply { closes = true; is_head = false }

-- the asks that a front takes, in order, each answered, and the answers as bytes
abbrev pub AnswersAll : RuleValue → ℕ → LimitsValue → Facts → Kept → CoreValue → List FrontAnswer → List ℕ → Kept → CoreValue → Type 0
AnswersAll rule k limits facts kept old [] out end new = (out ≡ []) × (end ≡ kept) × (new ≡ old)
AnswersAll rule k limits facts kept old (answer ∷ answers) out end new =
    (ask : Ask) × (next : Kept) × (mid : CoreValue) × (more : List ℕ) × Takes limits facts kept ask next
    × AnswersAsk rule k facts kept ask old answer mid × (out ≡ answer_of (framed ask (reply_in answer)) ++ more)
    × AnswersAll rule k limits facts next mid answers more end new

-- the connection of a front takes bytes: all asks that they complete are answered, and the answers wait
pub record Reads (rule : RuleValue) (k : ℕ) (old : FrontConnection) (bytes : List ℕ) (before : CoreValue)
    (answers : List FrontAnswer) (out : List ℕ) (new : FrontConnection) (after : CoreValue) : Type 0 where
  pub all : AnswersAll rule k old.front.limits old.front.facts (fed_front old.front bytes).kept before answers out
      new.front.kept after
  pub rests : HasNoAsk new.front
  pub same : new.front ≡ keeping old.front new.front.kept
  pub waits : new.outbox ≡ old.outbox ++ out
  pub only : OnlyAt k before after

-- ---- all connections

-- the connections of fronts, by place, and the core
pub record FrontsValue : Type 0 where
  pub core : CoreValue
  pub connections : List (Option FrontConnection)

-- what `Fronts` means
abbrev pub fronts_view : Fronts → FrontsValue
fronts_view f = record { core = core_view f.core; connections = f.connections.items }

-- the connection in a place; none if there is no such place
abbrev pub connection_at : ℕ → List (Option FrontConnection) → Option FrontConnection
connection_at k connections = get_or connections k None

-- the connection in a place is this one, or there is none
abbrev pub put_at : FrontsValue → ℕ → Option FrontConnection → FrontsValue
put_at f k connection = record { core = f.core; connections = set f.connections k connection }

-- what waits for a connection
abbrev pub outbox_of : Option FrontConnection → List ℕ
outbox_of None = []
outbox_of (Some connection) = connection.outbox

-- what waits for a stream: for a connection in its outbox, for the updates in the core
abbrev pub waits_in : Stream → FrontsValue → List ℕ
waits_in (Place k) f = outbox_of (connection_at k f.connections)
waits_in Updates f = history.waiting_at Updates f.core.turns

-- how many bytes wait for the event's stream before those that the event adds
abbrev pub kept_in : ServerEvent → FrontsValue → ℕ
kept_in (received s bytes) f = length (waits_in s f)
kept_in (accepted k conn) f = 0
kept_in connected f = 0
kept_in (closed s) f = 0
kept_in drain f = 0

-- the bytes that the event added to those that wait for its stream, after so many
abbrev pub added_in : ServerEvent → ℕ → FrontsValue → List ℕ
added_in (received s bytes) before f = drop before (waits_in s f)
added_in connected before f = waits_in Updates f
added_in (accepted k conn) before f = []
added_in (closed s) before f = []
added_in drain before f = []

-- ---- turns

-- a front's connection opens, unless its facts are outside the limits
pub data OpensConnection (limits : LimitsValue) (facts : Facts) (connection : Option FrontConnection) (closes : Bool) : Type 0 where
  opened : FactsInLimits facts limits → connection ≡ Some (record { front = new_front limits facts; outbox = [] })
      → closes ≡ false → OpensConnection limits facts connection closes
  unfit : (FactsInLimits facts limits → ⊥) → connection ≡ None → closes ≡ true
      → OpensConnection limits facts connection closes

-- the connection in a place, if one is open, takes bytes; else they are dropped
abbrev pub ReadsAt : Option FrontConnection → RuleValue → FrontsValue → ℕ → List ℕ → List FrontAnswer → List ℕ → Bool → FrontsValue → Type 0
ReadsAt None rule old k bytes answers out closes new =
    (answers ≡ []) × (out ≡ []) × (closes ≡ false) × (new ≡ old)
ReadsAt (Some connection) rule old k bytes answers out closes new = (after : FrontConnection)
    × Reads rule k connection bytes old.core answers out after new.core × (closes ≡ is_closed after.front.kept)
    × (new.connections ≡ set old.connections k (Some after))

-- the first bytes of those that wait for a connection were sent
abbrev pub SendsAt : Option FrontConnection → FrontsValue → ℕ → List ℕ → FrontsValue → Type 0
SendsAt None old k bytes new = (bytes ≡ []) × (new ≡ old)
SendsAt (Some connection) old k bytes new = (left : List ℕ) × (connection.outbox ≡ bytes ++ left)
    × (new ≡ put_at old k (Some (record { front = connection.front; outbox = left })))

-- the event is the core's own: one of the updates, or the end of the server
abbrev pub IsForCore : ServerEvent → Type 0
IsForCore (received Updates bytes) = Unit {0}
IsForCore connected = Unit {0}
IsForCore (closed Updates) = Unit {0}
IsForCore drain = Unit {0}
IsForCore (received (Place k) bytes) = ⊥
IsForCore (closed (Place k)) = ⊥
IsForCore (accepted k conn) = ⊥

-- the core takes the turn itself
abbrev pub Passes : FrontsValue → ServerTurn → List FrontAnswer → FrontsValue → Type 0
Passes old turn answers new =
    (answers ≡ []) × Turns old.core turn new.core × (new.connections ≡ old.connections)

-- the effect of one turn of the loop, and the answers to what it completes. After out of memory the connection of the
-- event is closed
abbrev pub FrontsDo : RuleValue → FrontsValue → ServerTurn → List FrontAnswer → FrontsValue → Type 0
FrontsDo rule old (took (accepted k conn) (answered out closes)) answers new =
    (connection : Option FrontConnection) × (answers ≡ []) × (out ≡ [])
    × OpensConnection old.core.worker.core.client.config.limits (conn_view conn) connection closes
    × (new ≡ put_at old k connection)
FrontsDo rule old (took (accepted k conn) no_memory) answers new = (answers ≡ []) × (new ≡ put_at old k None)
FrontsDo rule old (took (received (Place k) bytes) (answered out closes)) answers new =
    ReadsAt (connection_at k old.connections) rule old k bytes answers out closes new
FrontsDo rule old (took (received (Place k) bytes) no_memory) answers new =
    OnlyAt k old.core new.core × (new.connections ≡ set old.connections k None)
FrontsDo rule old (took (closed (Place k)) effect) answers new = (answers ≡ []) × (new ≡ put_at old k None)
FrontsDo rule old (gave (Place k) bytes) answers new =
    (answers ≡ []) × SendsAt (connection_at k old.connections) old k bytes new
FrontsDo rule old (took (received Updates bytes) effect) answers new =
    Passes old (took (received Updates bytes) effect) answers new
FrontsDo rule old (took (closed Updates) effect) answers new = Passes old (took (closed Updates) effect) answers new
FrontsDo rule old (took connected effect) answers new = Passes old (took connected effect) answers new
FrontsDo rule old (took drain effect) answers new = Passes old (took drain effect) answers new
FrontsDo rule old (gave Updates bytes) answers new = Passes old (gave Updates bytes) answers new

-- no connection is open in so many places, and nothing has happened to the core
abbrev pub AreNewFronts : FrontsValue → Type 0
AreNewFronts f = (f.core.turns ≡ []) × ((k : ℕ) → connection_at k f.connections ≡ None)
    × ((n : ℕ) × (c : ConfigValue) × (f.core.worker ≡ new_worker n c))

-- the turns, the newest first, lead from nothing to these connections and this core
abbrev pub FrontsRun : RuleValue → List ServerTurn → FrontsValue → Type 0
FrontsRun rule [] f = AreNewFronts f
FrontsRun rule (turn ∷ turns) f =
    (old : FrontsValue) × (answers : List FrontAnswer) × FrontsDo rule old turn answers f × FrontsRun rule turns old

-- what waits by the history is what waits for the streams
abbrev pub WaitsIn : List ServerTurn → FrontsValue → Type 0
WaitsIn turns f = (s : Stream) → history.waiting_at s turns ≡ waits_in s f

-- there are as many places for fronts as for connections of the core
abbrev pub AreMatched : FrontsValue → Type 0
AreMatched f = length f.connections ≡ length f.core.worker.core.conns
