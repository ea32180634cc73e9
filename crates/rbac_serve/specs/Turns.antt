-- What a worker does: events change its core, and what is put out waits until it is sent (this project's own).
use Rattle.std.specs.Prelude.{◌≡◌, ◌≢◌, ◌<◌, ◌≤◌, ◌⊎◌, ℕ, ◌==◌, Bool, false, take, Option, Some, None, List, [], ◌∷◌, ◌++◌, length, set, if◌then◌else◌}
use Rattle.xds_wire.specs.Discovery.{RequestMessage}
use Rattle.ads.specs.Answer.{Accepted}
use Rattle.ads.specs.Client.{IsFrameThen}
use Rattle.ads.specs.Judgements.{ReportsJudgements}
use Rattle.ads.specs.declared.ended.Ended.{Ended}
use Rattle.ads.specs.declared.judgement.Judgement.{Judgement}
use Rattle.http_front.specs.Front.{FrontValue}
use Rattle.proxy_core.specs.Events.{EventValue, ads_up, ads_bytes, ads_lost, http_open, http_bytes, http_closed, OutputValue, ads_output, http_output}
use Rattle.proxy_core.specs.Step.{EventCall, answered, no_memory, StepsBy, AnswersBytes, front_at}
use Rattle.proxy_core.specs.declared.answered_ask.AnsweredAsk.{AnsweredAsk}
use Rattle.rbac_serve.specs.Tables.{WorkerValue, new_worker, waiting_at}

-- the answers that wait after an event with this output
abbrev pub answers_after : List (List ℕ) → EventValue → OutputValue → List (List ℕ)
answers_after answers (http_open k facts) out = set answers k []
answers_after answers (http_bytes k bytes) out = set answers k (waiting_at k answers ++ out.http)
answers_after answers (http_closed k) out = set answers k []
answers_after answers ads_up out = answers
answers_after answers (ads_bytes bytes) out = answers
answers_after answers ads_lost out = answers

-- the requests that wait after an event with this output
abbrev pub requests_after : List ℕ → EventValue → OutputValue → List ℕ
requests_after requests ads_up out = out.ads
requests_after requests (ads_bytes bytes) out = requests ++ out.ads
requests_after requests ads_lost out = []
requests_after requests (http_open k facts) out = requests
requests_after requests (http_bytes k bytes) out = requests
requests_after requests (http_closed k) out = requests

-- the effect of an event on a worker: the core's step, and its output waits after what waited
pub record Works (old : WorkerValue) (event : EventValue) (out : OutputValue) (new : WorkerValue) : Type 0 where
  pub steps : StepsBy old.core event out new.core
  pub answers : new.answers ≡ answers_after old.answers event out
  pub requests : new.requests ≡ requests_after old.requests event out

-- a turn of a worker: a call with an event, or bytes that were sent on a connection or the update stream
pub data Turn : Type 0 where
  called : EventCall → Turn
  answer_sent : ℕ → List ℕ → Turn
  request_sent : List ℕ → Turn

-- the effect of a turn: what is sent are the first bytes of those that waited
abbrev pub TurnDoes : WorkerValue → Turn → WorkerValue → Type 0
TurnDoes old (called (answered event out)) new = Works old event out new
TurnDoes old (called (no_memory event)) new = new ≡ old
TurnDoes old (answer_sent k bytes) new = (left : List ℕ) × (waiting_at k old.answers ≡ bytes ++ left)
    × (new ≡ record { core = old.core; answers = set old.answers k left; requests = old.requests })
TurnDoes old (request_sent bytes) new = (left : List ℕ) × (old.requests ≡ bytes ++ left)
    × (new ≡ record { core = old.core; answers = old.answers; requests = left })

-- turns in order
abbrev pub TurnsDo : WorkerValue → List Turn → WorkerValue → Type 0
TurnsDo old [] new = new ≡ old
TurnsDo old (turn ∷ turns) new = (next : WorkerValue) × TurnDoes old turn next × TurnsDo next turns new

-- some turns lead from a new worker to this one
abbrev pub IsReached : WorkerValue → Type 0
IsReached w = (turns : List Turn) × TurnsDo (new_worker (length w.core.conns) w.core.client.config) turns w

-- the calls of the turns
abbrev pub calls_of : List Turn → List EventCall
calls_of [] = []
calls_of (called call ∷ turns) = call ∷ calls_of turns
calls_of (answer_sent k bytes ∷ turns) = calls_of turns
calls_of (request_sent bytes ∷ turns) = calls_of turns

-- the asks in the bytes of a connection with their answers, and these as bytes: none if no connection is open
abbrev pub AnswersAt : Option FrontValue → Accepted → List ℕ → List AnsweredAsk → List ℕ → Type 0
AnswersAt None accepted bytes answered_asks http = (answered_asks ≡ []) × (http ≡ [])
AnswersAt (Some front) accepted bytes answered_asks http =
    (after : Option FrontValue) × AnswersBytes accepted front bytes answered_asks http after

-- bytes of the connection in place `k`: the core's step, and what was asked and answered in it
abbrev pub AnswersTurn : WorkerValue → ℕ → List ℕ → List AnsweredAsk → Bool → WorkerValue → Type 0
AnswersTurn old k bytes answered_asks closes new = (http : List ℕ) × Works old (http_bytes k bytes) (http_output http closes) new
    × AnswersAt (front_at old.core k) old.core.client.accepted bytes answered_asks http

-- the bytes are the frame of one request, or there are none
abbrev pub IsOneRequest : List ℕ → Type 0
IsOneRequest bytes = (bytes ≡ []) ⊎ ((request : RequestMessage) × IsFrameThen request bytes [])

-- bytes of the update stream: none are taken while a request waits. Otherwise at least one is, if there is one, and the
-- core takes so many that at most one request is put out
pub data FeedsTurn (old : WorkerValue) (bytes : List ℕ) (count : ℕ) (closes : Bool) (new : WorkerValue) : Type 0 where
  waits : old.requests ≢ [] → count ≡ 0 → closes ≡ false → new ≡ old → FeedsTurn old bytes count closes new
  feeds : (requests : List ℕ) → old.requests ≡ [] → (bytes ≢ [] → 0 < count) → count ≤ length bytes
      → Works old (ads_bytes (take count bytes)) (ads_output requests closes) new → IsOneRequest requests
      → FeedsTurn old bytes count closes new

-- the judgements of the responses that the bytes complete which are taken, beside the request that is put out, and why
-- the stream ends. There are none while a request waits, or if no stream is up
pub data JudgesTurn (old : WorkerValue) (bytes : List ℕ) (count : ℕ) (judgements : List Judgement)
    (ends : Option Ended) (new : WorkerValue) : Type 0 where
  still : old.requests ≢ [] → judgements ≡ [] → ends ≡ None → JudgesTurn old bytes count judgements ends new
  no_stream : old.requests ≡ [] → old.core.client.stream ≡ None → judgements ≡ [] → ends ≡ None
      → JudgesTurn old bytes count judgements ends new
  judges : (rest : List ℕ) → old.requests ≡ [] → old.core.client.stream ≡ Some rest
      → ReportsJudgements old.core.client rest (take count bytes) new.requests judgements ends new.core.client
      → JudgesTurn old bytes count judgements ends new

-- ---- what was answered and what was sent

-- the answers to the connection in place `k` since it opened or was closed, with those of one more turn
abbrev pub answered_then : ℕ → List ℕ → Turn → List ℕ
answered_then k so_far (called (answered (http_open j facts) out)) = if k == j then [] else so_far
answered_then k so_far (called (answered (http_bytes j bytes) out)) = if k == j then so_far ++ out.http else so_far
answered_then k so_far (called (answered (http_closed j) out)) = if k == j then [] else so_far
answered_then k so_far (called (answered ads_up out)) = so_far
answered_then k so_far (called (answered (ads_bytes bytes) out)) = so_far
answered_then k so_far (called (answered ads_lost out)) = so_far
answered_then k so_far (called (no_memory event)) = so_far
answered_then k so_far (answer_sent j bytes) = so_far
answered_then k so_far (request_sent bytes) = so_far

-- the bytes that were sent on it since then, with those of one more turn
abbrev pub sent_then : ℕ → List ℕ → Turn → List ℕ
sent_then k so_far (called (answered (http_open j facts) out)) = if k == j then [] else so_far
sent_then k so_far (called (answered (http_closed j) out)) = if k == j then [] else so_far
sent_then k so_far (called (answered (http_bytes j bytes) out)) = so_far
sent_then k so_far (called (answered ads_up out)) = so_far
sent_then k so_far (called (answered (ads_bytes bytes) out)) = so_far
sent_then k so_far (called (answered ads_lost out)) = so_far
sent_then k so_far (called (no_memory event)) = so_far
sent_then k so_far (answer_sent j bytes) = if k == j then so_far ++ bytes else so_far
sent_then k so_far (request_sent bytes) = so_far

-- the same for the update stream: the requests since it came up, and the bytes of them that were sent
abbrev pub requested_then : List ℕ → Turn → List ℕ
requested_then so_far (called (answered ads_up out)) = out.ads
requested_then so_far (called (answered (ads_bytes bytes) out)) = so_far ++ out.ads
requested_then so_far (called (answered ads_lost out)) = []
requested_then so_far turn = so_far

-- what was sent on the update stream, since it last came up or was lost
abbrev pub requests_sent_then : List ℕ → Turn → List ℕ
requests_sent_then so_far (called (answered ads_up out)) = []
requests_sent_then so_far (called (answered ads_lost out)) = []
requests_sent_then so_far (request_sent bytes) = so_far ++ bytes
requests_sent_then so_far turn = so_far

-- what a function of one more turn gives of all turns, in order
abbrev pub after_all : (List ℕ → Turn → List ℕ) → List ℕ → List Turn → List ℕ
after_all next so_far [] = so_far
after_all next so_far (turn ∷ turns) = after_all next (next so_far turn) turns
