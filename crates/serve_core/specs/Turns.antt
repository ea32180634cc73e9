-- A worker as the service of a server's loop: what a turn of the loop is on the worker (this project's own).
use Rattle.std.specs.Prelude.{◌≡◌, ◌==◌, ◌^◌, ◌-◌, ℕ, List, [], ◌∷◌, ◌++◌, length, drop, min, if◌then◌else◌}
use Rattle.attributes.specs.declared.conn.Conn.{Conn}
use Rattle.attributes.specs.Conn.{conn_view}
use Rattle.std.specs.declared.sync.ArcStr.{ArcStr}
use Rattle.std.specs.declared.alloc.Global.{Global}
use Rattle.proxy_core.specs.Events.{ads_up, ads_bytes, ads_lost, http_open, http_bytes, http_closed, ads_output, http_output, no_output}
use Rattle.proxy_core.specs.Step as step
use Rattle.serve_loop.specs.declared.stream.Stream.{Stream}
use Rattle.serve_loop.specs.declared.stream.Stream.TheVariants.{Place, Updates}
use Rattle.serve_loop.specs.History as history
use Rattle.serve_loop.specs.History.{EventValue, Step, accepted, connected, received, closed, drain, answered, no_memory, took, gave, Turn as LoopTurn}
use Rattle.rbac_serve.specs.Tables.{WorkerValue, body_at, new_worker, waiting_at}
use Rattle.rbac_serve.specs.Turns.{Turn, TurnsDo, called, answer_sent, request_sent}

-- the facts of a connection, as the loop has them
abbrev pub ServerFacts : Type 0
ServerFacts = Conn (ArcStr Global)

-- a turn of the loop
abbrev pub ServerTurn : Type 0
ServerTurn = LoopTurn ServerFacts

-- an event of the loop
abbrev pub ServerEvent : Type 0
ServerEvent = EventValue ServerFacts

-- a step on the wire
abbrev pub ServerStep : Type 0
ServerStep = Step ServerFacts

-- the worker's turns that one turn of the loop is, in order. After out of memory the stream of the event is closed
abbrev pub turns_of : ServerTurn → List Turn
turns_of (took (accepted k conn) (answered out closes)) =
    called (step.answered (http_open k (conn_view conn)) (http_output out closes)) ∷ []
turns_of (took (accepted k conn) no_memory) =
    called (step.no_memory (http_open k (conn_view conn))) ∷ called (step.answered (http_closed k) no_output) ∷ []
turns_of (took (received (Place k) bytes) (answered out closes)) =
    called (step.answered (http_bytes k bytes) (http_output out closes)) ∷ []
turns_of (took (received (Place k) bytes) no_memory) =
    called (step.no_memory (http_bytes k bytes)) ∷ called (step.answered (http_closed k) no_output) ∷ []
turns_of (took (closed (Place k)) effect) = called (step.answered (http_closed k) no_output) ∷ []
turns_of (took connected (answered out closes)) = called (step.answered ads_up (ads_output out closes)) ∷ []
turns_of (took connected no_memory) = called (step.no_memory ads_up) ∷ called (step.answered ads_lost no_output) ∷ []
turns_of (took (received Updates bytes) (answered out closes)) =
    called (step.answered (ads_bytes bytes) (ads_output out closes)) ∷ []
turns_of (took (received Updates bytes) no_memory) =
    called (step.no_memory (ads_bytes bytes)) ∷ called (step.answered ads_lost no_output) ∷ []
turns_of (took (closed Updates) effect) = called (step.answered ads_lost no_output) ∷ []
turns_of (took drain effect) = []
turns_of (gave (Place k) bytes) = answer_sent k bytes ∷ []
turns_of (gave Updates bytes) = request_sent bytes ∷ []

-- the worker's turns, in order, of a history of the loop, which has the newest first
abbrev pub worker_turns : List ServerTurn → List Turn
worker_turns [] = []
worker_turns (turn ∷ turns) = worker_turns turns ++ turns_of turn

-- the effect of one turn of the loop on a worker
abbrev pub Does : WorkerValue → ServerTurn → WorkerValue → Type 0
Does old turn new = TurnsDo old (turns_of turn) new

-- the history leads from a new worker, with as many places and the same configuration, to this one
abbrev pub IsDriven : List ServerTurn → WorkerValue → Type 0
IsDriven turns w = TurnsDo (new_worker (length w.core.conns) w.core.client.config) (worker_turns turns) w

-- the bytes that wait for a stream
abbrev pub waits_for : Stream → WorkerValue → List ℕ
waits_for (Place k) w = waiting_at k w.answers
waits_for Updates w = w.requests

-- how many bytes wait for the event's stream before those that the event adds
abbrev pub kept_before : ServerEvent → WorkerValue → ℕ
kept_before (received (Place k) bytes) w = length (waiting_at k w.answers)
kept_before (received Updates bytes) w = 0
kept_before (accepted k conn) w = 0
kept_before connected w = 0
kept_before (closed s) w = 0
kept_before drain w = 0

-- the bytes that the event added to those that wait for its stream, after so many
abbrev pub added_by : ServerEvent → ℕ → WorkerValue → List ℕ
added_by (received (Place k) bytes) before w = drop before (waiting_at k w.answers)
added_by (received Updates bytes) before w = w.requests
added_by (accepted k conn) before w = []
added_by connected before w = w.requests
added_by (closed s) before w = []
added_by drain before w = []

-- what waits by the history is what waits in the worker
abbrev pub Waits : List ServerTurn → WorkerValue → Type 0
Waits turns w = (s : Stream) → history.waiting_at s turns ≡ waits_for s w

-- how many bytes of a stream are taken at most: of a connection any number, of the updates so many
abbrev pub room_for : Stream → ℕ → ℕ
room_for (Place k) updates = 2 ^ 64 - 1
room_for Updates updates = updates

-- how many bytes of a connection are taken if so many are left of a body: no more than these, and less than 16 KiB. So
-- the next request begins with another event
abbrev pub bytes_taken : ℕ → ℕ
bytes_taken left = if left == 0 then 2 ^ 64 - 1 else min left 16383

-- how many bytes of a stream the worker takes, if it takes so many of the updates
abbrev pub worker_room : WorkerValue → ℕ → Stream → ℕ
worker_room w updates (Place k) = bytes_taken (body_at (step.front_at w.core k))
worker_room w updates Updates = updates
