-- What happens on the streams of a server, and what its service does. A history has the newest first.
use Rattle.std.specs.Prelude.{◌≡◌, ◌<◌, ◌≤◌, ℕ, ◌==◌, Bool, true, false, List, [], ◌∷◌, ◌++◌, drop, length, if◌then◌else◌}
use Rattle.serve_loop.specs.declared.stream.Stream.{Stream}
use Rattle.serve_loop.specs.declared.stream.Stream.TheVariants.{Place, Updates}

-- a thing that happens to a server: a connection with these facts is accepted in a place, or the stream of updates is
-- connected. Or a stream delivers bytes, a stream is closed, or the server is to end
pub data EventValue (F : Type 0) : Type 0 where
  accepted : ℕ → F → EventValue F
  connected : EventValue F
  received : Stream → List ℕ → EventValue F
  closed : Stream → EventValue F
  drain : EventValue F

-- a step on the wire: an event, or bytes were sent on a stream
pub data Step (F : Type 0) : Type 0 where
  event : EventValue F → Step F
  sent : Stream → List ℕ → Step F

-- what a service makes of an event: it answers these bytes on the event's stream, and closes it or not. Or memory ran
-- out
pub data Effect : Type 0 where
  answered : List ℕ → Bool → Effect
  no_memory : Effect

-- a turn of a service: it took an event, or these bytes of those that waited for a stream were sent
pub data Turn (F : Type 0) : Type 0 where
  took : EventValue F → Effect → Turn F
  gave : Stream → List ℕ → Turn F

-- two streams are the same
abbrev pub same_stream : Stream → Stream → Bool
same_stream (Place j) (Place k) = j == k
same_stream (Place j) Updates = false
same_stream Updates (Place k) = false
same_stream Updates Updates = true

-- ---- the wire

-- the stream is open after this history: it was accepted or connected, and not closed since
abbrev pub open_at : {F : Type 0} → Stream → List (Step F) → Bool
open_at s [] = false
open_at s (event (accepted k facts) ∷ wire) = if same_stream s (Place k) then true else open_at s wire
open_at s (event connected ∷ wire) = if same_stream s Updates then true else open_at s wire
open_at s (event (closed t) ∷ wire) = if same_stream s t then false else open_at s wire
open_at s (event (received t bytes) ∷ wire) = open_at s wire
open_at s (event drain ∷ wire) = open_at s wire
open_at s (sent t bytes ∷ wire) = open_at s wire

-- the server was told to end
abbrev pub is_told : {F : Type 0} → List (Step F) → Bool
is_told [] = false
is_told (event drain ∷ wire) = true
is_told (event (accepted k facts) ∷ wire) = is_told wire
is_told (event connected ∷ wire) = is_told wire
is_told (event (closed t) ∷ wire) = is_told wire
is_told (event (received t bytes) ∷ wire) = is_told wire
is_told (sent t bytes ∷ wire) = is_told wire

-- the step may come after this history: a stream opens where it is closed, and all else happens to an open one
abbrev pub MayFollow : {F : Type 0} → List (Step F) → Step F → Type 0
MayFollow wire (event (accepted k facts)) = open_at (Place k) wire ≡ false
MayFollow wire (event connected) = open_at Updates wire ≡ false
MayFollow wire (event (received t bytes)) = open_at t wire ≡ true
MayFollow wire (event (closed t)) = open_at t wire ≡ true
MayFollow wire (event drain) = Unit {0}
MayFollow wire (sent t bytes) = open_at t wire ≡ true

-- each step may come after those before it
abbrev pub IsOrderly : {F : Type 0} → List (Step F) → Type 0
IsOrderly [] = Unit {0}
IsOrderly (step ∷ wire) = MayFollow wire step × IsOrderly wire

-- ---- the service

-- the event is one of this stream
abbrev pub concerns : {F : Type 0} → Stream → EventValue F → Bool
concerns s (accepted k facts) = same_stream s (Place k)
concerns s connected = same_stream s Updates
concerns s (received t bytes) = same_stream s t
concerns s (closed t) = same_stream s t
concerns s drain = false

-- bytes for a stream after one of its events: an opening begins with what it answers, and what is answered later is
-- added. A closing or out of memory leaves none
abbrev pub bytes_then : {F : Type 0} → EventValue F → Effect → List ℕ → List ℕ
bytes_then (accepted k facts) (answered out closes) bytes = out
bytes_then connected (answered out closes) bytes = out
bytes_then (received t more) (answered out closes) bytes = bytes ++ out
bytes_then (closed t) (answered out closes) bytes = []
bytes_then drain (answered out closes) bytes = bytes
bytes_then e no_memory bytes = []

-- bytes that were sent on a stream, after one of its events: none after an opening, a closing or out of memory
abbrev pub sent_bytes_then : {F : Type 0} → EventValue F → Effect → List ℕ → List ℕ
sent_bytes_then (accepted k facts) (answered out closes) bytes = []
sent_bytes_then connected (answered out closes) bytes = []
sent_bytes_then (received t more) (answered out closes) bytes = bytes
sent_bytes_then (closed t) (answered out closes) bytes = []
sent_bytes_then drain (answered out closes) bytes = bytes
sent_bytes_then e no_memory bytes = []

-- what waits for a stream after these turns
abbrev pub waiting_at : {F : Type 0} → Stream → List (Turn F) → List ℕ
waiting_at s [] = []
waiting_at s (took e effect ∷ turns) = if concerns s e then bytes_then e effect (waiting_at s turns) else waiting_at s turns
waiting_at s (gave t bytes ∷ turns) = if same_stream s t then drop (length bytes) (waiting_at s turns) else waiting_at s turns

-- what was answered on a stream since it opened
abbrev pub answered_at : {F : Type 0} → Stream → List (Turn F) → List ℕ
answered_at s [] = []
answered_at s (took e effect ∷ turns) = if concerns s e then bytes_then e effect (answered_at s turns) else answered_at s turns
answered_at s (gave t bytes ∷ turns) = answered_at s turns

-- what was sent on it since then
abbrev pub sent_at : {F : Type 0} → Stream → List (Turn F) → List ℕ
sent_at s [] = []
sent_at s (took e effect ∷ turns) = if concerns s e then sent_bytes_then e effect (sent_at s turns) else sent_at s turns
sent_at s (gave t bytes ∷ turns) = if same_stream s t then sent_at s turns ++ bytes else sent_at s turns

-- the service takes so many bytes as the event has, which is at least one
abbrev pub Fits : {F : Type 0} → (Stream → ℕ) → EventValue F → Type 0
Fits takes (received t bytes) = (0 < length bytes) × (length bytes ≤ takes t)
Fits takes (accepted k facts) = Unit {0}
Fits takes connected = Unit {0}
Fits takes (closed t) = Unit {0}
Fits takes drain = Unit {0}
