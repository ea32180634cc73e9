-- A connection of unary calls after the frames of a trail (RFC 9113, 5 and 6). The calls that came whole, what may be written, what
-- is owed to the client, and why the connection is over.
use Rattle.std.specs.Prelude.{◌≡◌, ◌≢◌, ◌≤◌, ◌<◌, ◌-◌, ◌+◌, ℕ, Bool, true, false, not, min, Option, Some, None, is_some, List, [], ◌∷◌, ◌++◌, length, take, drop, if◌then◌else◌}
use Rattle.http2.specs.Frame.{IsFrame, IsTooLarge, word_at, kind_of, flags_of, stream_of, payload_of, Parts, parts_of, flow_of, increment_of}
use Rattle.http2.specs.Trail.{Step, got, put, preface, window_frame}
use Rattle.http2.specs.Call.{replies_to}
use Rattle.http2.specs.Served.{is_answer, answered}
use Rattle.http2.specs.Streams.{CallValue, StreamValue, find, room}
use Rattle.http2.specs.Exchange.{ExchangeValue, first_exchange, Event, quiet, resets, asks, on, over, beside, Takes}
use Rattle.http2.specs.declared.fault.Code.{Code}
use Rattle.http2.specs.declared.fault.Code.TheVariants as codes
use Rattle.http2.specs.declared.fault.Fault.{Fault}
use Rattle.http2.specs.declared.fault.Fault.TheVariants.{Memory, Connection, Stream}

-- the number of an error code (RFC 9113, 7)
abbrev pub number_of : Code → ℕ
number_of codes.NoError = 0
number_of codes.Protocol = 1
number_of codes.Internal = 2
number_of codes.FlowControl = 3
number_of codes.SettingsTimeout = 4
number_of codes.StreamClosed = 5
number_of codes.FrameSize = 6
number_of codes.RefusedStream = 7
number_of codes.Cancel = 8
number_of codes.Compression = 9
number_of codes.Connect = 10
number_of codes.EnhanceYourCalm = 11

-- a stream is reset with a code: RST_STREAM (6.4)
abbrev pub resetting : ℕ → Code → Parts
resetting stream code = record { kind = 3; flags = 0; stream = stream; payload = 0 ∷ 0 ∷ 0 ∷ number_of code ∷ [] }

-- what a frame is answered: a stream is reset, or settings and pings are acknowledged
abbrev pub answers_to : List ℕ → Event → List Parts
answers_to frame quiet = replies_to frame
answers_to frame (resets stream code) = resetting stream code ∷ []
answers_to frame (asks call) = []

-- the call that a frame made whole
abbrev pub calls_in : Event → List CallValue
calls_in quiet = []
calls_in (resets stream code) = []
calls_in (asks call) = call ∷ []

-- the settings of a server of unary calls: 100 streams at once, the largest initial window, and field lists of at most 16,384 octets
abbrev pub unary_frame : List ℕ
unary_frame = 0 ∷ 0 ∷ 18 ∷ 4 ∷ 0 ∷ 0 ∷ 0 ∷ 0 ∷ 0 ∷ 0 ∷ 3 ∷ 0 ∷ 0 ∷ 0 ∷ 100 ∷ 0 ∷ 4 ∷ 127 ∷ 255 ∷ 255 ∷ 255
    ∷ 0 ∷ 6 ∷ 0 ∷ 0 ∷ 64 ∷ 0 ∷ []

-- the frames that it says first
abbrev pub welcomed : List Step
welcomed = put window_frame ∷ put unary_frame ∷ []

-- a stream that is open is changed
abbrev pub changed : (StreamValue → StreamValue) → ExchangeValue → Option StreamValue → ExchangeValue
changed change c None = c
changed change c (Some s) = record c { streams = c.streams ++ change s ∷ [] }

-- the answer's fields were written
abbrev pub headed : StreamValue → StreamValue
headed s = record s { begun = true }

-- so much of a stream's window was used
abbrev pub charged : ℕ → StreamValue → StreamValue
charged count s = record s { used = s.used + count }

-- the answer was written to its end: its stream is closed (5.1)
abbrev pub closed : ExchangeValue → ℕ → ExchangeValue
closed c number = record (beside c number) { resets = c.resets - 1 }

-- an answer may begin on a stream: its call is whole, and has none
abbrev pub can_begin : Option StreamValue → Bool
can_begin None = false
can_begin (Some s) = if is_some s.request then false else not s.begun

-- it may end: its call is whole
abbrev pub can_end : Option StreamValue → Bool
can_end None = false
can_end (Some s) = not (is_some s.request)

-- how much both windows allow on a stream; nothing before its answer began
abbrev pub room_on : ExchangeValue → Option StreamValue → ℕ
room_on c None = 0
room_on c (Some s) = if s.begun then min (room c.window s.raised s.used) (room 65535 c.raised c.used) else 0

-- A frame that may be written now, and the exchange after it. It has the fields that begin the answer of a call that is whole and
-- has none. Or it has content of an answer that has begun, within both windows. Or it has the fields that end the answer of a call
-- that is whole. Or it gives something of the connection's window back, or answers a frame.
pub data Puts (c : ExchangeValue) (frame : List ℕ) (after : ExchangeValue) : Type 0 where
  fields : can_begin (find (stream_of frame) c.streams) ≡ true → kind_of frame ≡ 1 → flags_of frame ≡ 4
      → after ≡ changed headed (beside c (stream_of frame)) (find (stream_of frame) c.streams) → Puts c frame after
  content : 0 < flow_of frame → flow_of frame ≤ room_on c (find (stream_of frame) c.streams) → kind_of frame ≡ 0 → flags_of frame ≡ 0
      → after ≡ record (changed (charged (flow_of frame)) (beside c (stream_of frame)) (find (stream_of frame) c.streams)) { used = c.used + flow_of frame }
      → Puts c frame after
  trailers : can_end (find (stream_of frame) c.streams) ≡ true → kind_of frame ≡ 1 → flags_of frame ≡ 5
      → after ≡ closed c (stream_of frame) → Puts c frame after
  window : 0 < increment_of 0 frame → kind_of frame ≡ 8 → flags_of frame ≡ 0 → stream_of frame ≡ 0
      → c.credit + increment_of 0 frame ≤ 1048581 → after ≡ record c { credit = c.credit + increment_of 0 frame } → Puts c frame after
  answer : is_answer frame ≡ true → after ≡ c → Puts c frame after

-- WHAT CAME. A request has at most so much content. After the frames of a trail the connection goes on like this. These calls came
-- whole, and these answers are owed, the oldest first. Each frame that was written might be.
abbrev pub Comes : ℕ → List Step → ExchangeValue → List CallValue → List Parts → Type 0
Comes most [] c calls owed = (c ≡ first_exchange most) × (calls ≡ []) × (owed ≡ [])
Comes most (got frame ∷ trail) c calls owed = (b : ExchangeValue) × (earlier : List CallValue) × (before : List Parts) × (event : Event)
    × Comes most trail b earlier before × Takes b frame (on c event) × (calls ≡ earlier ++ calls_in event)
    × (owed ≡ before ++ answers_to frame event)
Comes most (put frame ∷ trail) c calls owed = (b : ExchangeValue) × Comes most trail b calls owed × Puts b frame c

-- the connection goes on after what was said first, and all that is owed was written
abbrev pub Goes : ℕ → List Step → ExchangeValue → List CallValue → Type 0
Goes most trail c calls = (later : List Step) × (trail ≡ later ++ welcomed) × Comes most later c calls (answered later)

-- the code by which a connection ends (5.4.1, 7)
abbrev pub code_of : Fault → ℕ
code_of Memory = 2
code_of (Connection code) = number_of code
code_of (Stream code) = number_of code

-- GOAWAY with this code (6.8)
pub record IsAway (code : ℕ) (frame : List ℕ) : Type 0 where
  pub kind : kind_of frame ≡ 7
  pub on_none : stream_of frame ≡ 0
  pub says : word_at (payload_of frame) 4 ≡ code

-- frames that were written, each such a one
abbrev pub AreAway : ℕ → List Step → Type 0
AreAway code [] = Unit {0}
AreAway code (got frame ∷ steps) = ⊥
AreAway code (put frame ∷ steps) = IsAway code frame × AreAway code steps

-- after so many octets of the preface these follow, and one of them is not the preface's (3.4)
abbrev pub IsWrong : ℕ → List ℕ → Type 0
IsWrong greeted bytes = take (24 - greeted) bytes ≢ take (length bytes) (drop greeted preface)

-- why a connection is over: the last frame says so, or what follows is too large a frame. Or the client did not begin with the
-- preface: it sent another octet. Or memory ran out before a frame was looked at, or while the last one was
pub data Breaks (c : ExchangeValue) (came : List Step) (greeted : ℕ) (rest : List ℕ) (f : Fault) : Type 0 where
  by_frame : (frame : List ℕ) → came ≡ got frame ∷ [] → Takes c frame (over f) → Breaks c came greeted rest f
  by_size : came ≡ [] → 24 ≤ greeted → IsTooLarge rest → f ≡ Connection Code.FrameSize → Breaks c came greeted rest f
  by_preface : came ≡ [] → greeted < 24 → IsWrong greeted rest → f ≡ Connection Code.Protocol → Breaks c came greeted rest f
  by_memory : came ≡ [] → f ≡ Memory → Breaks c came greeted rest f
  by_memory_at : (frame : List ℕ) → came ≡ got frame ∷ [] → f ≡ Memory → Breaks c came greeted rest f

-- a connection that is over: it went on before, and these calls of those that came whole were given. Since then only GOAWAY was
-- written, with the fault's code
pub record IsOver (most : ℕ) (trail : List Step) (gave : List CallValue) (greeted : ℕ) (rest : List ℕ) (f : Fault) : Type 0 where
  pub before : List Step
  pub came : List Step
  pub away : List Step
  pub whole : trail ≡ away ++ (came ++ before)
  pub are_away : AreAway (code_of f) away
  pub c : ExchangeValue
  pub more : List CallValue
  pub goes : Goes most before c (gave ++ more)
  pub breaks : Breaks c came greeted rest f

-- what was written answers just this, after what waited
pub data Answers (parts : List Parts) (waits after : List ℕ) : Type 0 where
  silent : parts ≡ [] → after ≡ waits → Answers parts waits after
  spoken : (frame : List ℕ) → IsFrame frame → is_answer frame ≡ true → parts ≡ parts_of frame ∷ [] → after ≡ waits ++ frame
      → Answers parts waits after

-- what is done with a frame that was just taken off the unread bytes. The exchange, the bytes and the calls that wait, before and
-- after; why the connection is over, if it is
pub data Acts (frame : List ℕ) (old new : ExchangeValue) (waits after : List ℕ) (calls later : List CallValue) (end : Option Fault) : Type 0 where
  went : (event : Event) → end ≡ None → Takes old frame (on new event) → Answers (answers_to frame event) waits after
      → later ≡ calls ++ calls_in event → Acts frame old new waits after calls later end
  broke : (f : Fault) → end ≡ Some f → Takes old frame (over f) → after ≡ waits → Acts frame old new waits after calls later end
  spent : end ≡ Some Memory → after ≡ waits → Acts frame old new waits after calls later end
