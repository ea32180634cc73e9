-- What passed on a connection with one call, and its law.
use Rattle.std.specs.Prelude.{◌≡◌, ◌≢◌, ◌⊎◌, ◌≤◌, ◌<◌, ℕ, ◌+◌, ◌-◌, ◌==◌, min, Bool, true, false, if◌then◌else◌, Option, Some, None, List, [], ◌∷◌, ◌++◌, take}
use Rattle.http2.specs.Frame.{IsFrame, Parts, parts_of, kind_of, flags_of, stream_of, payload_of, ends_stream, is_acknowledgement, is_ping, is_pong, mark_of, data_on, flow_of, flow_on, increment_of, window_after}

-- a frame came, or a frame was written
pub data Step : Type 0 where
  got : List ℕ → Step
  put : List ℕ → Step

-- ---- sums over a trail, which has the newest step first

-- the bytes that came
abbrev pub bytes_got : List Step → List ℕ
bytes_got [] = []
bytes_got (got frame ∷ trail) = bytes_got trail ++ frame
bytes_got (put frame ∷ trail) = bytes_got trail

-- the bytes that were written
abbrev pub bytes_put : List Step → List ℕ
bytes_put [] = []
bytes_put (got frame ∷ trail) = bytes_put trail
bytes_put (put frame ∷ trail) = bytes_put trail ++ frame

-- what the DATA frames of a stream brought
abbrev pub data_got : ℕ → List Step → List ℕ
data_got stream [] = []
data_got stream (got frame ∷ trail) = data_got stream trail ++ data_on stream frame
data_got stream (put frame ∷ trail) = data_got stream trail

-- what the DATA frames of a stream that were written took along
abbrev pub data_put : ℕ → List Step → List ℕ
data_put stream [] = []
data_put stream (got frame ∷ trail) = data_put stream trail
data_put stream (put frame ∷ trail) = data_put stream trail ++ data_on stream frame

-- how many bytes that count were written
abbrev pub spent : List Step → ℕ
spent [] = 0
spent (got frame ∷ trail) = spent trail
spent (put frame ∷ trail) = spent trail + flow_of frame

-- what the peer added to the window of a stream, or of the connection (stream 0)
abbrev pub raised : ℕ → List Step → ℕ
raised stream [] = 0
raised stream (got frame ∷ trail) = raised stream trail + increment_of stream frame
raised stream (put frame ∷ trail) = raised stream trail

-- the initial window of a stream, as the peer's settings have it (RFC 9113, 6.9.2)
abbrev pub initial : List Step → ℕ
initial [] = 65535
initial (got frame ∷ trail) = window_after (initial trail) frame
initial (put frame ∷ trail) = initial trail

-- how many bytes that count came
abbrev pub flow_got : List Step → ℕ
flow_got [] = 0
flow_got (got frame ∷ trail) = flow_got trail + flow_of frame
flow_got (put frame ∷ trail) = flow_got trail

-- how many of them came on a stream
abbrev pub flow_got_on : ℕ → List Step → ℕ
flow_got_on stream [] = 0
flow_got_on stream (got frame ∷ trail) = flow_got_on stream trail + flow_on stream frame
flow_got_on stream (put frame ∷ trail) = flow_got_on stream trail

-- what was added to the peer's window of a stream, or of the connection (stream 0)
abbrev pub given : ℕ → List Step → ℕ
given stream [] = 0
given stream (got frame ∷ trail) = given stream trail
given stream (put frame ∷ trail) = given stream trail + increment_of stream frame

-- the peer's initial window of a stream, as the settings that were written have it
abbrev pub offered : List Step → ℕ
offered [] = 65535
offered (got frame ∷ trail) = offered trail
offered (put frame ∷ trail) = window_after (offered trail) frame

-- whether the data are at their end, after a frame that was written
abbrev pub finished_after : Bool → List ℕ → Bool
finished_after before frame = if kind_of frame == 0 then (if ends_stream frame then true else before) else before

-- whether the last of the data were written
abbrev pub is_finished : List Step → Bool
is_finished [] = false
is_finished (got frame ∷ trail) = is_finished trail
is_finished (put frame ∷ trail) = finished_after (is_finished trail) frame

-- the mark of the ping that waits, after a frame that was written
abbrev pub pinged : Option ℕ → List ℕ → Option ℕ
pinged waits frame = if is_ping frame then Some (mark_of frame) else waits

-- the ping with this mark waits no longer
abbrev pub unless_marked : Option ℕ → ℕ → Option ℕ
unless_marked None mark = None
unless_marked (Some n) mark = if n == mark then None else Some n

-- the mark of the ping that waits, after a frame that came
abbrev pub ponged : Option ℕ → List ℕ → Option ℕ
ponged waits frame = if is_pong frame then unless_marked waits (mark_of frame) else waits

-- the mark of the last ping that was written, unless it has been acknowledged since (RFC 9113, 6.7)
abbrev pub waiting : List Step → Option ℕ
waiting [] = None
waiting (got frame ∷ trail) = ponged (waiting trail) frame
waiting (put frame ∷ trail) = pinged (waiting trail) frame

-- a frame that acknowledges one of the peer's: settings or a ping (RFC 9113, 6.5 and 6.7)
abbrev pub is_reply : List ℕ → Bool
is_reply frame =
    if kind_of frame == 4 then is_acknowledgement frame
    else if kind_of frame == 6 then is_acknowledgement frame else false

-- a frame that moves bytes of a call: data on its stream, a window given back, or a ping
pub data IsMove (number : ℕ) (frame : List ℕ) : Type 0 where
  move_data : kind_of frame ≡ 0 → stream_of frame ≡ number → IsMove number frame
  move_window : kind_of frame ≡ 8 → flags_of frame ≡ 0 → IsMove number frame
  move_ping : kind_of frame ≡ 6 → flags_of frame ≡ 0 → stream_of frame ≡ 0 → IsMove number frame

-- frames that were written, each such a one
abbrev pub AreMoves : ℕ → List Step → Type 0
AreMoves number [] = Unit {0}
AreMoves number (got frame ∷ steps) = ⊥
AreMoves number (put frame ∷ steps) = IsMove number frame × AreMoves number steps

-- the reset of the call, as CANCEL (RFC 9113, 6.4 and 7)
abbrev pub cancelling : Parts
cancelling = record { kind = 3; flags = 0; stream = 1; payload = 0 ∷ 0 ∷ 0 ∷ 8 ∷ [] }

-- A frame that a client writes on its own account after its opening. It is data of the call, a window given back, a ping, the
-- call's reset, or GOAWAY. GOAWAY names no stream as served.
pub data IsOwn (frame : List ℕ) : Type 0 where
  own_data : kind_of frame ≡ 0 → stream_of frame ≡ 1 → IsOwn frame
  own_window : kind_of frame ≡ 8 → flags_of frame ≡ 0 → IsOwn frame
  own_ping : kind_of frame ≡ 6 → flags_of frame ≡ 0 → stream_of frame ≡ 0 → IsOwn frame
  own_reset : parts_of frame ≡ cancelling → IsOwn frame
  own_away : kind_of frame ≡ 7 → stream_of frame ≡ 0 → take 4 (payload_of frame) ≡ 0 ∷ 0 ∷ 0 ∷ 0 ∷ [] → IsOwn frame

-- frames that were written, each on the client's own account
abbrev pub AreOwn : List Step → Type 0
AreOwn [] = Unit {0}
AreOwn (got frame ∷ steps) = ⊥
AreOwn (put frame ∷ steps) = IsOwn frame × AreOwn steps

-- what was written is that, and acknowledgements
abbrev pub AreWritten : List Step → Type 0
AreWritten [] = Unit {0}
AreWritten (got frame ∷ steps) = AreWritten steps
AreWritten (put frame ∷ steps) = (IsOwn frame ⊎ (is_reply frame ≡ true)) × AreWritten steps

-- each step is a frame
abbrev pub AreFrames : List Step → Type 0
AreFrames [] = Unit {0}
AreFrames (got frame ∷ trail) = IsFrame frame × AreFrames trail
AreFrames (put frame ∷ trail) = IsFrame frame × AreFrames trail

-- each DATA frame that was written was within both windows, the stream's and the connection's, as the peer had granted them
-- until then
abbrev pub IsGranted : ℕ → List Step → Type 0
IsGranted stream [] = Unit {0}
IsGranted stream (got frame ∷ trail) = IsGranted stream trail
IsGranted stream (put frame ∷ trail) =
    (0 < flow_of frame → (spent trail + flow_of frame ≤ initial trail + raised stream trail)
    × (spent trail + flow_of frame ≤ 65535 + raised 0 trail))
    × IsGranted stream trail

-- no DATA frame was written after the last of the data (RFC 9113, 5.1)
abbrev pub IsOpen : List Step → Type 0
IsOpen [] = Unit {0}
IsOpen (got frame ∷ trail) = IsOpen trail
IsOpen (put frame ∷ trail) = (kind_of frame ≡ 0 → is_finished trail ≡ false) × IsOpen trail

-- what a client says first
abbrev pub preface : List ℕ
preface = 80 ∷ 82 ∷ 73 ∷ 32 ∷ 42 ∷ 32 ∷ 72 ∷ 84 ∷ 84 ∷ 80 ∷ 47 ∷ 50 ∷ 46 ∷ 48 ∷ 13 ∷ 10 ∷ 13 ∷ 10
    ∷ 83 ∷ 77 ∷ 13 ∷ 10 ∷ 13 ∷ 10 ∷ []

-- its settings: no pushes, an initial window of 1,048,581 octets, and field lists of at most 16,384 (RFC 9113, 6.5.2)
abbrev pub settings_frame : List ℕ
settings_frame = 0 ∷ 0 ∷ 18 ∷ 4 ∷ 0 ∷ 0 ∷ 0 ∷ 0 ∷ 0 ∷ 0 ∷ 2 ∷ 0 ∷ 0 ∷ 0 ∷ 0 ∷ 0 ∷ 4 ∷ 0 ∷ 16 ∷ 0 ∷ 5
    ∷ 0 ∷ 6 ∷ 0 ∷ 0 ∷ 64 ∷ 0 ∷ []

-- the connection's window, raised from 65,535 octets to 1,048,581 (6.9.2)
abbrev pub window_frame : List ℕ
window_frame = 0 ∷ 0 ∷ 4 ∷ 8 ∷ 0 ∷ 0 ∷ 0 ∷ 0 ∷ 0 ∷ 0 ∷ 15 ∷ 0 ∷ 6 ∷ []

-- the frames after the preface, before those of the call
abbrev pub connected : List Step
connected = put window_frame ∷ put settings_frame ∷ []

-- a server's settings: one stream at once, an initial window of 1,048,581 octets, and field lists of at most 16,384
abbrev pub greeting_frame : List ℕ
greeting_frame = 0 ∷ 0 ∷ 18 ∷ 4 ∷ 0 ∷ 0 ∷ 0 ∷ 0 ∷ 0 ∷ 0 ∷ 3 ∷ 0 ∷ 0 ∷ 0 ∷ 1 ∷ 0 ∷ 4 ∷ 0 ∷ 16 ∷ 0 ∷ 5
    ∷ 0 ∷ 6 ∷ 0 ∷ 0 ∷ 64 ∷ 0 ∷ []

-- the frames that a server says first
abbrev pub greeted : List Step
greeted = put window_frame ∷ put greeting_frame ∷ []

-- a frame that no stream has: no data, and no window but the connection's
abbrev pub IsQuiet : List ℕ → Type 0
IsQuiet frame = (kind_of frame ≢ 0) × (kind_of frame ≡ 8 → stream_of frame ≡ 0)

-- each frame of the trail is such a one
abbrev pub AreQuiet : List Step → Type 0
AreQuiet [] = Unit {0}
AreQuiet (got frame ∷ trail) = IsQuiet frame × AreQuiet trail
AreQuiet (put frame ∷ trail) = IsQuiet frame × AreQuiet trail

-- A trail that begins so, and then with this frame, which has the call's fields. What was written after it is the client's
-- own, and acknowledgements.
pub record Begins (first : List ℕ) (trail : List Step) : Type 0 where
  pub later : List Step
  pub whole : trail ≡ later ++ put first ∷ connected
  pub written : AreWritten later

-- What is kept: the number of the call's stream, and bytes of the peer that are no whole frame yet or were not looked at. Also
-- data for the core, bytes for the peer, and the sums of the trail. A credit is what the peer may still send.
pub record Line : Type 0 where
  pub number : ℕ
  pub rest : List ℕ
  pub data_in : List ℕ
  pub out : List ℕ
  pub window : ℕ
  pub stream : ℕ
  pub connection : ℕ
  pub used : ℕ
  pub stream_credit : ℕ
  pub connection_credit : ℕ
  pub finished : Bool
  pub waits : Option ℕ

-- the call's stream, the bytes that were not looked at, and the windows: those of the peer, and how much it may still send
pub record Unread : Type 0 where
  pub number : ℕ
  pub rest : List ℕ
  pub window : ℕ
  pub stream : ℕ
  pub connection : ℕ
  pub used : ℕ
  pub credit : ℕ

-- how much both windows allow
abbrev pub allowed : Line → ℕ
allowed line = min (line.window + line.stream - line.used) (65535 + line.connection - line.used)

-- THE LAW. It relates a trail to all bytes that came, all that were sent, and all data that the core took and gave. The bytes
-- that came are the trail's frames, and then the rest. The data of the call's frames among them are those that the core
-- took, and then those that wait. The bytes sent, and then those that wait, are the preface and frames. Their data are those
-- that the core gave. Each was within the windows, and none was written after the last. What the peer was granted, on its
-- stream and on its connection, is what came of it and the credit.
pub record Law (trail : List Step) (came sent took gave : List ℕ) (line : Line) : Type 0 where
  pub frames : AreFrames trail
  pub arrived : came ≡ bytes_got trail ++ line.rest
  pub handed : data_got line.number trail ≡ took ++ line.data_in
  pub written : sent ++ line.out ≡ preface ++ bytes_put trail
  pub said : data_put line.number trail ≡ gave
  pub granted : IsGranted line.number trail
  pub window_is : line.window ≡ initial trail
  pub stream_is : line.stream ≡ raised line.number trail
  pub connection_is : line.connection ≡ raised 0 trail
  pub used_is : line.used ≡ spent trail
  pub unended : IsOpen trail
  pub finished_is : line.finished ≡ is_finished trail
  pub waits_is : line.waits ≡ waiting trail
  pub stream_given : offered trail + given line.number trail ≡ flow_got_on line.number trail + line.stream_credit
  pub connection_given : 65535 + given 0 trail ≡ flow_got trail + line.connection_credit

-- what passed is the same, and these steps are new, the newest first
abbrev pub Adds : List Step → Line → Line → Type 0
Adds steps old new = (trail : List Step) (came sent took gave : List ℕ)
    → Law trail came sent took gave old → Law (steps ++ trail) came sent took gave new

-- ..., and these bytes came
abbrev pub Hears : List ℕ → Line → Line → Type 0
Hears bytes old new = (trail : List Step) (came sent took gave : List ℕ)
    → Law trail came sent took gave old → Law trail (came ++ bytes) sent took gave new

-- ..., and these bytes were sent
abbrev pub Sends : List ℕ → Line → Line → Type 0
Sends bytes old new = (trail : List Step) (came sent took gave : List ℕ)
    → Law trail came sent took gave old → Law trail came (sent ++ bytes) took gave new

-- ..., and the core took these data
abbrev pub Hands : List ℕ → Line → Line → Type 0
Hands data_in old new = (trail : List Step) (came sent took gave : List ℕ)
    → Law trail came sent took gave old → Law trail came sent (took ++ data_in) gave new

-- ..., and the core gave these data, which these steps wrote
abbrev pub Gives : List Step → List ℕ → Line → Line → Type 0
Gives steps data_out old new = (trail : List Step) (came sent took gave : List ℕ)
    → Law trail came sent took gave old → Law (steps ++ trail) came sent took (gave ++ data_out) new
