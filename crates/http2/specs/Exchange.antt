-- What a server of unary calls makes of the frames that its client sends (RFC 9113, 3.4, 4.3, 5.1, 5.4, 6, 8.1). It follows from
-- the frames alone, however their bytes were cut.
use Rattle.std.specs.Prelude.{◌≡◌, ◌≢◌, ℕ, ◌+◌, ◌-◌, ◌%◌, ◌==◌, nat_lt, Bool, true, false, not, Option, Some, None, List, [], ◌∷◌, ◌++◌, length, if◌then◌else◌}
use Rattle.hpack.specs.Field.{Line}
use Rattle.http2.specs.Frame.{kind_of, stream_of, payload_of, content_of, fragment_of, ends_stream, ends_block, flow_of, increment_of, window_after}
use Rattle.http2.specs.Faults.{fault_of_client}
use Rattle.http2.specs.Fields.{are_plain}
use Rattle.http2.specs.Answer.{length_from, without, is_whole}
use Rattle.http2.specs.Request.{is_request}
use Rattle.http2.specs.Control.{is_settings}
use Rattle.http2.specs.Gathering.{BlockValue, first_block, Gathered, heavy, part, garbled, whole, with_more, Gathers}
use Rattle.http2.specs.Streams.{RequestValue, CallValue, StreamValue, fresh, find, others, is_beyond, are_within}
use Rattle.http2.specs.declared.fault.Code.{Code}
use Rattle.http2.specs.declared.fault.Fault.{Fault}
use Rattle.http2.specs.declared.fault.Fault.TheVariants.{Memory, Connection, Stream}

-- how many streams may be open at once, as the settings say (5.1.2)
abbrev pub most_streams : ℕ
most_streams = 100

-- how many streams may end by a reset more than by an answer
abbrev pub most_resets : ℕ
most_resets = 100

-- What a server keeps of its client's frames. Whether the settings came. The stream of the header block that is not whole, or 0,
-- and whether the stream ends after it; the block. The greatest stream that the client opened, and the streams that are open. How
-- many ended by a reset more than by an answer. The initial window of a stream as the client's settings have it. What the client
-- added to the connection's window, and how much of that was used. How much the client may still send; the most octets of a
-- request's content
pub record ExchangeValue : Type 0 where
  pub settled : Bool
  pub unfinished : ℕ
  pub ends : Bool
  pub block : BlockValue
  pub last : ℕ
  pub streams : List StreamValue
  pub resets : ℕ
  pub window : ℕ
  pub raised : ℕ
  pub used : ℕ
  pub credit : ℕ
  pub most : ℕ

-- before the first frame
abbrev pub first_exchange : ℕ → ExchangeValue
first_exchange most = record {
  settled = false;
  unfinished = 0;
  ends = false;
  block = first_block;
  last = 0;
  streams = [];
  resets = 0;
  window = 65535;
  raised = 0;
  used = 0;
  credit = 1048581;
  most = most;
}

-- what a frame brings while the connection goes on: nothing, a stream that the server resets with a code, or a call that is whole
pub data Event : Type 0 where
  quiet : Event
  resets : ℕ → Code → Event
  asks : CallValue → Event

-- after a frame the connection goes on, or it is over
pub data Turn : Type 0 where
  on : ExchangeValue → Event → Turn
  over : Fault → Turn

-- an error of the connection, with this code (5.4.1)
abbrev pub breaks : Code → Turn
breaks code = over (Connection code)

-- a stream is gone without an answer: too many of them end the connection (10.5)
abbrev pub gone : ExchangeValue → Event → Turn
gone c event = if nat_lt c.resets most_resets then on (record c { resets = c.resets + 1 }) event else breaks Code.EnhanceYourCalm

-- an error of a stream, with this code (5.4.2); the streams are those beside it
abbrev pub fails : Code → ℕ → ExchangeValue → Turn
fails code number c = gone c (resets number code)

-- a stream stays; the streams are those beside it
abbrev pub stays : ExchangeValue → StreamValue → Event → Turn
stays c s event = on (record c { streams = c.streams ++ s ∷ [] }) event

-- the streams beside one
abbrev pub beside : ExchangeValue → ℕ → ExchangeValue
beside c number = record c { streams = others number c.streams }

-- a stream that the client has not opened (5.1.1): those of even number, and those above the greatest
abbrev pub is_idle : ExchangeValue → ℕ → Bool
is_idle c stream = if stream == 0 then false else if (stream % 2) == 0 then true else nat_lt c.last stream

-- a frame that cannot be on its stream: fields on one of even number; DATA, RST_STREAM and WINDOW_UPDATE on an idle one (5.1)
abbrev pub is_astray : ExchangeValue → List ℕ → Bool
is_astray c frame =
    if kind_of frame == 1 then (stream_of frame % 2) == 0
    else if kind_of frame == 0 then is_idle c (stream_of frame)
    else if kind_of frame == 3 then is_idle c (stream_of frame)
    else if kind_of frame == 8 then is_idle c (stream_of frame) else false

-- the frames that may not come now: any before the client's settings (3.4), a next part elsewhere, and those that are astray. In
-- the middle of a header block: any but its next part, on its stream (4.3, 6.10)
abbrev pub is_misplaced : ExchangeValue → List ℕ → Bool
is_misplaced c frame =
    if not c.settled then not (is_settings frame)
    else if c.unfinished == 0 then (if kind_of frame == 9 then true else is_astray c frame)
    else if kind_of frame == 9 then not (stream_of frame == c.unfinished) else true

-- the last of a request came: it is whole, unless less content came than was told (8.1.1)
abbrev pub ended : ExchangeValue → Option ℕ → RequestValue → StreamValue → Turn
ended c left r s =
    if is_whole left then stays c s (asks (record { stream = s.number; request = r })) else fails Code.Protocol s.number c

-- a well-formed request opens its stream; its content-length tells how much content comes (8.1.1)
abbrev pub opened : ExchangeValue → ℕ → List Line → Option (Option ℕ) → Turn
opened c number fields None = fails Code.Protocol number c
opened c number fields (Some left) =
    if c.ends then ended c left (record { fields = fields; content = [] }) (fresh number None left)
    else stays c (fresh number (Some (record { fields = fields; content = [] })) left) quiet

-- the fields of a request came, on a new stream: they may be too many (10.5.1), or malformed (8.1.1)
abbrev pub request_came : ExchangeValue → ℕ → Option (List Line) → Turn
request_came c number None = fails Code.EnhanceYourCalm number c
request_came c number (Some fields) =
    if is_request fields then opened c number fields (length_from None fields) else fails Code.Protocol number c

-- a new stream came: it is refused while as many are open as may be (5.1.2, 8.7)
abbrev pub stream_came : ExchangeValue → ℕ → Option (List Line) → Turn
stream_came c number fields =
    if nat_lt (length c.streams) most_streams then request_came c number fields else on c (resets number Code.RefusedStream)

-- trailers end the request, unless they are malformed (8.1)
abbrev pub trailers_in : ExchangeValue → StreamValue → RequestValue → Option (List Line) → Turn
trailers_in c s r None = fails Code.EnhanceYourCalm s.number c
trailers_in c s r (Some fields) =
    if not c.ends then fails Code.Protocol s.number c
    else if are_plain fields then ended c s.left r (record s { request = None }) else fails Code.Protocol s.number c

-- none come after the end (5.1)
abbrev pub trailers_of : ExchangeValue → StreamValue → Option RequestValue → Option (List Line) → Turn
trailers_of c s None fields = fails Code.StreamClosed s.number c
trailers_of c s (Some r) fields = trailers_in c s r fields

-- those on a stream that is closed are passed over (5.1)
abbrev pub trailers_came : ExchangeValue → Option StreamValue → Option (List Line) → Turn
trailers_came c None fields = on c quiet
trailers_came c (Some s) fields = trailers_of c s s.request fields

-- the fields of a whole header block came
abbrev pub fields_came : ExchangeValue → ℕ → Option (List Line) → Turn
fields_came c number fields =
    if nat_lt c.last number then stream_came (record c { last = number }) number fields
    else trailers_came (beside c number) (find number c.streams) fields

-- what a header block on a stream is with one part more
abbrev pub gathered : ExchangeValue → ℕ → Gathered → Turn
gathered c number heavy = breaks Code.EnhanceYourCalm
gathered c number part = on c quiet
gathered c number garbled = breaks Code.Compression
gathered c number (whole fields) = fields_came (record c { unfinished = 0 }) number fields

-- a request has more content, which may be the last of it
abbrev pub content_taken : ExchangeValue → StreamValue → RequestValue → Bool → Option ℕ → Turn
content_taken c s r last left =
    if last then ended c left r (record s { request = None; left = left })
    else stays c (record s { request = Some r; left = left }) quiet

-- content of a request, unless more came than was told (8.1.1), or than is taken
abbrev pub content_in : ExchangeValue → StreamValue → RequestValue → Bool → List ℕ → Option (Option ℕ) → Turn
content_in c s r last octets None = fails Code.Protocol s.number c
content_in c s r last octets (Some left) =
    if nat_lt c.most (length r.content + length octets) then fails Code.EnhanceYourCalm s.number c
    else content_taken c s (record r { content = r.content ++ octets }) last left

-- none comes after the end (5.1)
abbrev pub content_of_stream : ExchangeValue → StreamValue → Option RequestValue → Bool → List ℕ → Turn
content_of_stream c s None last octets = fails Code.StreamClosed s.number c
content_of_stream c s (Some r) last octets = content_in c s r last octets (without s.left (length octets))

-- that on a stream that is closed is passed over (5.1)
abbrev pub content_came : ExchangeValue → Option StreamValue → Bool → List ℕ → Turn
content_came c None last octets = on c quiet
content_came c (Some s) last octets = content_of_stream c s s.request last octets

-- data came, within the connection's window (6.9.1)
abbrev pub data_came : ExchangeValue → List ℕ → Turn
data_came c frame =
    if nat_lt c.credit (flow_of frame) then breaks Code.FlowControl
    else content_came (beside (record c { credit = c.credit - flow_of frame }) (stream_of frame)) (find (stream_of frame) c.streams)
    (ends_stream frame) (content_of frame)

-- the client reset a stream (6.4)
abbrev pub reset_came : ExchangeValue → Option StreamValue → Turn
reset_came c None = on c quiet
reset_came c (Some s) = gone c quiet

-- settings came: they change the window of each stream that is open (6.9.2)
abbrev pub settings_came : ExchangeValue → ℕ → Turn
settings_came c window =
    if are_within window c.streams then on (record c { window = window }) quiet else breaks Code.FlowControl

-- the connection's window is raised by so much (6.9)
abbrev pub connection_raised : ExchangeValue → ℕ → Turn
connection_raised c more =
    if is_beyond 65535 (c.raised + more) c.used then breaks Code.FlowControl else on (record c { raised = c.raised + more }) quiet

-- the window of a stream is (6.9)
abbrev pub stream_raised : ExchangeValue → Option StreamValue → ℕ → Turn
stream_raised c None more = on c quiet
stream_raised c (Some s) more =
    if is_beyond c.window (s.raised + more) s.used then fails Code.FlowControl s.number c
    else stays c (record s { raised = s.raised + more }) quiet

-- a window is raised
abbrev pub update_came : ExchangeValue → List ℕ → Turn
update_came c frame =
    if stream_of frame == 0 then connection_raised c (increment_of 0 frame)
    else stream_raised (beside c (stream_of frame)) (find (stream_of frame) c.streams) (increment_of (stream_of frame) frame)

-- a frame has a fault that ends its stream, if that is open
abbrev pub stream_failed : ExchangeValue → Option StreamValue → Code → Turn
stream_failed c None code = on c quiet
stream_failed c (Some s) code = fails code s.number c

-- a frame has a fault that ends its stream; on one that is idle it ends the connection (5.1, 5.4.1)
abbrev pub failed : ExchangeValue → ℕ → Code → Turn
failed c number code =
    if is_idle c number then breaks code else stream_failed (beside c number) (find number c.streams) code

-- a header block begins
abbrev pub begun : ExchangeValue → List ℕ → ExchangeValue
begun c frame = record c {
  unfinished = stream_of frame;
  ends = ends_stream frame;
  block = record { octets = []; weight = 0; table = c.block.table };
}

-- a frame has these octets of a header block, which weigh so much more
abbrev pub PartCame : ExchangeValue → List ℕ → ℕ → List ℕ → Turn → Type 0
PartCame c frame more octets turn = (g : Gathered) × (b : BlockValue)
    × Gathers (with_more c.block more octets) (ends_block frame) g b
    × (turn ≡ gathered (record c { block = b }) (stream_of frame) g)

-- what a frame without a fault says
pub data Says (c : ExchangeValue) (frame : List ℕ) (turn : Turn) : Type 0 where
  content : kind_of frame ≡ 0 → turn ≡ data_came c frame → Says c frame turn
  begins : kind_of frame ≡ 1 → PartCame (begun c frame) frame 0 (fragment_of frame) turn → Says c frame turn
  continues : kind_of frame ≡ 9 → PartCame c frame 9 (payload_of frame) turn → Says c frame turn
  reset : kind_of frame ≡ 3 → turn ≡ reset_came (beside c (stream_of frame)) (find (stream_of frame) c.streams) → Says c frame turn
  settings : kind_of frame ≡ 4 → turn ≡ settings_came c (window_after c.window frame) → Says c frame turn
  update : kind_of frame ≡ 8 → turn ≡ update_came c frame → Says c frame turn
  nothing : kind_of frame ≢ 0 → kind_of frame ≢ 1 → kind_of frame ≢ 3 → kind_of frame ≢ 4 → kind_of frame ≢ 8 → kind_of frame ≢ 9
      → turn ≡ on c quiet → Says c frame turn

-- the client's settings came
abbrev pub settled : ExchangeValue → ExchangeValue
settled c = record c { settled = true }

-- the turn after a frame. Its own fault comes first if that ends the connection. Then its place counts, then a fault that ends
-- its stream, then what it says
pub data Takes (c : ExchangeValue) (frame : List ℕ) (turn : Turn) : Type 0 where
  spent : fault_of_client frame ≡ Some Memory → turn ≡ over Memory → Takes c frame turn
  faulty : (code : Code) → fault_of_client frame ≡ Some (Connection code) → turn ≡ breaks code → Takes c frame turn
  failing : (code : Code) → fault_of_client frame ≡ Some (Stream code)
      → turn ≡ (if is_misplaced c frame then breaks Code.Protocol else failed (settled c) (stream_of frame) code)
      → Takes c frame turn
  misplaced : fault_of_client frame ≡ None → is_misplaced c frame ≡ true → turn ≡ breaks Code.Protocol → Takes c frame turn
  placed : fault_of_client frame ≡ None → is_misplaced c frame ≡ false → Says (settled c) frame turn → Takes c frame turn
