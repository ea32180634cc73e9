-- What a server of one call makes of the frames that its peer sends (RFC 9113, 3.4, 4.3, 5.1, 6, 8.1). It follows from the
-- frames alone, however their bytes were cut.
use Rattle.std.specs.Prelude.{◌≡◌, ◌≢◌, ℕ, ◌%◌, ◌==◌, nat_lt, Bool, true, false, not, Option, Some, None, List, [], length, if◌then◌else◌}
use Rattle.hpack.specs.Field.{Line}
use Rattle.http2.specs.Frame.{word_at, kind_of, stream_of, payload_of, content_of, fragment_of, ends_stream, ends_block, unopened}
use Rattle.http2.specs.Faults.{fault_of_client}
use Rattle.http2.specs.Fields.{are_plain}
use Rattle.http2.specs.Answer.{length_from, without, is_whole}
use Rattle.http2.specs.Request.{is_request}
use Rattle.http2.specs.Control.{is_settings}
use Rattle.http2.specs.Gathering.{BlockValue, first_block, Gathered, heavy, part, garbled, whole, with_more, Gathers}
use Rattle.http2.specs.declared.over.Over.{Over}
use Rattle.http2.specs.declared.over.Over.TheVariants.{Broken, Reset}
use Rattle.http2.specs.declared.serving.Phase.{Phase}
use Rattle.http2.specs.declared.serving.Phase.TheVariants.{Silent, Waiting, Open, Closed}
use Rattle.http2.specs.declared.fault.Code.{Code}
use Rattle.http2.specs.declared.fault.Fault.{Fault}
use Rattle.http2.specs.declared.fault.Fault.TheVariants.{Connection, Stream}

-- How far the call is. The stream of the header block that is not whole, or 0, whether the stream ends after it, and the block.
-- The call's stream, and the greatest that the peer opened. How much content is still to come, if that was told, and the
-- request's fields. The stream that the last frame opened beside the call's: it is refused.
pub record ServingValue : Type 0 where
  pub phase : Phase
  pub unfinished : ℕ
  pub ends : Bool
  pub block : BlockValue
  pub number : ℕ
  pub last : ℕ
  pub left : Option ℕ
  pub request : List Line
  pub refused : Option ℕ

-- before the first frame
abbrev pub first_serving : ServingValue
first_serving = record {
  phase = Silent;
  unfinished = 0;
  ends = false;
  block = first_block;
  number = unopened;
  last = 0;
  left = None;
  request = [];
  refused = None;
}

-- what stays of a call that is over: how far it was, its stream, and its request
pub record Remains : Type 0 where
  pub phase : Phase
  pub number : ℕ
  pub request : List Line

-- after a frame the call goes on, or it is over
pub data Turn : Type 0 where
  on : ServingValue → Turn
  over : Over → Remains → Turn

-- what stays
abbrev pub remains_of : ServingValue → Remains
remains_of c = record { phase = c.phase; number = c.number; request = c.request }

-- the turn, if a call is over by this or goes on
abbrev pub turn_of : Option Over → ServingValue → Turn
turn_of None c = on c
turn_of (Some o) c = over o (remains_of c)

-- an error of the connection, with this code (5.4.1)
abbrev pub breaks : Code → ServingValue → Turn
breaks code c = over (Broken (Connection code)) (remains_of c)

-- an error of the call's stream, with this code (5.4.2)
abbrev pub fails : Code → ServingValue → Turn
fails code c = over (Broken (Stream code)) (remains_of c)

-- the peer's settings have not come
abbrev pub is_silent : Phase → Bool
is_silent Silent = true
is_silent Waiting = false
is_silent Open = false
is_silent Closed = false

-- the last of the data came
abbrev pub is_closed : Phase → Bool
is_closed Silent = false
is_closed Waiting = false
is_closed Open = false
is_closed Closed = true

-- the request's fields came
abbrev pub is_asked : Phase → Bool
is_asked Silent = false
is_asked Waiting = false
is_asked Open = true
is_asked Closed = true

-- a stream that the peer has not opened (5.1.1): any before the call's, those of even number, and those above the greatest
abbrev pub is_idle : ServingValue → ℕ → Bool
is_idle c stream =
    if stream == 0 then false
    else if c.number == unopened then true
    else if (stream % 2) == 0 then true else nat_lt c.last stream

-- a frame on a stream where it cannot be: fields on one of even number, and DATA, RST_STREAM and WINDOW_UPDATE on an idle
-- one (5.1)
abbrev pub is_astray : ServingValue → List ℕ → Bool
is_astray c frame =
    if kind_of frame == 1 then (stream_of frame % 2) == 0
    else if kind_of frame == 0 then is_idle c (stream_of frame)
    else if kind_of frame == 3 then is_idle c (stream_of frame)
    else if kind_of frame == 8 then is_idle c (stream_of frame) else false

-- The frames that may not come now. Before the peer's settings, any other frame (3.4). In the middle of a header block, any but
-- its next part, on its stream (4.3, 6.10). Elsewhere, a next part, and those that are astray.
abbrev pub is_misplaced : ServingValue → List ℕ → Bool
is_misplaced c frame =
    if is_silent c.phase then not (is_settings frame)
    else if c.unfinished == 0 then (if kind_of frame == 9 then true else is_astray c frame)
    else if kind_of frame == 9 then not (stream_of frame == c.unfinished) else true

-- the call once the peer's settings have come, before what a frame says; no stream is refused yet
abbrev pub settled : ServingValue → ServingValue
settled c = record c { phase = if is_silent c.phase then Waiting else c.phase; refused = None }

-- the phase after fields or data: the last of them close the call
abbrev pub phase_behind : Bool → Phase
phase_behind ends = if ends then Closed else Open

-- a well-formed request opens the call on its stream; its content-length tells how much content comes (8.1.1)
abbrev pub opened : ServingValue → ℕ → List Line → Option (Option ℕ) → Turn
opened c stream fields None = fails Code.Protocol c
opened c stream fields (Some left) =
    if (if c.ends then not (is_whole left) else false) then fails Code.Protocol c
    else on (record c { phase = phase_behind c.ends; number = stream; last = stream; left = left; request = fields })

-- the first fields that came on a new stream
abbrev pub request_came : ServingValue → ℕ → Option (List Line) → Turn
request_came c stream None = fails Code.EnhanceYourCalm c
request_came c stream (Some fields) =
    if is_request fields then opened c stream fields (length_from None fields) else fails Code.Protocol c

-- trailers of the call end its data, unless they are malformed (8.1); none come after the end (5.1)
abbrev pub trailers_came : ServingValue → Option (List Line) → Turn
trailers_came c None = fails Code.EnhanceYourCalm c
trailers_came c (Some fields) =
    if is_closed c.phase then fails Code.StreamClosed c
    else if not c.ends then fails Code.Protocol c
    else if not (are_plain fields) then fails Code.Protocol c
    else if is_whole c.left then on (record c { phase = Closed }) else fails Code.Protocol c

-- fields came on a stream beside the call's: a new one is refused (8.7), and what comes on another is passed over
abbrev pub others_came : ServingValue → ℕ → Turn
others_came c stream = if nat_lt c.last stream then on (record c { last = stream; refused = Some stream }) else on c

-- the fields of a whole header block came
abbrev pub fields_came : ServingValue → ℕ → Option (List Line) → Turn
fields_came c stream fields =
    if c.number == unopened then request_came c stream fields
    else if stream == c.number then trailers_came c fields else others_came c stream

-- what a header block on a stream is with one part more
abbrev pub gathered : ServingValue → ℕ → Gathered → Turn
gathered c stream heavy = breaks Code.EnhanceYourCalm c
gathered c stream part = on c
gathered c stream garbled = breaks Code.Compression c
gathered c stream (whole fields) = fields_came (record c { unfinished = 0 }) stream fields

-- content of the call came, unless more than was told (8.1.1); the last of it closes the call
abbrev pub content_came : ServingValue → Bool → Option (Option ℕ) → Turn
content_came c ends None = fails Code.Protocol c
content_came c ends (Some left) =
    if (if ends then not (is_whole left) else false) then fails Code.Protocol c
    else on (record c { phase = phase_behind ends; left = left })

-- data came: on the call's stream, before its end (5.1); those on another stream are passed over
abbrev pub data_came : ServingValue → List ℕ → Turn
data_came c frame =
    if not (stream_of frame == c.number) then on c
    else if is_closed c.phase then fails Code.StreamClosed c
    else content_came c (ends_stream frame) (without c.left (length (content_of frame)))

-- the peer reset a stream: the call's is over (6.4)
abbrev pub reset_came : ServingValue → List ℕ → Turn
reset_came c frame =
    if stream_of frame == c.number then over (Reset (word_at (payload_of frame) 0)) (remains_of c) else on c

-- a frame has these octets of a header block, which weigh so much more
abbrev pub PartCame : ServingValue → List ℕ → ℕ → List ℕ → Turn → Type 0
PartCame c frame more octets turn = (g : Gathered) × (b : BlockValue)
    × Gathers (with_more c.block more octets) (ends_block frame) g b
    × (turn ≡ gathered (record c { block = b }) (stream_of frame) g)

-- a header block begins
abbrev pub begun : ServingValue → List ℕ → ServingValue
begun c frame = record c {
  unfinished = stream_of frame;
  ends = ends_stream frame;
  block = record { octets = []; weight = 0; table = c.block.table };
}

-- what a frame without a fault says to the call
pub data Says (c : ServingValue) (frame : List ℕ) (turn : Turn) : Type 0 where
  content : kind_of frame ≡ 0 → turn ≡ data_came c frame → Says c frame turn
  begins : kind_of frame ≡ 1 → PartCame (begun c frame) frame 0 (fragment_of frame) turn → Says c frame turn
  continues : kind_of frame ≡ 9 → PartCame c frame 9 (payload_of frame) turn → Says c frame turn
  reset : kind_of frame ≡ 3 → turn ≡ reset_came c frame → Says c frame turn
  nothing : kind_of frame ≢ 0 → kind_of frame ≢ 1 → kind_of frame ≢ 3 → kind_of frame ≢ 9 → turn ≡ on c → Says c frame turn

-- the turn after a frame: its own fault comes first, then its place, then what it says
pub data Takes (c : ServingValue) (frame : List ℕ) (turn : Turn) : Type 0 where
  faulty : (f : Fault) → fault_of_client frame ≡ Some f → turn ≡ over (Broken f) (remains_of c) → Takes c frame turn
  misplaced : fault_of_client frame ≡ None → is_misplaced c frame ≡ true → turn ≡ breaks Code.Protocol c → Takes c frame turn
  placed : fault_of_client frame ≡ None → is_misplaced c frame ≡ false → Says (settled c) frame turn → Takes c frame turn
