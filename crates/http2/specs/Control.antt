-- What a client with one call makes of the frames that its peer sends (RFC 9113, 3.4, 4.3, 5.1, 6.4, 6.8, 8.1; gRPC's
-- PROTOCOL-HTTP2, Responses). It follows from the frames alone, however their bytes were cut.
use Rattle.std.specs.Prelude.{◌≡◌, ◌≢◌, ◌<◌, ◌≤◌, ℕ, ◌+◌, ◌%◌, ◌==◌, nat_lt, Bool, true, false, not, Option, Some, None, is_some, unwrap_or, List, [], ◌++◌, length, codes, if◌then◌else◌}
use Rattle.hpack.specs.Field.{Line}
use Rattle.hpack.specs.Table.{Table}
use Rattle.hpack.specs.Block.{Means, within}
use Rattle.http2.specs.Frame.{word_at, kind_of, stream_of, payload_of, data_of, fragment_of, ends_stream, ends_block, is_acknowledgement}
use Rattle.http2.specs.Faults.{fault_of}
use Rattle.http2.specs.Fields.{are_plain, are_of_answer}
use Rattle.http2.specs.Answer.{number_of, status_of, is_grpc, is_interim, refusal_in, length_from, without, is_whole}
use Rattle.http2.specs.Message.{Told, told_at, told_in}
use Rattle.http2.specs.declared.control.Stage.{Stage}
use Rattle.http2.specs.declared.control.Stage.TheVariants.{Opened, Asked, Answered}
use Rattle.http2.specs.declared.end.End.{End}
use Rattle.http2.specs.declared.end.End.TheVariants.{Broken, Reset, Away, Refused, Status}
use Rattle.http2.specs.declared.fault.Code.{Code}
use Rattle.http2.specs.declared.fault.Fault.{Fault}
use Rattle.http2.specs.declared.fault.Fault.TheVariants.{Connection, Stream}

-- How far the call is. The header block that is not whole: whether the stream ends after it, its octets, and its weight.
-- HPACK's table, how much content is still to come, if that was told, and what grpc-message told.
pub record ControlValue : Type 0 where
  pub stage : Stage
  pub unfinished : Option Bool
  pub block : List ℕ
  pub weight : ℕ
  pub table : Table
  pub left : Option ℕ
  pub told : Told

-- before the first frame; the peer's table may have 4,096 octets, since no other size is announced (RFC 9113, 6.5.2)
abbrev pub first_control : ControlValue
first_control = record {
  stage = Opened;
  unfinished = None;
  block = [];
  weight = 0;
  table = record { entries = []; limit = 4096 };
  left = None;
  told = told_at None;
}

-- what stays of a call that is over: whether its answer's fields had come, so that data are shown, and the message
pub record Left : Type 0 where
  pub stage : Stage
  pub told : Told

-- after a frame the call goes on, or it is over
pub data Next : Type 0 where
  goes_on : ControlValue → Next
  is_over : End → Left → Next

-- what stays
abbrev pub left_by : ControlValue → Left
left_by c = record { stage = c.stage; told = c.told }

-- the call is over by this
abbrev pub ends : End → ControlValue → Next
ends end c = is_over end (left_by c)

-- what is next, if a call is over by this or goes on
abbrev pub next_of : Option End → ControlValue → Next
next_of None c = goes_on c
next_of (Some end) c = ends end c

-- the call is over by an error of the connection, with this code (RFC 9113, 5.4.1)
abbrev pub connection_error : Code → ControlValue → Next
connection_error code c = ends (Broken (Connection code)) c

-- the call is over by an error of its stream, with this code (RFC 9113, 5.4.2)
abbrev pub stream_error : Code → ControlValue → Next
stream_error code c = ends (Broken (Stream code)) c

-- settings that are no acknowledgement
abbrev pub is_settings : List ℕ → Bool
is_settings frame = if kind_of frame == 4 then not (is_acknowledgement frame) else false

-- a priority, or a frame of an unknown type (RFC 9113, 5.3.2 and 5.5)
abbrev pub is_ignored : List ℕ → Bool
is_ignored frame = if kind_of frame == 2 then true else nat_lt 9 (kind_of frame)

-- the peer's settings have not come
abbrev pub is_opened : Stage → Bool
is_opened Opened = true
is_opened Asked = false
is_opened Answered = false

-- the answer's fields have come
abbrev pub is_answered : Stage → Bool
is_answered Opened = false
is_answered Asked = false
is_answered Answered = true

-- The frames that may not come now. Before the peer's settings, any other frame (3.4). In the middle of a header block, any
-- but its next part (4.3). Elsewhere, a next part.
abbrev pub is_out_of_order : ControlValue → List ℕ → Bool
is_out_of_order c frame =
    if is_opened c.stage then not (is_settings frame)
    else if is_some c.unfinished then not (kind_of frame == 9) else kind_of frame == 9

-- ..., and those on a stream other than the call's (5.1)
abbrev pub is_misplaced : ControlValue → List ℕ → Bool
is_misplaced c frame =
    if is_out_of_order c frame then true
    else if nat_lt 1 (stream_of frame) then not (is_ignored frame) else false

-- the call once the peer's settings have come
abbrev pub settled : ControlValue → ControlValue
settled c = record c { stage = if is_opened c.stage then Asked else c.stage }

-- fields that end the call by its status, after all of its content (8.1.1)
abbrev pub status_came : ControlValue → List Line → Next
status_came c fields =
    if is_whole c.left
    then ends (Status (number_of (codes "grpc-status") fields)) (record c { told = told_in fields })
    else stream_error Code.Protocol c

-- the answer begins: what its content-length tells is still to come, and if it is the end, the status is there too
abbrev pub answer_began : ControlValue → Bool → List Line → Option (Option ℕ) → Next
answer_began c last fields None = stream_error Code.Protocol c
answer_began c last fields (Some left) =
    if last then status_came (record c { left = left }) fields else goes_on (record c { stage = Answered; left = left })

-- The first fields of an answer, by their status. 1xx is interim and not the end (8.1). Only 200 with gRPC's content is an
-- answer.
abbrev pub first_fields : ControlValue → Bool → List Line → Option ℕ → Next
first_fields c last fields None = stream_error Code.Protocol c
first_fields c last fields (Some status) =
    if is_interim status then (if last then stream_error Code.Protocol c else goes_on c)
    else if (if status == 200 then is_grpc fields else false) then answer_began c last fields (length_from None fields)
    else ends (Refused status (refusal_in status fields)) (record c { told = told_in fields })

-- the fields of an answer, unless they are malformed (8.1.1)
abbrev pub answer_came : ControlValue → Bool → List Line → Next
answer_came c last fields =
    if are_of_answer fields then first_fields c last fields (status_of fields) else stream_error Code.Protocol c

-- trailers, which end the stream (8.1), unless they are malformed
abbrev pub trailers_came : ControlValue → Bool → List Line → Next
trailers_came c last fields =
    if last then (if are_plain fields then status_came c fields else stream_error Code.Protocol c)
    else stream_error Code.Protocol c

-- fields that are within the limit of a field list: those of the answer, and after its data the trailers
abbrev pub fields_came : ControlValue → Bool → Option (List Line) → Next
fields_came c last None = stream_error Code.EnhanceYourCalm c
fields_came c last (Some fields) =
    if is_answered c.stage then trailers_came c last fields else answer_came c last fields

-- a part of a header block came: its weight is at most 32,768, and whole it has a meaning (RFC 7541), or none
pub data Gathers (c : ControlValue) (whole : Bool) (next : Next) : Type 0 where
  too_heavy : 32768 < c.weight → next ≡ connection_error Code.EnhanceYourCalm c → Gathers c whole next
  part : c.weight ≤ 32768 → whole ≡ false → next ≡ goes_on c → Gathers c whole next
  fields : c.weight ≤ 32768 → whole ≡ true → (fields : List Line) (table : Table)
      → Means 4096 false c.table c.block fields table
      → next ≡ fields_came (record c { unfinished = None; block = []; table = table }) (unwrap_or c.unfinished false) (within 16384 fields)
      → Gathers c whole next
  garbled : c.weight ≤ 32768 → whole ≡ true
      → ((fields : List Line) (table : Table) → Means 4096 false c.table c.block fields table → ⊥)
      → next ≡ connection_error Code.Compression c → Gathers c whole next

-- the next part of a header block: it weighs its octets, and nine more, so that even empty parts reach the limit
abbrev pub with_part : ControlValue → ℕ → List ℕ → ControlValue
with_part c more octets = record c { block = c.block ++ octets; weight = c.weight + more + length octets }

-- the end of the data is the end of the call without trailers, and so without a status
abbrev pub data_came : ControlValue → Bool → Option (Option ℕ) → Next
data_came c last None = stream_error Code.Protocol c
data_came c last (Some left) =
    if last then (if is_whole left then ends (Status None) c else stream_error Code.Protocol c)
    else goes_on (record c { left = left })

-- data came: only after the answer's fields, and no more than was told (8.1.1)
abbrev pub content_came : ControlValue → Bool → ℕ → Next
content_came c last count =
    if is_answered c.stage then data_came c last (without c.left count) else stream_error Code.Protocol c

-- the peer goes away: the call is over if it was not the peer's to serve (6.8)
abbrev pub went_away : ControlValue → List ℕ → Next
went_away c payload =
    if word_at payload 0 % 2147483648 == 0 then ends (Away (word_at payload 4)) c else goes_on c

-- what a frame without a fault says to the call
pub data Says (c : ControlValue) (frame : List ℕ) (next : Next) : Type 0 where
  content : kind_of frame ≡ 0 → next ≡ content_came c (ends_stream frame) (length (data_of frame)) → Says c frame next
  begins : kind_of frame ≡ 1
      → Gathers (with_part (record c { unfinished = Some (ends_stream frame); block = []; weight = 0 }) 0 (fragment_of frame)) (ends_block frame) next
      → Says c frame next
  continues : kind_of frame ≡ 9
      → Gathers (with_part c 9 (payload_of frame)) (ends_block frame) next → Says c frame next
  reset : kind_of frame ≡ 3 → next ≡ ends (Reset (word_at (payload_of frame) 0)) c → Says c frame next
  away : kind_of frame ≡ 7 → next ≡ went_away c (payload_of frame) → Says c frame next
  nothing : kind_of frame ≢ 0 → kind_of frame ≢ 1 → kind_of frame ≢ 3 → kind_of frame ≢ 7 → kind_of frame ≢ 9
      → next ≡ goes_on c → Says c frame next

-- what is next after a frame: its own fault comes first, then its place, then what it says
pub data After (c : ControlValue) (frame : List ℕ) (next : Next) : Type 0 where
  faulty : (f : Fault) → fault_of frame ≡ Some f → next ≡ ends (Broken f) c → After c frame next
  misplaced : fault_of frame ≡ None → is_misplaced c frame ≡ true → next ≡ connection_error Code.Protocol c
      → After c frame next
  placed : fault_of frame ≡ None → is_misplaced c frame ≡ false → Says (settled c) frame next → After c frame next
