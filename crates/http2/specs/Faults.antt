-- What is wrong with a frame of the peer by itself (RFC 9113, 6.1 to 6.10): the first fault, with its code.
use Rattle.std.specs.Prelude.{ℕ, ◌+◌, ◌*◌, ◌-◌, ◌/◌, ◌%◌, ◌==◌, nat_lt, Bool, not, Option, Some, None, Result, Ok, Err, List, [], ◌∷◌, length, if◌then◌else◌}
use Rattle.http2.specs.Frame.{byte, word_at, kind_of, flags_of, stream_of, payload_of}
use Rattle.http2.specs.declared.fault.Code.{Code}
use Rattle.http2.specs.declared.fault.Fault.{Fault}
use Rattle.http2.specs.declared.fault.Fault.TheVariants.{Connection, Stream}

-- the error of a result
abbrev pub error_of : {X : Type 0} → Result X Fault → Option Fault
error_of (Ok x) = None
error_of (Err e) = Some e

-- a flag, by its value
abbrev pub has_flag : ℕ → ℕ → Bool
has_flag mask flags = (flags / mask % 2) == 1

-- PROTOCOL_ERROR, which ends the connection
abbrev pub protocol : Option Fault
protocol = Some (Connection Code.Protocol)

-- FRAME_SIZE_ERROR, which ends the connection
abbrev pub frame_size : Option Fault
frame_size = Some (Connection Code.FrameSize)

-- padding: its length has a byte, and it is not longer than what is left (6.1)
abbrev pub wrong_padded : List ℕ → Option Fault
wrong_padded [] = frame_size
wrong_padded (pad ∷ bytes) = if nat_lt (length bytes) pad then protocol else None

-- padding, if the flag PADDED says that there is some
abbrev pub wrong_padding : ℕ → List ℕ → Option Fault
wrong_padding flags payload = if has_flag 8 flags then wrong_padded payload else None

-- DATA: on a stream, with right padding (6.1)
abbrev pub wrong_data : ℕ → Bool → List ℕ → Option Fault
wrong_data flags on_stream payload = if on_stream then wrong_padding flags payload else protocol

-- the first fault of two
abbrev pub or_else : Option Fault → Option Fault → Option Fault
or_else (Some e) next = Some e
or_else None next = next

-- what a HEADERS frame has before its block: the length of its padding, and a priority of five bytes (6.2)
abbrev pub before_block : ℕ → ℕ
before_block flags = (if has_flag 8 flags then 1 else 0) + (if has_flag 32 flags then 5 else 0)

-- how many bytes of padding it says that it has
abbrev pub padding_in : ℕ → List ℕ → ℕ
padding_in flags payload = if has_flag 8 flags then byte payload 0 else 0

-- HEADERS: on a stream; the bytes before the block are present, and padding reaches back to the block at most (6.2)
abbrev pub wrong_headers : ℕ → Bool → List ℕ → Option Fault
wrong_headers flags on_stream payload =
    if not on_stream then protocol
    else if nat_lt (length payload) (before_block flags) then frame_size
    else if nat_lt (length payload - before_block flags) (padding_in flags payload) then protocol else None

-- PRIORITY: on a stream, of 5 bytes; of another size it ends the stream (6.3)
abbrev pub wrong_priority : Bool → List ℕ → Option Fault
wrong_priority on_stream payload =
    if on_stream then (if length payload == 5 then None else Some (Stream Code.FrameSize)) else protocol

-- RST_STREAM: on a stream, of 4 bytes (6.4)
abbrev pub wrong_reset : Bool → List ℕ → Option Fault
wrong_reset on_stream payload = if on_stream then (if length payload == 4 then None else frame_size) else protocol

-- 6.5.2: A server takes no pushes, so its setting is at most 0, and a client's at most 1. A window is below 2^31. The largest
-- frame has 2^14 to 2^24 - 1 bytes.
abbrev pub wrong_setting : ℕ → ℕ → ℕ → Option Fault
wrong_setting pushes number value =
    if number == 2 then (if nat_lt pushes value then protocol else None)
    else if number == 4 then (if nat_lt 2147483647 value then Some (Connection Code.FlowControl) else None)
    else if number == 5 then (if nat_lt value 16384 then protocol else if nat_lt 16777215 value then protocol else None)
    else None

-- the first fault of settings, each of 6 bytes: its number and its value
abbrev pub wrong_entries : ℕ → List ℕ → Option Fault
wrong_entries pushes (a ∷ b ∷ c ∷ d ∷ e ∷ f ∷ more) =
    or_else (wrong_setting pushes (a * 256 + b) (word_at (a ∷ b ∷ c ∷ d ∷ e ∷ f ∷ []) 2)) (wrong_entries pushes more)
wrong_entries pushes [] = None
wrong_entries pushes (a ∷ []) = None
wrong_entries pushes (a ∷ b ∷ []) = None
wrong_entries pushes (a ∷ b ∷ c ∷ []) = None
wrong_entries pushes (a ∷ b ∷ c ∷ d ∷ []) = None
wrong_entries pushes (a ∷ b ∷ c ∷ d ∷ e ∷ []) = None

-- SETTINGS: on no stream; an acknowledgement is empty, and else there are whole settings without a fault (6.5)
abbrev pub wrong_settings : ℕ → ℕ → Bool → List ℕ → Option Fault
wrong_settings pushes flags on_stream payload =
    if on_stream then protocol
    else if has_flag 1 flags then (if length payload == 0 then None else frame_size)
    else if length payload % 6 == 0 then wrong_entries pushes payload else frame_size

-- PING: on no stream, of 8 bytes (6.7)
abbrev pub wrong_ping : Bool → List ℕ → Option Fault
wrong_ping on_stream payload = if on_stream then protocol else if length payload == 8 then None else frame_size

-- GOAWAY: on no stream, of at least 8 bytes (6.8)
abbrev pub wrong_goaway : Bool → List ℕ → Option Fault
wrong_goaway on_stream payload = if on_stream then protocol else if nat_lt (length payload) 8 then frame_size else None

-- WINDOW_UPDATE: 4 bytes, and something is added; if not, it ends the stream that it is on (6.9)
abbrev pub wrong_update : Bool → List ℕ → Option Fault
wrong_update on_stream payload =
    if length payload == 4
    then (if word_at payload 0 % 2147483648 == 0 then (if on_stream then Some (Stream Code.Protocol) else protocol) else None)
    else frame_size

-- CONTINUATION: on a stream (6.10)
abbrev pub wrong_continuation : Bool → Option Fault
wrong_continuation on_stream = if on_stream then None else protocol

-- a frame of this type, with these flags; pushes were refused, or are a server's (6.6), and unknown types say nothing (4.1)
abbrev pub wrong_by : ℕ → ℕ → ℕ → Bool → List ℕ → Option Fault
wrong_by pushes kind flags on_stream payload =
    if kind == 0 then wrong_data flags on_stream payload
    else if kind == 1 then wrong_headers flags on_stream payload
    else if kind == 2 then wrong_priority on_stream payload
    else if kind == 3 then wrong_reset on_stream payload
    else if kind == 4 then wrong_settings pushes flags on_stream payload
    else if kind == 5 then protocol
    else if kind == 6 then wrong_ping on_stream payload
    else if kind == 7 then wrong_goaway on_stream payload
    else if kind == 8 then wrong_update on_stream payload
    else if kind == 9 then wrong_continuation on_stream
    else None

-- the first fault of a frame, by its parts, and by the most that the peer may say of pushes
abbrev pub fault_by : ℕ → List ℕ → Option Fault
fault_by pushes frame = wrong_by pushes (kind_of frame) (flags_of frame) (not (stream_of frame == 0)) (payload_of frame)

-- that of a server's frame
abbrev pub fault_of : List ℕ → Option Fault
fault_of frame = fault_by 0 frame

-- that of a client's frame
abbrev pub fault_of_client : List ℕ → Option Fault
fault_of_client frame = fault_by 1 frame
