-- Frames (RFC 9113, 4.1 and 6), as the bytes that they are.
use Rattle.std.specs.List.{AllByRecursion}
use Rattle.std.specs.Prelude.{◌≡◌, ◌⊎◌, ◌≤◌, ◌<◌, ℕ, ◌+◌, ◌*◌, ◌-◌, ◌/◌, ◌%◌, ◌==◌, Bool, false, not, List, [], ◌∷◌, ◌++◌, length, take, drop, get_or, if◌then◌else◌}

-- the byte at a place, and 0 after the end
abbrev pub byte : List ℕ → ℕ → ℕ
byte bytes k = get_or bytes k 0

-- four bytes as a number, the highest first
abbrev pub word_at : List ℕ → ℕ → ℕ
word_at bytes k = byte bytes k * 16777216 + byte bytes (k + 1) * 65536 + byte bytes (k + 2) * 256 + byte bytes (k + 3)

-- the length that a head names
abbrev pub size_of : List ℕ → ℕ
size_of bytes = byte bytes 0 * 65536 + byte bytes 1 * 256 + byte bytes 2

-- the type of a frame
abbrev pub kind_of : List ℕ → ℕ
kind_of frame = byte frame 3

-- its flags
abbrev pub flags_of : List ℕ → ℕ
flags_of frame = byte frame 4

-- its stream; the highest bit of the word is reserved and says nothing
abbrev pub stream_of : List ℕ → ℕ
stream_of frame = word_at frame 5 % 2147483648

-- what follows the 9 bytes of its head
abbrev pub payload_of : List ℕ → List ℕ
payload_of frame = drop 9 frame

-- the bytes are one whole frame, of a size that is allowed
pub record IsFrame (bytes : List ℕ) : Type 0 where
  pub whole : length bytes ≡ 9 + size_of bytes
  pub small : size_of bytes ≤ 16384

-- the bytes are less than a frame that is allowed
pub data IsPart (bytes : List ℕ) : Type 0 where
  head : length bytes < 9 → IsPart bytes
  payload : 9 ≤ length bytes → size_of bytes ≤ 16384 → length bytes < 9 + size_of bytes → IsPart bytes

-- the bytes begin with a head that names too large a payload
pub record IsTooLarge (bytes : List ℕ) : Type 0 where
  pub head : 9 ≤ length bytes
  pub large : 16384 < size_of bytes

-- the flag PADDED
abbrev pub is_padded : List ℕ → Bool
is_padded frame = (flags_of frame / 8 % 2) == 1

-- what a padded payload holds: the first byte counts the bytes of padding at the end
abbrev pub unpadded : List ℕ → List ℕ
unpadded [] = []
unpadded (pad ∷ bytes) = take (length bytes - pad) bytes

-- the payload without its padding
abbrev pub content_of : List ℕ → List ℕ
content_of frame = if is_padded frame then unpadded (payload_of frame) else payload_of frame

-- the flag END_STREAM
abbrev pub ends_stream : List ℕ → Bool
ends_stream frame = (flags_of frame % 2) == 1

-- the flag ACK, which has the same value
abbrev pub is_acknowledgement : List ℕ → Bool
is_acknowledgement frame = (flags_of frame % 2) == 1

-- the flag END_HEADERS
abbrev pub ends_block : List ℕ → Bool
ends_block frame = (flags_of frame / 4 % 2) == 1

-- the flag PRIORITY
abbrev pub has_priority : List ℕ → Bool
has_priority frame = (flags_of frame / 32 % 2) == 1

-- the part of a header block that a HEADERS frame has: without padding, after the five bytes of a priority
abbrev pub fragment_of : List ℕ → List ℕ
fragment_of frame = if has_priority frame then drop 5 (content_of frame) else content_of frame

-- the bytes that a frame brings on a stream
abbrev pub data_on : ℕ → List ℕ → List ℕ
data_on stream frame = if kind_of frame == 0 then (if stream_of frame == stream then content_of frame else []) else []

-- the bytes that a frame brings on the stream of a client's call, which is 1
abbrev pub data_of : List ℕ → List ℕ
data_of frame = data_on 1 frame

-- the bytes of a frame that count for flow control: a DATA frame's payload, padding too
abbrev pub flow_of : List ℕ → ℕ
flow_of frame = if kind_of frame == 0 then length (payload_of frame) else 0

-- those of them that count on a stream
abbrev pub flow_on : ℕ → List ℕ → ℕ
flow_on stream frame = if stream_of frame == stream then flow_of frame else 0

-- the number of a call's stream that is not open yet: no frame is on it, since streams have 31 bits (4.1)
abbrev pub unopened : ℕ
unopened = 2147483648

-- a number that a stream may have (5.1.1)
abbrev pub IsStream : ℕ → Type 0
IsStream number = (0 < number) × (number < 2147483648)

-- how much a frame adds to the window of a stream, or of the connection (stream 0)
abbrev pub increment_of : ℕ → List ℕ → ℕ
increment_of stream frame =
    if kind_of frame == 8
    then (if stream_of frame == stream then (if size_of frame == 4 then word_at frame 9 % 2147483648 else 0) else 0)
    else 0

-- SETTINGS_INITIAL_WINDOW_SIZE after the first of these settings: its number is 4
abbrev pub window_first : ℕ → List ℕ → ℕ
window_first window bytes = if byte bytes 0 * 256 + byte bytes 1 == 4 then word_at bytes 2 else window

-- SETTINGS_INITIAL_WINDOW_SIZE after these settings; the last one counts
abbrev pub window_in : ℕ → List ℕ → ℕ
window_in window (a ∷ b ∷ c ∷ d ∷ e ∷ f ∷ more) =
    window_in (window_first window (a ∷ b ∷ c ∷ d ∷ e ∷ f ∷ [])) more
window_in window [] = window
window_in window (a ∷ []) = window
window_in window (a ∷ b ∷ []) = window
window_in window (a ∷ b ∷ c ∷ []) = window
window_in window (a ∷ b ∷ c ∷ d ∷ []) = window
window_in window (a ∷ b ∷ c ∷ d ∷ e ∷ []) = window

-- that size after a frame of a type with a payload: those of settings count
abbrev pub window_by : ℕ → List ℕ → ℕ → ℕ
window_by kind bytes window = if kind == 4 then window_in window bytes else window

-- that size after a frame
abbrev pub window_after : ℕ → List ℕ → ℕ
window_after window frame = window_by (kind_of frame) (payload_of frame) window

-- a ping that is no acknowledgement, by its type and flags
abbrev pub is_ping_by : ℕ → ℕ → Bool
is_ping_by kind flags = if kind == 6 then not ((flags % 2) == 1) else false

-- a frame that is one
abbrev pub is_ping : List ℕ → Bool
is_ping frame = is_ping_by (kind_of frame) (flags_of frame)

-- a ping that is one
abbrev pub is_pong : List ℕ → Bool
is_pong frame = if kind_of frame == 6 then is_acknowledgement frame else false

-- the eight bytes of a ping, as a number
abbrev pub mark_of : List ℕ → ℕ
mark_of frame = word_at (payload_of frame) 0 * 4294967296 + word_at (payload_of frame) 4

-- a frame by its parts
pub record Parts : Type 0 where
  pub kind : ℕ
  pub flags : ℕ
  pub stream : ℕ
  pub payload : List ℕ

-- the parts of a frame (RFC 9113, 4.1)
abbrev pub parts_of : List ℕ → Parts
parts_of frame = record { kind = kind_of frame; flags = flags_of frame; stream = stream_of frame; payload = payload_of frame }

-- the bytes of frames, in order
abbrev pub joined : List (List ℕ) → List ℕ
joined [] = []
joined (frame ∷ frames) = frame ++ joined frames

-- what their DATA frames bring on a stream, in order
abbrev pub data_of_all : ℕ → List (List ℕ) → List ℕ
data_of_all stream [] = []
data_of_all stream (frame ∷ frames) = data_on stream frame ++ data_of_all stream frames

-- THE GRAMMAR. The bytes are these frames, and after them less than a frame, or a head that names too large a payload.
pub record AreCut (bytes : List ℕ) (frames : List (List ℕ)) (rest : List ℕ) : Type 0 where
  pub whole : bytes ≡ joined frames ++ rest
  pub are : AllByRecursion IsFrame frames
  pub ends : IsPart rest ⊎ IsTooLarge rest
