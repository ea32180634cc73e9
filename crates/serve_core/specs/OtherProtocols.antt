-- Other protocols at the other end of an update stream: HTTP/2 (RFC 9113, section 6.5) and TLS (RFC 8446, section 5.1).
use Rattle.std.specs.Prelude.{◌≡◌, ◌⊎◌, ◌%◌, ℕ, List, [], ◌∷◌, ◌++◌, drop, Option, Some, None}
use Rattle.serve_loop.specs.declared.stream.Stream.TheVariants.{Place, Updates}
use Rattle.serve_loop.specs.History.{accepted, connected, received, closed, drain, took, gave}
use Rattle.serve_core.specs.Turns.{ServerEvent, ServerTurn}
use Rattle.serve_core.specs.declared.other_protocol.OtherProtocol.{OtherProtocol}
use Rattle.serve_core.specs.declared.other_protocol.OtherProtocol.TheVariants as protocol

-- the bytes begin with the length of a SETTINGS frame in three bytes, and with its type. The length is a multiple of 6,
-- and here it is below 256
abbrev pub IsSettings : List ℕ → Type 0
IsSettings (a ∷ b ∷ length ∷ type ∷ more) = (a ≡ 0) × (b ≡ 0) × (length % 6 ≡ 0) × (type ≡ 4)
IsSettings bytes = ⊥

-- the bytes begin with a frame's flags, and the number of the stream 0 in four bytes
abbrev pub IsOfStreamZero : List ℕ → Type 0
IsOfStreamZero (flags ∷ a ∷ b ∷ c ∷ d ∷ more) = (a ≡ 0) × (b ≡ 0) × (c ≡ 0) × (d ≡ 0)
IsOfStreamZero bytes = ⊥

-- the bytes begin with the head of a SETTINGS frame, with which each connection of HTTP/2 begins
abbrev pub IsHttp2 : List ℕ → Type 0
IsHttp2 bytes = IsSettings bytes × IsOfStreamZero (drop 4 bytes)

-- the bytes begin with a record of an alert (21) or a handshake (22), of a version whose first number is 3
abbrev pub IsTls : List ℕ → Type 0
IsTls (type ∷ version ∷ more) = ((type ≡ 21) ⊎ (type ≡ 22)) × (version ≡ 3)
IsTls bytes = ⊥

-- which other protocol the bytes are of, if they are
pub data Speaks (bytes : List ℕ) (found : Option OtherProtocol) : Type 0 where
  http2 : IsHttp2 bytes → found ≡ Some protocol.Http2 → Speaks bytes found
  tls : (IsHttp2 bytes → ⊥) → IsTls bytes → found ≡ Some protocol.Tls → Speaks bytes found
  neither : (IsHttp2 bytes → ⊥) → (IsTls bytes → ⊥) → found ≡ None → Speaks bytes found

-- the bytes of the update stream since it was connected, with those of one more event
abbrev pub updates_then : ServerEvent → List ℕ → List ℕ
updates_then (received Updates bytes) so_far = so_far ++ bytes
updates_then (received (Place k) bytes) so_far = so_far
updates_then connected so_far = []
updates_then (accepted k conn) so_far = so_far
updates_then (closed s) so_far = so_far
updates_then drain so_far = so_far

-- the bytes of the update stream since it was connected, in a history with the newest first
abbrev pub updates_of : List ServerTurn → List ℕ
updates_of [] = []
updates_of (took e effect ∷ turns) = updates_then e (updates_of turns)
updates_of (gave s bytes ∷ turns) = updates_of turns

-- what an event shows, after which the update stream delivered these bytes: their protocol, if the event is some of
-- them, and nothing otherwise
abbrev pub Shown : ServerEvent → List ℕ → Option OtherProtocol → Type 0
Shown (received Updates bytes) so_far found = Speaks so_far found
Shown (received (Place k) bytes) so_far found = found ≡ None
Shown (accepted k conn) so_far found = found ≡ None
Shown connected so_far found = found ≡ None
Shown (closed s) so_far found = found ≡ None
Shown drain so_far found = found ≡ None

-- what the last event of a history shows
abbrev pub ShowsLast : List ServerTurn → Option OtherProtocol → Type 0
ShowsLast [] found = found ≡ None
ShowsLast (took e effect ∷ turns) found = Shown e (updates_then e (updates_of turns)) found
ShowsLast (gave s bytes ∷ turns) found = ShowsLast turns found
