-- Messages in frames: gRPC over HTTP2, "Length-Prefixed-Message".
use Rattle.std.specs.Prelude.{◌≡◌, ◌≢◌, ℕ, ◌<◌, ◌≤◌, ◌^◌, List, [], ◌∷◌, ◌++◌, length}
use Rattle.std.specs.Int.{w32, to_be_bytes}
use Rattle.std.specs.List.{AllByRecursion, flat_map}
use Rattle.xds_wire.specs.declared.fault.FrameFault.{FrameFault}
use Rattle.xds_wire.specs.declared.fault.FrameFault.TheVariants as faults
use Rattle.xds_wire.specs.declared.fault.FrameError.{FrameError}

-- the head of a frame: the flag 0, and the message's length in four bytes, the highest first
abbrev pub head_of : ℕ → List ℕ
head_of n = 0 ∷ to_be_bytes w32 n

-- a frame: its head, and then the message
abbrev pub frame_of : List ℕ → List ℕ
frame_of message = head_of (length message) ++ message

-- the frames of the messages, in order
abbrev pub frames_of : List (List ℕ) → List ℕ
frames_of messages = flat_map frame_of messages

-- a length that a frame may have: four bytes hold it, and the limit allows it
abbrev pub IsLength : ℕ → ℕ → Type 0
IsLength max n = (n < 2 ^ 32) × (n ≤ max)

-- each message has an allowed length
abbrev pub AreAllowed : ℕ → List (List ℕ) → Type 0
AreAllowed max messages = AllByRecursion (λ message. IsLength max (length message)) messages

-- the bytes are a proper beginning of a frame: less than a head, or a head and less than its
-- message
pub data IsBeginning (max : ℕ) (rest : List ℕ) : Type 0 where
  nothing : rest ≡ [] → IsBeginning max rest
  part_of_head : (size : List ℕ) → rest ≡ 0 ∷ size → length size < 4 → IsBeginning max rest
  part_of_message : (n : ℕ) (part : List ℕ) → IsLength max n → rest ≡ head_of n ++ part
      → length part < n → IsBeginning max rest

-- the bytes begin with no frame: the first byte says compressed, or the first five name a length
-- above the limit
pub data Breaks (max : ℕ) (rest : List ℕ) (fault : FrameFault) : Type 0 where
  compressed : (flag : ℕ) (more : List ℕ) → rest ≡ flag ∷ more → flag ≢ 0
      → fault ≡ faults.Compressed → Breaks max rest fault
  too_long : (n : ℕ) (more : List ℕ) → rest ≡ head_of n ++ more → n < 2 ^ 32 → max < n
      → fault ≡ faults.TooLong → Breaks max rest fault

-- the bytes after whole frames: a proper beginning of a frame, or a fault
pub data Tail : Type 0 where
  unfinished : List ℕ → Tail
  broken : FrameFault → Tail

-- the tail describes the bytes after whole frames
abbrev pub IsTail : ℕ → List ℕ → Tail → Type 0
IsTail max rest (unfinished bytes) = (bytes ≡ rest) × IsBeginning max rest
IsTail max rest (broken fault) = Breaks max rest fault

-- the bytes are the messages' frames, none longer than the limit, and then the tail
pub record Cut (bytes : List ℕ) (max : ℕ) (messages : List (List ℕ)) (tail : Tail) : Type 0 where
  pub rest : List ℕ
  pub whole : bytes ≡ frames_of messages ++ rest
  pub allowed : AreAllowed max messages
  pub ends : IsTail max rest tail

-- the error that a call gives for a fault
abbrev pub error_of : FrameFault → FrameError
error_of FrameFault.Compressed = FrameError.Compressed
error_of FrameFault.TooLong = FrameError.TooLong
