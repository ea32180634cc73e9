-- The bytes of an incomplete frame that the code keeps, and how it cuts off one frame.
use Rattle.std.specs.Prelude.{◌≡◌, ℕ, ◌<◌, List, ◌++◌, length, take, vec_len}
use Rattle.xds_wire.specs.Frames.{head_of, frame_of, IsLength, IsBeginning, Breaks, Tail, unfinished, broken}
use Rattle.xds_wire.specs.declared.head.Head.{Head}
use Rattle.xds_wire.specs.declared.cut.Piece.{Piece}
use Rattle.xds_wire.specs.declared.cut.Piece.TheVariants as pieces
use Rattle.xds_wire.specs.declared.state.State.{State}
use Rattle.xds_wire.specs.declared.state.State.TheVariants as states

-- the bytes of a head that have arrived
abbrev pub head_view : Head → List ℕ
head_view head = take head.count head.bytes

-- the tail that a state means
abbrev pub tail_view : State → Tail
tail_view (states.Head head) = unfinished (head_view head)
tail_view (states.Data kept) = unfinished (head_of kept.length ++ kept.bytes.items)
tail_view (states.Broken fault) = broken fault

-- the invariant of a state: a head is incomplete; a message is incomplete and not too long
abbrev pub IsState : ℕ → State → Type 0
IsState max (states.Head head) = head.count < 5
IsState max (states.Data kept) = (vec_len kept.bytes < kept.length) × IsLength max kept.length
IsState max (states.Broken fault) = Unit {0}

-- the bytes are this piece
abbrev pub IsPiece : ℕ → List ℕ → Piece → Type 0
IsPiece max bytes (pieces.Head head) =
    (head.count < 5) × (head_view head ≡ bytes) × IsBeginning max bytes
IsPiece max bytes (pieces.Part n part) =
    IsLength max n × (bytes ≡ head_of n ++ part.now) × (length part.now < n)
IsPiece max bytes (pieces.Whole message behind) =
    IsLength max (length message.now) × (bytes ≡ frame_of message.now ++ behind.now)
IsPiece max bytes (pieces.Broken fault) = Breaks max bytes fault
