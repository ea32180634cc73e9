-- The pump of a control plane: the bytes of its stream that it receives, in order, and what is written for each answer.
use Rattle.std.specs.Prelude.{◌≡◌, ℕ, Bool, false, List, [], ◌∷◌, Option, map}
use Rattle.std.specs.Io.KnownBytes.{Consumes}
use Rattle.ads.specs.Control.{ControlValue, ServesBytes, stream_lost}
use Rattle.stream_pumps.specs.Pumps.{AllButLast, WrittenInTurn, joined}

-- a call on a control plane with bytes of its stream. It gives the bytes sent, the numbers recorded, and whether the
-- stream is broken; or memory ran out
pub data FeedCall : Type 0 where
  answered : (bytes replies numbers : List ℕ) → (is_broken : Bool) → FeedCall
  no_memory : (bytes : List ℕ) → FeedCall

-- the bytes that the call was given
abbrev pub bytes_of : FeedCall → List ℕ
bytes_of (answered bytes replies numbers is_broken) = bytes
bytes_of (no_memory bytes) = bytes

-- the bytes that the call sent; none if memory ran out
abbrev pub replies_of : FeedCall → List ℕ
replies_of (answered bytes replies numbers is_broken) = replies
replies_of (no_memory bytes) = []

-- the effect of the call; if memory ran out, nothing changes
abbrev pub FeedDoes : ControlValue → FeedCall → ControlValue → Type 0
FeedDoes old (answered bytes replies numbers is_broken) new = ServesBytes old bytes replies is_broken numbers new
FeedDoes old (no_memory bytes) new = new ≡ old

-- calls in order
abbrev pub FeedsDo : ControlValue → List FeedCall → ControlValue → Type 0
FeedsDo old [] new = new ≡ old
FeedsDo old (call ∷ calls) new = (next : ControlValue) × FeedDoes old call next × FeedsDo next calls new

-- the stream goes on after the call: it is not broken, and memory did not run out
abbrev pub GoesOn : FeedCall → Type 0
GoesOn (answered bytes replies numbers is_broken) = is_broken ≡ false
GoesOn (no_memory bytes) = ⊥

-- parameters: a control plane, the bytes that a reader has left, and the bytes that a writer took, each before and
-- after
module _ (old new : ControlValue) (input input_new out out_new : Option (List ℕ)) where
  -- the control plane received the bytes that were read, in pieces, up to one that ended the stream; what it sent was
  -- written in order
  pub record ReceivesRequests : Type 0 where
    pub calls : List FeedCall
    pub done : FeedsDo old calls new
    pub on : AllButLast GoesOn calls
    pub read : Consumes input input_new (joined (map bytes_of calls))
    pub written : WrittenInTurn out out_new (map replies_of calls)

-- a stream was served to its end; then the control plane was informed that the stream is lost
pub record ServesStream (old new : ControlValue) (input input_new out out_new : Option (List ℕ)) : Type 0 where
  pub between : ControlValue
  pub receives : ReceivesRequests old between input input_new out out_new
  pub reported : new ≡ stream_lost between
