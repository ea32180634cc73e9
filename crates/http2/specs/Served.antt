-- A call that is served, after the frames of a trail: what they said, what they were answered, and why it is over.
use Rattle.std.specs.Prelude.{◌≡◌, ◌==◌, Bool, true, ℕ, Option, Some, None, List, [], ◌∷◌, ◌++◌, if◌then◌else◌}
use Rattle.http2.specs.Frame.{kind_of, stream_of, Parts, parts_of, unopened}
use Rattle.http2.specs.Trail.{Step, got, put, IsMove, is_reply, greeted, AreQuiet, Unread}
use Rattle.http2.specs.Call.{replies_to, StopsAt}
use Rattle.http2.specs.Serving.{ServingValue, first_serving, Turn, on, over, Remains, remains_of, Takes}
use Rattle.http2.specs.declared.over.Over.{Over}
use Rattle.http2.specs.declared.over.Over.TheVariants.{Broken, Answered}
use Rattle.http2.specs.declared.fault.Code.{Code}
use Rattle.http2.specs.declared.fault.Fault.{Fault}
use Rattle.http2.specs.declared.fault.Fault.TheVariants.{Memory, Connection}

-- a stream is refused: RST_STREAM with REFUSED_STREAM (RFC 9113, 6.4 and 8.7)
abbrev pub refusing : ℕ → Parts
refusing stream = record { kind = 3; flags = 0; stream = stream; payload = 0 ∷ 0 ∷ 0 ∷ 7 ∷ [] }

-- what a frame is answered: the stream that it opened beside the call's is refused, and settings and pings are acknowledged
abbrev pub answers_to : List ℕ → Option ℕ → List Parts
answers_to frame None = replies_to frame
answers_to frame (Some stream) = refusing stream ∷ []

-- what is owed for a frame with which the call goes on
abbrev pub owed_for : List ℕ → Turn → List Parts
owed_for frame (on c) = answers_to frame c.refused
owed_for frame (over o r) = []

-- the turn after the frames of a trail that came, in order, and the answers that are owed to them, the oldest first
abbrev pub Serves : List Step → Turn → List Parts → Type 0
Serves [] turn owed = (turn ≡ on first_serving) × (owed ≡ [])
Serves (got frame ∷ trail) turn owed = (c : ServingValue) × (before : List Parts) × Serves trail (on c) before
    × Takes c frame turn × (owed ≡ before ++ owed_for frame turn)
Serves (put frame ∷ trail) turn owed = Serves trail turn owed

-- a frame that answers one of the peer's
abbrev pub is_answer : List ℕ → Bool
is_answer frame = if kind_of frame == 3 then true else is_reply frame

-- the answers that were written, the oldest first
abbrev pub answered : List Step → List Parts
answered [] = []
answered (got frame ∷ trail) = answered trail
answered (put frame ∷ trail) = answered trail ++ (if is_answer frame then parts_of frame ∷ [] else [])

-- what was written answers just this
abbrev pub AreAnswers : List Step → List Parts → Type 0
AreAnswers [] parts = parts ≡ []
AreAnswers (got frame ∷ steps) parts = ⊥
AreAnswers (put frame ∷ steps) parts = (is_answer frame ≡ true) × (parts ≡ parts_of frame ∷ []) × (steps ≡ [])

-- a frame that a server writes after its settings: an answer, fields of the call's stream, GOAWAY, or one that moves bytes of
-- the call
pub data IsSaid (number : ℕ) (frame : List ℕ) : Type 0 where
  answer : is_answer frame ≡ true → IsSaid number frame
  fields : kind_of frame ≡ 1 → stream_of frame ≡ number → IsSaid number frame
  away : kind_of frame ≡ 7 → stream_of frame ≡ 0 → IsSaid number frame
  move : IsMove number frame → IsSaid number frame

-- each frame that was written is such a one
abbrev pub AreSaid : ℕ → List Step → Type 0
AreSaid number [] = Unit {0}
AreSaid number (got frame ∷ trail) = AreSaid number trail
AreSaid number (put frame ∷ trail) = IsSaid number frame × AreSaid number trail

-- Why a call is over, and what stays of it. The frames that came say so, or what is unread cannot be read on. Or the peer did
-- not begin with the preface (3.4), the answer was written to its end, or memory ran out.
pub data Stops (trail : List Step) (u : Unread) (o : Over) (r : Remains) : Type 0 where
  by_frame : (owed : List Parts) → Serves trail (over o r) owed → Stops trail u o r
  by_fault : (c : ServingValue) (owed : List Parts) → Serves trail (on c) owed → r ≡ remains_of c
      → (f : Fault) → o ≡ Broken f → StopsAt u f → Stops trail u o r
  by_preface : Serves trail (on first_serving) [] → r ≡ remains_of first_serving → o ≡ Broken (Connection Code.Protocol)
      → Stops trail u o r
  by_answer : (c : ServingValue) (owed : List Parts) → Serves trail (on c) owed → r ≡ remains_of c → o ≡ Answered
      → Stops trail u o r
  by_memory : o ≡ Broken Memory → Stops trail u o r

-- how a call is after the frames of a trail
pub record IsServed (trail : List Step) (control : ServingValue) (end : Option Over) (u : Unread) : Type 0 where
  pub later : List Step
  pub whole : trail ≡ later ++ greeted
  pub said : AreSaid u.number later
  pub quiet : end ≡ None → u.number ≡ unopened → AreQuiet trail
  pub going : end ≡ None → Serves trail (on control) (answered trail)
  pub same : end ≡ None → u.number ≡ control.number
  pub ended : (o : Over) → end ≡ Some o → Stops trail u o (remains_of control)
