-- A client's call after the frames of a trail: what they said, what they were answered, and why it is over.
use Rattle.std.specs.Prelude.{◌≡◌, ◌≤◌, ◌<◌, ◌^◌, ℕ, ◌+◌, ◌-◌, true, Option, Some, None, List, [], ◌∷◌, ◌++◌, if◌then◌else◌}
use Rattle.http2.specs.Frame.{IsFrame, IsTooLarge, payload_of, is_ping, Parts, parts_of, flow_of, increment_of, window_after}
use Rattle.http2.specs.Trail.{Step, got, put, is_reply, Begins, Unread}
use Rattle.http2.specs.Control.{ControlValue, first_control, Next, goes_on, is_over, Left, left_by, is_settings, After}
use Rattle.http2.specs.declared.end.End.{End}
use Rattle.http2.specs.declared.end.End.TheVariants.{Broken, Cancelled}
use Rattle.http2.specs.declared.fault.Code.{Code}
use Rattle.http2.specs.declared.fault.Fault.{Fault}
use Rattle.http2.specs.declared.fault.Fault.TheVariants.{Memory, Connection}

-- what is next after the frames of a trail that came, in order
abbrev pub Follows : List Step → Next → Type 0
Follows [] next = next ≡ goes_on first_control
Follows (got frame ∷ trail) next = (c : ControlValue) × Follows trail (goes_on c) × After c frame next
Follows (put frame ∷ trail) next = Follows trail next

-- settings are acknowledged, and a ping is with its payload (RFC 9113, 6.5.3 and 6.7)
abbrev pub replies_to : List ℕ → List Parts
replies_to frame =
    if is_settings frame then record { kind = 4; flags = 1; stream = 0; payload = [] } ∷ []
    else if is_ping frame then record { kind = 6; flags = 1; stream = 0; payload = payload_of frame } ∷ []
    else []

-- the acknowledgements that are owed to the frames that came, the oldest first
abbrev pub owed : List Step → List Parts
owed [] = []
owed (got frame ∷ trail) = owed trail ++ replies_to frame
owed (put frame ∷ trail) = owed trail

-- the acknowledgements that were written, the oldest first
abbrev pub replied : List Step → List Parts
replied [] = []
replied (got frame ∷ trail) = replied trail
replied (put frame ∷ trail) = replied trail ++ (if is_reply frame then parts_of frame ∷ [] else [])

-- what was written acknowledges just this
abbrev pub AreReplies : List Step → List Parts → Type 0
AreReplies [] parts = parts ≡ []
AreReplies (got frame ∷ steps) parts = ⊥
AreReplies (put frame ∷ steps) parts = (is_reply frame ≡ true) × (parts ≡ parts_of frame ∷ []) × (steps ≡ [])

-- A frame that exceeds the announced window, or that raises a peer's window above 2^31 - 1 (RFC 9113, 6.9 and 6.9.1). Sums of
-- 2^63 octets count as such.
pub data IsBeyond (u : Unread) (frame : List ℕ) : Type 0 where
  credit : u.credit < flow_of frame → IsBeyond u frame
  stream : 2 ^ 31 ≤ window_after u.window frame + (u.stream + increment_of u.number frame) - u.used → IsBeyond u frame
  connection : 2 ^ 31 ≤ 65535 + (u.connection + increment_of 0 frame) - u.used → IsBeyond u frame
  stream_sum : 2 ^ 63 ≤ u.stream + increment_of u.number frame → IsBeyond u frame
  connection_sum : 2 ^ 63 ≤ u.connection + increment_of 0 frame → IsBeyond u frame

-- why what is unread cannot be read on
pub data StopsAt (u : Unread) (f : Fault) : Type 0 where
  memory : f ≡ Memory → StopsAt u f
  too_large : IsTooLarge u.rest → f ≡ Connection Code.FrameSize → StopsAt u f
  beyond : (frame rest : List ℕ) → u.rest ≡ frame ++ rest → IsFrame frame → IsBeyond u frame
      → f ≡ Connection Code.FlowControl → StopsAt u f

-- Why a call is over, and what stays of it. The frames that came say so, what is unread cannot be read on, the client gave
-- it up, or memory ran out.
pub data Ends (trail : List Step) (u : Unread) (e : End) (left : Left) : Type 0 where
  by_frame : Follows trail (is_over e left) → Ends trail u e left
  by_fault : (c : ControlValue) → Follows trail (goes_on c) → left ≡ left_by c → (f : Fault) → e ≡ Broken f
      → StopsAt u f → Ends trail u e left
  by_client : (c : ControlValue) → Follows trail (goes_on c) → left ≡ left_by c → e ≡ Cancelled → Ends trail u e left
  by_memory : e ≡ Broken Memory → Ends trail u e left

-- how a call is after the frames of a trail
pub record IsAfter (first : List ℕ) (trail : List Step) (control : ControlValue) (end : Option End) (u : Unread) : Type 0 where
  pub begins : Begins first trail
  pub going : end ≡ None → Follows trail (goes_on control)
  pub answered : end ≡ None → replied trail ≡ owed trail
  pub over : (e : End) → end ≡ Some e → Ends trail u e (left_by control)
