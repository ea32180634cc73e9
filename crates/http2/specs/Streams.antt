-- The streams that a client has open on a server of unary calls (RFC 9113, 5.1), and the calls that they bring.
use Rattle.std.specs.Prelude.{ℕ, ◌+◌, ◌-◌, ◌==◌, nat_lt, Bool, true, false, Option, Some, None, List, [], ◌∷◌, if◌then◌else◌}
use Rattle.hpack.specs.Field.{Line}

-- a request: its fields, and its content
pub record RequestValue : Type 0 where
  pub fields : List Line
  pub content : List ℕ

-- a call: its stream, and its request, which is whole
pub record CallValue : Type 0 where
  pub stream : ℕ
  pub request : RequestValue

-- a stream that is open. Its request until that is whole, and how much content is still to come if that was told. Whether the
-- answer's fields were written. What the client added to the stream's window, and how much of the window was used
pub record StreamValue : Type 0 where
  pub number : ℕ
  pub request : Option RequestValue
  pub left : Option ℕ
  pub begun : Bool
  pub raised : ℕ
  pub used : ℕ

-- a stream that was just opened
abbrev pub fresh : ℕ → Option RequestValue → Option ℕ → StreamValue
fresh number request left = record { number = number; request = request; left = left; begun = false; raised = 0; used = 0 }

-- the stream of a number
abbrev pub find : ℕ → List StreamValue → Option StreamValue
find number [] = None
find number (s ∷ ss) = if s.number == number then Some s else find number ss

-- the streams beside it
abbrev pub others : ℕ → List StreamValue → List StreamValue
others number [] = []
others number (s ∷ ss) = if s.number == number then ss else s ∷ others number ss

-- what a window allows: its initial size and what was added to it, less what was used (6.9.1, 6.9.2). Smaller settings may take
-- it below 0
abbrev pub room : ℕ → ℕ → ℕ → ℕ
room window raised used = window + raised - used

-- a window above 2^31 - 1 (6.9.1); sums of 2^63 octets count as such
abbrev pub is_beyond : ℕ → ℕ → ℕ → Bool
is_beyond window raised used = if nat_lt 9223372036854775807 raised then true else nat_lt 2147483647 (room window raised used)

-- with this initial size no window is (6.9.2)
abbrev pub are_within : ℕ → List StreamValue → Bool
are_within window [] = true
are_within window (s ∷ ss) = if is_beyond window s.raised s.used then false else are_within window ss
