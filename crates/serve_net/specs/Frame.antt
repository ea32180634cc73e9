-- One message in a frame: gRPC over HTTP2, "Length-Prefixed-Message".
use Rattle.std.specs.Prelude.{ℕ, List, ◌∷◌, ◌++◌, length}
use Rattle.std.specs.Int.{w32, to_be_bytes}

-- the flag 0, the message's length in four bytes, the highest first, and the message
abbrev pub frame_of : List ℕ → List ℕ
frame_of message = (0 ∷ to_be_bytes w32 (length message)) ++ message
