-- The numbers under which the system reports what is ready.
use Rattle.std.specs.Prelude.{ℕ, ◌+◌, ◌<◌, ◌^◌, ⊤}
use Rattle.serve_net.specs.declared.event.Ready.{Ready}
use Rattle.serve_net.specs.declared.event.Ready.TheVariants as ready

-- the number of what may be ready
abbrev pub token_of : Ready → ℕ
token_of (ready.Place k) = k
token_of (ready.Admin k) = 2 ^ 62 + k
token_of ready.Listener = 2 ^ 63
token_of ready.AdminListener = 2 ^ 63 + 1
token_of ready.Control = 2 ^ 63 + 2
token_of ready.Drain = 2 ^ 63 + 3

-- a place below 2 ^ 62 has a number, and so has all that is no place
abbrev pub HasToken : Ready → Type 0
HasToken (ready.Place k) = k < 2 ^ 62
HasToken (ready.Admin k) = k < 2 ^ 62
HasToken ready.Listener = ⊤
HasToken ready.AdminListener = ⊤
HasToken ready.Control = ⊤
HasToken ready.Drain = ⊤
