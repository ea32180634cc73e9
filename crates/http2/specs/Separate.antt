-- What one stream has of the frames on another: nothing.
use Rattle.std.specs.Prelude.{◌≡◌, ◌≢◌, ℕ, List}
use Rattle.http2.specs.Streams.{StreamValue, find}
use Rattle.http2.specs.Exchange.{Event, quiet, resets, asks, Turn, on, over}

-- the event is of this stream
abbrev pub IsOf : ℕ → Event → Type 0
IsOf number quiet = Unit {0}
IsOf number (resets stream code) = stream ≡ number
IsOf number (asks call) = call.stream ≡ number

-- after a frame on a stream each other stream is as before: open with the same request and the same window, or not open. What the
-- frame brings is of its own stream
abbrev pub KeepsOthers : ℕ → List StreamValue → Turn → Type 0
KeepsOthers number streams (over f) = Unit {0}
KeepsOthers number streams (on c event) =
    ((other : ℕ) → other ≢ number → find other c.streams ≡ find other streams) × IsOf number event
