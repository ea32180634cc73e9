-- How much a server of unary calls keeps of its client (RFC 9113, 5.1.2 and 10.5).
use Rattle.std.specs.Prelude.{◌≤◌, ℕ, Option, Some, None, List, [], ◌∷◌, length}
use Rattle.http2.specs.Streams.{RequestValue, StreamValue}
use Rattle.http2.specs.Exchange.{ExchangeValue, Turn, on, over, most_streams, most_resets}

-- a request has no more content than is taken
abbrev pub IsShortRequest : ℕ → Option RequestValue → Type 0
IsShortRequest most None = Unit {0}
IsShortRequest most (Some r) = length r.content ≤ most

-- that of each stream
abbrev pub AreShort : ℕ → List StreamValue → Type 0
AreShort most [] = Unit {0}
AreShort most (s ∷ ss) = IsShortRequest most s.request × AreShort most ss

-- at most 100 streams are open, each with no more content than is taken. At most 100 more ended by a reset than by an answer
pub record IsBounded (c : ExchangeValue) : Type 0 where
  pub few : length c.streams ≤ most_streams
  pub calm : c.resets ≤ most_resets
  pub short : AreShort c.most c.streams

-- it is so after a frame with which the connection goes on
abbrev pub Bounds : Turn → Type 0
Bounds (over f) = Unit {0}
Bounds (on c event) = IsBounded c
