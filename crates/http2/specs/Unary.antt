-- The law of a server of unary calls (RFC 9113): all its bytes, all calls that it gave, what it made of the frames.
use Rattle.std.specs.Prelude.{◌≡◌, ◌≢◌, ◌⊎◌, ◌≤◌, ◌<◌, ℕ, true, Option, Some, None, List, [], ◌∷◌, ◌++◌, length, take, map}
use Rattle.http2.specs.Frame.{IsPart, kind_of, stream_of}
use Rattle.http2.specs.Trail.{Step, got, put, preface, AreFrames, bytes_got, bytes_put, window_frame}
use Rattle.http2.specs.Served.{is_answer}
use Rattle.http2.specs.Streams.{CallValue}
use Rattle.http2.specs.Exchange.{ExchangeValue}
use Rattle.http2.specs.Exchanged.{Goes, IsOver, unary_frame, welcomed}
use Rattle.http2.specs.Exchanges.{exchange_view}
use Rattle.http2.specs.StreamViews.{call_view}
use Rattle.http2.specs.declared.fault.Fault.{Fault}
use Rattle.http2.specs.declared.unary.UnaryServer.{UnaryServer}

-- what a server keeps: how much of the preface came, the bytes that were not looked at, and those that wait for the client. Its
-- exchange, the calls that wait, and why the connection is over
pub record UnaryValue : Type 0 where
  pub greeted : ℕ
  pub rest : List ℕ
  pub out : List ℕ
  pub exchange : ExchangeValue
  pub calls : List CallValue
  pub over : Option Fault

-- what one of the code keeps
abbrev pub unary_view : UnaryServer → UnaryValue
unary_view u = record {
  greeted = u.greeted;
  rest = u.wire.rest;
  out = u.wire.out;
  exchange = exchange_view u.exchange;
  calls = map call_view u.calls.items;
  over = u.over;
}

-- the connection goes on, and the calls given and those that wait are all that came whole; or it is over
abbrev pub IsAt : ℕ → List Step → List CallValue → UnaryValue → Option Fault → Type 0
IsAt most trail gave u None = Goes most trail u.exchange (gave ++ u.calls)
IsAt most trail gave u (Some f) = IsOver most trail gave u.greeted u.rest f

-- THE LAW OF UNARY CALLS. It is about the most content of a request, a trail, all bytes that came, all that were sent, and all
-- calls that were given. The bytes that came are the preface, as far as it came, the frames of the trail, and a rest. Until the
-- preface is whole no frame came, and no rest while the connection goes on. Those that were sent, and those that wait, are the
-- trail's frames. After them the connection is as it is.
pub record UnaryLaw (most : ℕ) (trail : List Step) (came sent : List ℕ) (gave : List CallValue) (u : UnaryValue) : Type 0 where
  pub later : List ℕ
  pub arrived : came ≡ take u.greeted preface ++ later
  pub unheard : u.greeted < 24 → bytes_got trail ≡ []
  pub greeting : u.greeted < 24 → u.over ≡ None → u.rest ≡ []
  pub frames : AreFrames trail
  pub heard : later ≡ bytes_got trail ++ u.rest
  pub written : sent ++ u.out ≡ bytes_put trail
  pub is : IsAt most trail gave u u.over

-- a server has just begun: its settings and the connection's window wait for the client
pub record Welcomes (most : ℕ) (u : UnaryServer) : Type 0 where
  pub out : u.wire.out ≡ unary_frame ++ window_frame
  pub goes_on : u.over ≡ None
  pub law : UnaryLaw most welcomed [] [] [] (unary_view u)

-- a frame that a server writes unasked: what a frame is answered, the connection's window given back, or GOAWAY. So it has no fields
-- and no content of an answer
pub data IsUnasked (frame : List ℕ) : Type 0 where
  reply : is_answer frame ≡ true → IsUnasked frame
  window : kind_of frame ≡ 8 → stream_of frame ≡ 0 → IsUnasked frame
  away : kind_of frame ≡ 7 → stream_of frame ≡ 0 → IsUnasked frame

-- each frame that was written is such a one
abbrev pub AreUnasked : List Step → Type 0
AreUnasked [] = Unit {0}
AreUnasked (got frame ∷ steps) = AreUnasked steps
AreUnasked (put frame ∷ steps) = IsUnasked frame × AreUnasked steps

-- the same bytes came and were sent, and the same calls were given; frames may have been looked at, and others written unasked
abbrev pub Continues : UnaryValue → UnaryValue → Type 0
Continues old new = (most : ℕ) (trail : List Step) (came sent : List ℕ) (gave : List CallValue) → UnaryLaw most trail came sent gave old
    → (steps : List Step) × AreUnasked steps × UnaryLaw most (steps ++ trail) came sent gave new

-- these bytes came; frames may have been looked at, and others written unasked
abbrev pub Receives : List ℕ → UnaryValue → UnaryValue → Type 0
Receives bytes old new = (most : ℕ) (trail : List Step) (came sent : List ℕ) (gave : List CallValue) → UnaryLaw most trail came sent gave old
    → (steps : List Step) × AreUnasked steps × UnaryLaw most (steps ++ trail) (came ++ bytes) sent gave new

-- nothing came, and nothing was written
abbrev pub Stays : UnaryValue → UnaryValue → Type 0
Stays old new = (most : ℕ) (trail : List Step) (came sent : List ℕ) (gave : List CallValue) → UnaryLaw most trail came sent gave old
    → UnaryLaw most trail came sent gave new

-- each frame that came whole was looked at, unless the connection is over, more than 65,536 bytes wait for the client, or 100 calls
abbrev pub HasLooked : UnaryServer → Type 0
HasLooked u = (u.over ≢ None) ⊎ ((65536 < length u.wire.out) ⊎ ((100 ≤ length u.calls.items) ⊎ IsPart u.wire.rest))

-- the client may send more than 786,436 of the 1,048,581 octets, unless the connection is over, or more than 65,536 bytes wait for it
abbrev pub HasGiven : UnaryServer → Type 0
HasGiven u = (u.over ≢ None) ⊎ ((65536 < length u.wire.out) ⊎ (786436 < u.exchange.credit))

-- this frame was written
abbrev pub Writes : List ℕ → UnaryValue → UnaryValue → Type 0
Writes frame old new = (most : ℕ) (trail : List Step) (came sent : List ℕ) (gave : List CallValue) → UnaryLaw most trail came sent gave old
    → UnaryLaw most (put frame ∷ trail) came sent gave new
