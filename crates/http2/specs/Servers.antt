-- The law of a call that is served: all its bytes, and what was made of the frames that they are.
use Rattle.std.specs.Prelude.{◌≡◌, ◌<◌, ◌==◌, nat_lt, if◌then◌else◌, ℕ, Option, None, List, [], ◌∷◌, ◌++◌, take, false}
use Rattle.hpack.specs.Field.{Line as HeaderLine}
use Rattle.hpack.specs.Table.{Table}
use Rattle.hpack.specs.Block.{Means}
use Rattle.http2.specs.Frame.{unopened, kind_of, flags_of, stream_of, payload_of}
use Rattle.http2.specs.Trail.{Step, got, preface, greeting_frame, window_frame, Law}
use Rattle.http2.specs.Lines.{line, unread}
use Rattle.http2.specs.Servings.{serving_view}
use Rattle.http2.specs.Served.{IsServed}
use Rattle.http2.specs.declared.over.Over.{Over}
use Rattle.http2.specs.declared.pipe.Pipe.{Pipe}
use Rattle.http2.specs.declared.serving.Serving.{Serving}
use Rattle.http2.specs.declared.server.Server.{Server}

-- what is done with a frame that was just taken off the unread bytes, while the call goes on
abbrev pub Acts : List ℕ → Pipe → Serving → Pipe → Serving → Option Over → Type 0
Acts frame pipe serving new_pipe new_serving end = (trail : List Step) (came sent took gave : List ℕ)
    → Law (got frame ∷ trail) came sent took gave (line pipe)
    → IsServed trail (serving_view serving) None (unread pipe)
    → (later : List Step) × Law later came sent took gave (line new_pipe)
    × IsServed later (serving_view new_serving) end (unread new_pipe)

-- the call's stream after a frame: that which the frame opened, if none was open
abbrev pub opened_as : ℕ → ℕ → ℕ
opened_as before number =
    if before == unopened then (if nat_lt 0 number then (if nat_lt number unopened then number else before) else before) else before

-- a frame that has these fields, with these flags, on a stream, whatever the peer's table is
pub record Heads (stream flags : ℕ) (fields : List HeaderLine) (frame : List ℕ) : Type 0 where
  pub kind : kind_of frame ≡ 1
  pub flags_are : flags_of frame ≡ flags
  pub on_stream : stream_of frame ≡ stream
  pub means : (most : ℕ) (table : Table) → Means most false table (payload_of frame) fields table

-- THE LAW OF A CALL THAT IS SERVED. It relates all bytes that came, all that were sent, and all data that the core took and gave.
-- The bytes that came are the preface, as far as it came, and then by the law of a trail the frames that passed. After them the
-- call is as it is. A server sends no preface: so the law is that of the bytes that it sent, with the preface in front.
pub record ServeLaw (came sent took gave : List ℕ) (s : Server) : Type 0 where
  pub later : List ℕ
  pub trail : List Step
  pub arrived : came ≡ take s.greeted preface ++ later
  pub behind : s.greeted < 24 → later ≡ []
  pub law : Law trail later (preface ++ sent) took gave (line s.pipe)
  pub is_served : IsServed trail (serving_view s.serving) s.over (unread s.pipe)

-- a server has just begun: its settings and the connection's window wait for the peer
pub record Greets (s : Server) : Type 0 where
  pub out : s.pipe.out ≡ greeting_frame ++ window_frame
  pub law : ServeLaw [] [] [] [] s

-- a step after which the same bytes came, were sent, were taken and given
abbrev pub Stays : Server → Server → Type 0
Stays old new = (came sent took gave : List ℕ) → ServeLaw came sent took gave old → ServeLaw came sent took gave new
