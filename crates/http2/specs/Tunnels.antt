-- The law of a tunnel: all its bytes, and what it made of the frames that they are.
use Rattle.std.specs.Prelude.{◌≡◌, Option, List, [], ℕ, ◌∷◌, ◌++◌, false}
use Rattle.hpack.specs.Field.{Line as HeaderLine}
use Rattle.hpack.specs.Table.{Table}
use Rattle.hpack.specs.Block.{Means}
use Rattle.http2.specs.Frame.{kind_of, flags_of, stream_of, payload_of}
use Rattle.http2.specs.Trail.{Step, got, preface, settings_frame, window_frame, Begins, Law}
use Rattle.http2.specs.Lines.{line, unread}
use Rattle.http2.specs.Control.{goes_on}
use Rattle.http2.specs.Controls.{control_view}
use Rattle.http2.specs.Call.{Follows, replied, owed, IsAfter}
use Rattle.http2.specs.declared.control.Control.{Control}
use Rattle.http2.specs.declared.end.End.{End}
use Rattle.http2.specs.declared.pipe.Pipe.{Pipe}
use Rattle.http2.specs.declared.tunnel.Tunnel.{Tunnel}

-- what is done with a frame that was just taken off the unread bytes, while the call goes on
abbrev pub Answers : List ℕ → Pipe → Control → Pipe → Control → Option End → Type 0
Answers frame pipe control new_pipe new_control over = (first : List ℕ) (trail : List Step) (came sent took gave : List ℕ)
    → Law (got frame ∷ trail) came sent took gave (line pipe)
    → Begins first trail → Follows trail (goes_on (control_view control)) → replied trail ≡ owed trail
    → (later : List Step) × Law later came sent took gave (line new_pipe)
    × IsAfter first later (control_view new_control) over (unread new_pipe)

-- a frame that has a call's fields: HEADERS of stream 1, which has all of them, whatever the peer's table is
pub record Asks (frame : List ℕ) (fields : List HeaderLine) : Type 0 where
  pub kind : kind_of frame ≡ 1
  pub flags : flags_of frame ≡ 4
  pub stream : stream_of frame ≡ 1
  pub means : (most : ℕ) (table : Table) → Means most false table (payload_of frame) fields table

-- THE LAW OF A CALL. It relates the frame with its fields, all bytes that came, all that were sent, and all data that the core
-- took and gave. There is a trail by whose law they are the frames that passed. After the frames of this trail the call is as
-- it is.
pub record CallLaw (first came sent took gave : List ℕ) (t : Tunnel) : Type 0 where
  pub trail : List Step
  pub law : Law trail came sent took gave (line t.pipe)
  pub is_after : IsAfter first trail (control_view t.control) t.end (unread t.pipe)

-- a call has just begun with these fields: the preface, settings, the connection's window and the fields wait for the peer
pub record Begun (fields : List HeaderLine) (t : Tunnel) : Type 0 where
  pub first : List ℕ
  pub asks : Asks first fields
  pub out : t.pipe.out ≡ preface ++ settings_frame ++ window_frame ++ first
  pub law : CallLaw first [] [] [] [] t

-- a step after which the same bytes came, were sent, were taken and given
abbrev pub Keeps : Tunnel → Tunnel → Type 0
Keeps old new = (first came sent took gave : List ℕ) → CallLaw first came sent took gave old → CallLaw first came sent took gave new
