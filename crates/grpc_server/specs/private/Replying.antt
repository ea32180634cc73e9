-- The parts of an answer that are written in order.
use Rattle.std.specs.Prelude.{◌≡◌, ◌≤◌, ◌<◌, ℕ, true, false, None, Result, Ok, Err, List, [], ◌∷◌, ◌++◌, length, take}
use Rattle.http2.specs.Trail.{Step, put}
use Rattle.http2.specs.Streams.{find}
use Rattle.http2.specs.Exchanged.{room_on}
use Rattle.http2.specs.Exchanges.{exchange_view}
use Rattle.http2.specs.Servers.{Heads}
use Rattle.http2.specs.declared.fault.Fault.{Fault}
use Rattle.http2.specs.declared.unary.Answering.{Answering}
use Rattle.http2.specs.declared.unary.Answering.TheVariants.{Written, Waits, Gone}
use Rattle.http2.specs.declared.unary.UnaryServer.{UnaryServer}
use Rattle.grpc_server.specs.Answers.{opening}
use Rattle.grpc_server.specs.Replies.{Wrote, AreContent, IsGone}
use Rattle.grpc_server.specs.declared.reply.Reply.{Reply}

-- what stays of an answer
abbrev pub IsSame : Reply → Reply → Type 0
IsSame old new = (new.stream ≡ old.stream) × (new.content.items ≡ old.content.items) × (new.code ≡ old.code)

-- the fields that begin an answer were written, or they wait, or never will be, or there was a fault
pub data Begins (old new : Reply) (before after : UnaryServer) (result : Result Answering Fault) : Type 0 where
  written : (frame : List ℕ) → result ≡ Ok Written → Heads old.stream 4 opening frame → Wrote (put frame ∷ []) before after
      → IsSame old new → new.at ≡ old.at → new.begun ≡ true → Begins old new before after result
  waits : result ≡ Ok Waits → new ≡ old → after ≡ before → 65536 < length after.wire.out → Begins old new before after result
  gone : result ≡ Ok Gone → new ≡ old → after ≡ before → IsGone old.stream false after → Begins old new before after result
  failed : (e : Fault) → result ≡ Err e → new ≡ old → Wrote [] before after → Begins old new before after result

-- content was written
pub record Sends (old new : Reply) (before after : UnaryServer) : Type 0 where
  pub steps : List Step
  pub octets : List ℕ
  pub content : AreContent old.stream steps octets
  pub said : take new.at old.content.items ≡ take old.at old.content.items ++ octets
  pub same : IsSame old new
  pub begun_same : new.begun ≡ old.begun
  pub wrote : Wrote steps before after

-- no content can be written, unless too many bytes wait for the client, or the connection is over
abbrev pub IsStuck : ℕ → UnaryServer → Type 0
IsStuck stream u = u.over ≡ None → length u.wire.out ≤ 65536
    → room_on (exchange_view u.exchange) (find stream (exchange_view u.exchange).streams) ≡ 0
