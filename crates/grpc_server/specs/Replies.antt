-- The answer of a unary call, as the frames that are written (gRPC's PROTOCOL-HTTP2, Responses). HEADERS begin it, DATA has a message
-- with its length in front, and HEADERS with `grpc-status` end it.
use Rattle.std.specs.Prelude.{◌≡◌, ◌≢◌, ◌⊎◌, ◌<◌, ℕ, Bool, true, false, None, Result, Ok, Err, List, [], ◌∷◌, ◌++◌, length, take, if◌then◌else◌}
use Rattle.http2.specs.Frame.{parts_of}
use Rattle.http2.specs.Trail.{Step, got, put}
use Rattle.http2.specs.Streams.{CallValue, find}
use Rattle.http2.specs.Exchanged.{can_begin, can_end, room_on}
use Rattle.http2.specs.Exchanges.{exchange_view}
use Rattle.http2.specs.Servers.{Heads}
use Rattle.http2.specs.Unary.{UnaryLaw, unary_view}
use Rattle.http2.specs.declared.fault.Fault.{Fault}
use Rattle.http2.specs.declared.unary.UnaryServer.{UnaryServer}
use Rattle.grpc_server.specs.Answers.{opening}
use Rattle.grpc_server.specs.Messages.{ending}
use Rattle.grpc_server.specs.declared.message.StatusCode.{StatusCode}
use Rattle.grpc_server.specs.declared.reply.Reply.{Reply}
use Rattle.grpc_server.specs.declared.reply.Written.{Written}
use Rattle.grpc_server.specs.declared.reply.Written.TheVariants.{Whole, Part, Gone}

-- an answer on a stream of which nothing is written, with this content and this code
pub record IsFresh (stream : ℕ) (content : List ℕ) (code : StatusCode) (r : Reply) : Type 0 where
  pub stream_is : r.stream ≡ stream
  pub content_is : r.content.items ≡ content
  pub code_is : r.code ≡ code
  pub at_start : r.at ≡ 0
  pub unbegun : r.begun ≡ false

-- these frames were written on the connection, the newest first, and nothing else happened
abbrev pub Wrote : List Step → UnaryServer → UnaryServer → Type 0
Wrote steps old new = (most : ℕ) (trail : List Step) (came sent : List ℕ) (gave : List CallValue)
    → UnaryLaw most trail came sent gave (unary_view old) → UnaryLaw most (steps ++ trail) came sent gave (unary_view new)

-- the frames that begin an answer, between what was begun before and after: HEADERS, or none
abbrev pub Opens : ℕ → Bool → Bool → List Step → Type 0
Opens stream true true steps = steps ≡ []
Opens stream false false steps = steps ≡ []
Opens stream false true steps = (frame : List ℕ) × (steps ≡ put frame ∷ []) × Heads stream 4 opening frame
Opens stream true false steps = ⊥

-- DATA on a stream, which bring these octets
abbrev pub AreContent : ℕ → List Step → List ℕ → Type 0
AreContent stream [] octets = octets ≡ []
AreContent stream (got frame ∷ steps) octets = ⊥
AreContent stream (put frame ∷ steps) octets = (earlier part : List ℕ) × AreContent stream steps earlier
    × (parts_of frame ≡ record { kind = 0; flags = 0; stream = stream; payload = part }) × (octets ≡ earlier ++ part)

-- these frames are the answer's from one state to the next: what begins it, and then the next octets of its content
pub record Says (old new : Reply) (steps : List Step) : Type 0 where
  pub first : List Step
  pub data_steps : List Step
  pub octets : List ℕ
  pub whole : steps ≡ data_steps ++ first
  pub opens : Opens old.stream old.begun new.begun first
  pub content : AreContent old.stream data_steps octets
  pub said : take new.at old.content.items ≡ take old.at old.content.items ++ octets
  pub begun : new.begun ≡ false → data_steps ≡ []
  pub stream_same : new.stream ≡ old.stream
  pub content_same : new.content.items ≡ old.content.items
  pub code_same : new.code ≡ old.code

-- content is left, and the call goes on, but the client's windows allow none
pub record IsShut (r : Reply) (u : UnaryServer) : Type 0 where
  pub begun : r.begun ≡ true
  pub left : r.at < length r.content.items
  pub goes_on : u.over ≡ None
  pub takes : can_end (find r.stream (exchange_view u.exchange).streams) ≡ true
  pub shut : room_on (exchange_view u.exchange) (find r.stream (exchange_view u.exchange).streams) ≡ 0

-- more than 65,536 bytes wait for the client, or its windows allow no content
abbrev pub IsHeld : Reply → UnaryServer → Type 0
IsHeld r u = (65536 < length u.wire.out) ⊎ IsShut r u

-- the connection is over, or the stream cannot have the rest of the answer
abbrev pub IsGone : ℕ → Bool → UnaryServer → Type 0
IsGone stream begun u = (u.over ≢ None)
    ⊎ ((if begun then can_end (find stream (exchange_view u.exchange).streams)
    else can_begin (find stream (exchange_view u.exchange).streams)) ≡ false)

-- what one call of `write` does. All is written: the rest of the content, and the fields that end the answer. Or a part is, and the
-- rest is held or can never be written, or there was a fault
pub data Writes (old new : Reply) (before after : UnaryServer) (result : Result Written Fault) : Type 0 where
  whole : (steps : List Step) (frame : List ℕ) → result ≡ Ok Whole → Says old new steps → new.begun ≡ true
      → take new.at old.content.items ≡ old.content.items → Heads old.stream 5 (ending old.code) frame
      → Wrote (put frame ∷ steps) before after → Writes old new before after result
  part : (steps : List Step) → result ≡ Ok Part → Says old new steps → Wrote steps before after → IsHeld new after
      → Writes old new before after result
  gone : (steps : List Step) → result ≡ Ok Gone → Says old new steps → Wrote steps before after → IsGone old.stream new.begun after
      → Writes old new before after result
  failed : (steps : List Step) (e : Fault) → result ≡ Err e → Says old new steps → Wrote steps before after
      → Writes old new before after result
