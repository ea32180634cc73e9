-- All that a control plane sends and records, defined on the complete lists of its streams' requests: xDS REST and gRPC
-- protocol, "ACK and NACK". Turns and calls are this project's own.
use Rattle.std.specs.Prelude.{◌≡◌, ◌⊎◌, ◌↔◌, ℕ, ◌+◌, ◌==◌, min, max, Bool, true, false, Some, None, List, [], ◌∷◌, ◌++◌, length, filter, if◌then◌else◌}
use Rattle.std.specs.List.{AllZip, flat_map}
use Rattle.proto_wire.specs.Values.{last_of}
use Rattle.proto_wire.specs.declared.refusal.Refusal.{Refusal}
use Rattle.xds_wire.specs.Frames.{Tail, unfinished, broken, Cut, frames_of}
use Rattle.xds_wire.specs.declared.fault.FrameFault.{FrameFault}
use Rattle.xds_wire.specs.Discovery.{RequestMessage, IsRequest, RequestFault}
use Rattle.ads.specs.Client.{most_bytes}
use Rattle.ads.specs.Control.{ControlValue, IsAck, IsNack, ResourceValue, ServedValue, Serves, ServesBytes, stream_lost}

-- a turn: a request, and whether it answers a response. Also the messages of the responses that were sent for it, and
-- the numbers that were recorded for it
pub record Turn : Type 0 where
  pub request : RequestMessage
  pub is_answer : Bool
  pub responses : List (List ℕ)
  pub numbers : List ℕ

-- the turns whose request answers a response
abbrev pub answers_in : List Turn → List Turn
answers_in turns = filter (λ t. t.is_answer) turns

-- the messages of all responses that were sent in the turns
abbrev pub responses_in : List Turn → List (List ℕ)
responses_in turns = flat_map (λ t. t.responses) turns

-- all numbers that were recorded in the turns
abbrev pub numbers_in : List Turn → List ℕ
numbers_in turns = flat_map (λ t. t.numbers) turns

-- the serving state before a request, from the turns of lost streams and the earlier turns of its own stream. Each
-- answer makes the next snapshot the current one, up to the last. Responses are counted from the first stream on
abbrev pub served_of : List (List ResourceValue) → List Turn → List Turn → ServedValue
served_of snapshots before earlier = record {
  current = min (length (answers_in (before ++ earlier)) + 1) (max (length snapshots) 1);
  sent = length (responses_in (before ++ earlier));
  last = if length (responses_in earlier) == 0 then None else Some (length (responses_in (before ++ earlier)));
  acknowledged = last_of (numbers_in (before ++ earlier));
}

-- a turn after the earlier ones, and whether it ends the stream
pub record IsTurn (snapshots : List (List ResourceValue)) (before earlier : List Turn) (turn : Turn) (ends : Bool)
    : Type 0 where
  pub after : ServedValue
  pub serves : Serves snapshots turn.request (served_of snapshots before earlier) (frames_of turn.responses)
      turn.numbers after ends
  pub answers : (turn.is_answer ≡ true) ↔ (IsAck (served_of snapshots before earlier) turn.request
      ⊎ IsNack (served_of snapshots before earlier) turn.request)

-- the turns of a stream after earlier ones; the last of them may end the stream
abbrev pub AreTurns : List (List ResourceValue) → List Turn → List Turn → List Turn → Bool → Type 0
AreTurns snapshots before earlier [] ends = ends ≡ false
AreTurns snapshots before earlier (turn ∷ turns) ends =
    (IsTurn snapshots before earlier turn true × (turns ≡ []) × (ends ≡ true))
    ⊎ (IsTurn snapshots before earlier turn false × AreTurns snapshots before (earlier ++ turn ∷ []) turns ends)

-- the state of a stream after its turns: it goes on, or it is broken. A frame, a message that is not a request, or a
-- turn breaks it
pub data Stands (others : List (List ℕ)) (tail : Tail) (ends : Bool) (dropped : List ℕ) (is_broken : Bool) : Type 0
  where
    goes_on : (rest : List ℕ) → tail ≡ unfinished rest → others ≡ [] → ends ≡ false → dropped ≡ []
        → is_broken ≡ false → Stands others tail ends dropped is_broken
    broken_frame : (fault : FrameFault) → tail ≡ broken fault → others ≡ [] → ends ≡ false → is_broken ≡ true
        → Stands others tail ends dropped is_broken
    no_request : (message : List ℕ) (more : List (List ℕ)) (e : Refusal) → others ≡ message ∷ more
        → RequestFault message e → ends ≡ false → is_broken ≡ true → Stands others tail ends dropped is_broken
    ended : ends ≡ true → is_broken ≡ true → Stands others tail ends dropped is_broken

-- the turns of a stream's bytes, after those of the streams before it; bytes that follow a break of the stream are
-- dropped
pub record IsStream (snapshots : List (List ResourceValue)) (before : List Turn) (bytes : List ℕ) (turns : List Turn)
    (is_broken : Bool) : Type 0 where
  pub taken : List ℕ
  pub dropped : List ℕ
  pub messages : List (List ℕ)
  pub others : List (List ℕ)
  pub tail : Tail
  pub ends : Bool
  pub whole : bytes ≡ taken ++ dropped
  pub cut : Cut taken most_bytes (messages ++ others) tail
  pub read : AllZip (λ message turn. IsRequest message turn.request) messages turns
  pub served : AreTurns snapshots before [] turns ends
  pub stands : Stands others tail ends dropped is_broken

-- the turns of all streams, and whether the last stream is broken
abbrev pub AreStreams : List (List ResourceValue) → List Turn → List (List ℕ) → List Turn → Bool → Type 0
AreStreams snapshots before [] turns is_broken = ⊥
AreStreams snapshots before (bytes ∷ []) turns is_broken = IsStream snapshots before bytes turns is_broken
AreStreams snapshots before (bytes ∷ next ∷ streams) turns is_broken =
    (first more : List Turn) × (was_broken : Bool) × IsStream snapshots before bytes first was_broken
    × (turns ≡ first ++ more) × AreStreams snapshots (before ++ first) (next ∷ streams) more is_broken

-- a control plane of these snapshots sent these bytes for the bytes of its streams, and recorded these numbers. The
-- Boolean says whether the last stream is broken
abbrev pub Serve : List (List ResourceValue) → List (List ℕ) → List ℕ → Bool → List ℕ → Type 0
Serve snapshots streams replies is_broken numbers = (turns : List Turn)
    × AreStreams snapshots [] streams turns is_broken
    × (replies ≡ frames_of (responses_in turns)) × (numbers ≡ numbers_in turns)

-- ---- calls

-- a call on a control plane: it feeds bytes, with the bytes sent and the numbers recorded; or the stream is lost
pub data Call : Type 0 where
  fed : (bytes replies numbers : List ℕ) → Call
  lost : Call

-- the effect of a call
abbrev pub Steps : ControlValue → Call → ControlValue → Type 0
Steps old (fed bytes replies numbers) new = (is_broken : Bool) × ServesBytes old bytes replies is_broken numbers new
Steps old lost new = new ≡ stream_lost old

-- calls in order
abbrev pub Calls : ControlValue → List Call → ControlValue → Type 0
Calls old [] new = new ≡ old
Calls old (call ∷ calls) new = (next : ControlValue) × Steps old call next × Calls next calls new

-- the bytes of each stream, if the first stream has these bytes so far
abbrev pub streams_of : List ℕ → List Call → List (List ℕ)
streams_of so_far [] = so_far ∷ []
streams_of so_far (fed bytes replies numbers ∷ calls) = streams_of (so_far ++ bytes) calls
streams_of so_far (lost ∷ calls) = so_far ∷ streams_of [] calls

-- all bytes that the calls sent
abbrev pub replies_of : List Call → List ℕ
replies_of [] = []
replies_of (fed bytes replies numbers ∷ calls) = replies ++ replies_of calls
replies_of (lost ∷ calls) = replies_of calls

-- all numbers that the calls recorded
abbrev pub numbers_of : List Call → List ℕ
numbers_of [] = []
numbers_of (fed bytes replies numbers ∷ calls) = numbers ++ numbers_of calls
numbers_of (lost ∷ calls) = numbers_of calls
