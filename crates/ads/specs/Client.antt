-- A client of an update stream, and the effect of each call on it: xDS REST and gRPC protocol, "ACK and NACK". Frames
-- are those of gRPC over HTTP/2, "Length-Prefixed-Message". That bytes arrive by calls, and the greatest length of a
-- message, are this project's own.
use Rattle.std.specs.Prelude.{◌≡◌, ℕ, ◌<◌, ◌≤◌, ◌^◌, Bool, true, false, Option, Some, None, ◌⊎◌, List, [], ◌∷◌, ◌++◌, length, is_none, bytes_eq, if◌then◌else◌}
use Rattle.proto_wire.specs.declared.refusal.Refusal.{Refusal}
use Rattle.attributes.specs.Limits.{LimitsValue}
use Rattle.proto_wire.specs.Merge.{SomeOf}
use Rattle.xds_wire.specs.Frames.{Tail, unfinished, broken, Cut, frame_of}
use Rattle.xds_wire.specs.declared.fault.FrameFault.{FrameFault}
use Rattle.xds_wire.specs.Discovery.{RequestMessage, ResponseMessage, IsResponse, ResponseFault}
use Rattle.xds_wire.specs.Written.{RequestWritten}
use Rattle.ads.specs.Config.{ConfigValue, FilterValue}
use Rattle.cel_tree.specs.Checked.{CelChecked}
use Rattle.rbac_policy.specs.Filter.{Filter}
use Rattle.rbac_policy.specs.Admission.{Admits}
use Rattle.ads.specs.Answer.{Accepted, AdmittedValue, Answers, nothing_accepted}
use Rattle.ads.specs.declared.ended.Ended.{Ended}
use Rattle.ads.specs.declared.ended.Ended.TheVariants as ended

-- the greatest length of a message in bytes
abbrev pub most_bytes : ℕ
most_bytes = 1048576

-- a client: its configuration, the unfinished bytes of its stream if one is up, and its accepted state
pub record ClientValue : Type 0 where
  pub config : ConfigValue
  pub stream : Option (List ℕ)
  pub accepted : Accepted

-- the bytes begin with the frame of the request, whose length fits in four bytes; then `more` follows
abbrev pub IsFrameThen : RequestMessage → List ℕ → List ℕ → Type 0
IsFrameThen request bytes more =
    (message : List ℕ) × RequestWritten request message × (length message < 2 ^ 32)
    × (bytes ≡ frame_of message ++ more)

-- the version that an answer accepts: none if the answer has an error
abbrev pub accepted_by : RequestMessage → List (List ℕ)
accepted_by reply = if is_none reply.error_detail then reply.version_info ∷ [] else []

-- the message is not a response: it gets no answer, changes nothing and ends the stream
abbrev pub EndsStream : List ℕ → Accepted → List ℕ → List (List ℕ) → Accepted → Bool → Type 0
EndsStream message old replies versions new ends = ((e : Refusal) × ResponseFault message e)
    × (replies ≡ []) × (versions ≡ []) × (new ≡ old) × (ends ≡ true)

-- the messages of a stream are answered in order. This fixes the answers, the accepted versions, the accepted state
-- after them, and whether a message ended the stream
abbrev pub AreAnswered : ConfigValue → Accepted → List (List ℕ) → List ℕ → List (List ℕ) → Accepted → Bool → Type 0
AreAnswered c old [] replies versions new ends =
    (replies ≡ []) × (versions ≡ []) × (new ≡ old) × (ends ≡ false)
AreAnswered c old (message ∷ messages) replies versions new ends =
    EndsStream message old replies versions new ends
    ⊎ ((response : ResponseMessage) × (reply : RequestMessage) × (next : Accepted) × (more : List ℕ)
    × (later : List (List ℕ)) × IsResponse message response × Answers c response old reply next
    × IsFrameThen reply replies more × (versions ≡ accepted_by reply ++ later)
    × AreAnswered c next messages more later new ends)

-- the stream after its messages: the unfinished bytes after the last frame; none if a message ended it or its frames
-- are broken
abbrev pub stream_after : Bool → Tail → Option (List ℕ)
stream_after false (unfinished rest) = Some rest
stream_after false (broken fault) = None
stream_after true tail = None

-- why the bytes after whole frames begin with no frame; none if they are unfinished
abbrev pub fault_in : Tail → Option FrameFault
fault_in (unfinished rest) = None
fault_in (broken fault) = Some fault

-- why a stream ends: because of a message, or since no frame follows the messages; none if it goes on
abbrev pub ended_by : Option Ended → Option FrameFault → Option Ended
ended_by (Some reason) fault = Some reason
ended_by None (Some fault) = Some (ended.BadFrame fault)
ended_by None None = None

-- further bytes arrive after the unfinished ones: the messages that they complete are answered
pub record FeedsStream (old : ClientValue) (rest bytes replies : List ℕ) (versions : List (List ℕ))
    (new : ClientValue) : Type 0 where
  pub messages : List (List ℕ)
  pub tail : Tail
  pub ends : Bool
  pub cut : Cut (rest ++ bytes) most_bytes messages tail
  pub answered : AreAnswered old.config old.accepted messages replies versions new.accepted ends
  pub stream : new.stream ≡ stream_after ends tail
  pub config : new.config ≡ old.config

-- bytes arrive: if a stream is up, its messages are answered; if none is up, nothing is done
abbrev pub FeedsBy : Option (List ℕ) → ClientValue → List ℕ → List ℕ → Bool → List (List ℕ) → ClientValue → Type 0
FeedsBy None old bytes replies is_broken versions new =
    (replies ≡ []) × (is_broken ≡ true) × (versions ≡ []) × (new ≡ old)
FeedsBy (Some rest) old bytes replies is_broken versions new =
    FeedsStream old rest bytes replies versions new × (is_broken ≡ is_none new.stream)

-- bytes arrive: the answers, whether no stream is up afterwards, the accepted versions, and the client after them
abbrev pub Feeds : ClientValue → List ℕ → List ℕ → Bool → List (List ℕ) → ClientValue → Type 0
Feeds old bytes replies is_broken versions new = FeedsBy old.stream old bytes replies is_broken versions new

-- the bytes complete at most one message of the stream, if one is up
abbrev pub CompletesOne : ClientValue → List ℕ → Type 0
CompletesOne c bytes = (rest : List ℕ) (messages : List (List ℕ)) (tail : Tail) → c.stream ≡ Some rest
    → Cut (rest ++ bytes) most_bytes messages tail → length messages ≤ 1

-- the client without a stream
abbrev pub stream_down : ClientValue → ClientValue
stream_down c = record { config = c.config; stream = None; accepted = c.accepted }

-- the client with a new stream that has received no bytes
abbrev pub stream_up : ClientValue → ClientValue
stream_up c = record { config = c.config; stream = Some []; accepted = c.accepted }

-- a client that has accepted nothing and has no stream
abbrev pub new_client : ConfigValue → ClientValue
new_client c = record { config = c; stream = None; accepted = nothing_accepted c }

-- the policies of the filter of this name; none if no filter has the name
abbrev pub policies_at : List ℕ → List FilterValue → List (Option AdmittedValue) → Option AdmittedValue
policies_at name [] policies = None
policies_at name (f ∷ fs) [] = None
policies_at name (f ∷ fs) (p ∷ ps) = if bytes_eq name f.name then p else policies_at name fs ps

-- the policies that a client has for the filter of this name
abbrev pub policies_of : ClientValue → List ℕ → Option AdmittedValue
policies_of c name = policies_at name c.config.filters c.accepted.policies

-- the filter's policies, if it has any, were admitted for these limits and its budget
abbrev pub WasAdmitted : LimitsValue → FilterValue → Option AdmittedValue → Type 0
WasAdmitted limits f None = Unit {0}
WasAdmitted limits f (Some a) =
    (a.limits ≡ limits) × (bytes : List ℕ) × (policies : Filter CelChecked)
    × Admits bytes limits f.budget policies a.filter

-- the policies of the filter of this name were admitted for the configuration's limits and the filter's budget
abbrev pub WasAdmittedAs : ConfigValue → List ℕ → AdmittedValue → Type 0
WasAdmittedAs c name a = SomeOf (λ f. (f.name ≡ name) × WasAdmitted c.limits f (Some a)) c.filters
