-- What a control plane received and what it sent for it, for a log, and why its stream ends (this project's own).
use Rattle.std.specs.Prelude.{◌≡◌, ◌≢◌, ◌⊎◌, ◌==◌, ℕ, Bool, true, false, Option, Some, None, List, [], ◌∷◌, ◌++◌, decimal, IsSomeAnd, if◌then◌else◌}
use Rattle.std.specs.String.{string_bytes}
use Rattle.proto_wire.specs.declared.refusal.Refusal.{Refusal}
use Rattle.xds_wire.specs.Discovery.{IsRequest, RequestFault, RequestMessage, ResponseMessage}
use Rattle.xds_wire.specs.Frames.{Cut, Tail, frame_of}
use Rattle.xds_wire.specs.Written.{ResponseWritten}
use Rattle.ads.specs.Client.{ended_by, fault_in, most_bytes}
use Rattle.ads.specs.Control.{ControlValue, ResourceValue, ServedValue, Serves}
use Rattle.ads.specs.declared.ended.Ended.{Ended}
use Rattle.ads.specs.declared.ended.Ended.TheVariants as ended
use Rattle.ads.specs.declared.exchange.Exchange.{Exchange}
use Rattle.ads.specs.declared.exchange.Sent.{Sent}
use Rattle.ads.specs.declared.exchange.RequestMeaning.{RequestMeaning}
use Rattle.ads.specs.declared.exchange.RequestMeaning.TheVariants as words

-- what the request says: it asks for resources, accepts a response, or refuses one with this text
abbrev pub Says : RequestMessage → RequestMeaning → Type 0
Says request words.Asks = (request.error_detail ≡ None) × (request.response_nonce ≡ [])
Says request words.Accepts = (request.error_detail ≡ None) × (request.response_nonce ≢ [])
Says request (words.Refuses text) = IsSomeAnd request.error_detail (λ status. string_bytes text ≡ status.message)

-- the bytes are the frame of a response with this version and this nonce, or there are none
abbrev pub IsSentFor : List ℕ → Option Sent → Type 0
IsSentFor replies None = replies ≡ []
IsSentFor replies (Some s) = (response : ResponseMessage) × (message : List ℕ) × ResponseWritten response message
    × (replies ≡ frame_of message) × (response.version_info ≡ decimal s.snapshot) × (response.nonce ≡ decimal s.count)

-- a request and the bytes that were sent for it, as they are reported
pub record IsExchange (request : RequestMessage) (replies : List ℕ) (x : Exchange) : Type 0 where
  pub version : string_bytes x.version ≡ request.version_info
  pub nonce : string_bytes x.nonce ≡ request.response_nonce
  pub says : Says request x.meaning
  pub sent : IsSentFor replies x.sent

-- the message is not a request, because of this fault: nothing is sent or recorded, and the stream ends
abbrev pub EndsServing : List ℕ → ServedValue → List Exchange → List ℕ → List ℕ → ServedValue → Option Ended → Type 0
EndsServing message old exchanges replies numbers new reason =
    ((e : Refusal) × RequestFault message e × (reason ≡ Some (ended.BadMessage e)))
    × (exchanges ≡ []) × (replies ≡ []) × (numbers ≡ []) × (new ≡ old)

-- the messages of a stream are served in order, and these are its exchanges: one for each request, in the same order. If
-- a message ended the stream, this is the reason: it is not a request, or its response cannot be sent
abbrev pub AreExchanged : List (List ResourceValue) → ServedValue → List (List ℕ) → List Exchange → List ℕ → List ℕ
    → ServedValue → Option Ended → Type 0
AreExchanged snapshots old [] exchanges replies numbers new reason =
    (exchanges ≡ []) × (replies ≡ []) × (numbers ≡ []) × (new ≡ old) × (reason ≡ None)
AreExchanged snapshots old (message ∷ messages) exchanges replies numbers new reason =
    EndsServing message old exchanges replies numbers new reason
    ⊎ ((request : RequestMessage) × (x : Exchange) × IsRequest message request
    × Serves snapshots request old replies numbers new true × IsExchange request replies x × (exchanges ≡ x ∷ [])
    × (reason ≡ Some ended.Unsendable))
    ⊎ ((request : RequestMessage) × (x : Exchange) × (others : List Exchange) × (first more now later : List ℕ)
    × (next : ServedValue) × IsRequest message request × Serves snapshots request old first now next false
    × IsExchange request first x × (exchanges ≡ x ∷ others) × (replies ≡ first ++ more) × (numbers ≡ now ++ later)
    × AreExchanged snapshots next messages others more later new reason)

-- the bytes of a stream with unfinished bytes complete these requests, and may end the stream
pub record ReportsExchanges (old : ControlValue) (rest bytes replies : List ℕ) (exchanges : List Exchange)
    (ends : Option Ended) (new : ControlValue) : Type 0 where
  pub messages : List (List ℕ)
  pub tail : Tail
  pub numbers : List ℕ
  pub reason : Option Ended
  pub cut : Cut (rest ++ bytes) most_bytes messages tail
  pub exchanged : AreExchanged old.snapshots old.served messages exchanges replies numbers new.served reason
  pub reported : ends ≡ ended_by reason (fault_in tail)

-- bytes arrive: the requests that they complete with what was sent for them, and why the stream ends. There are none if
-- no stream is up
abbrev pub ReportsExchangesBy : Option (List ℕ) → ControlValue → List ℕ → List ℕ → List Exchange → Option Ended
    → ControlValue → Type 0
ReportsExchangesBy None old bytes replies exchanges ends new = (exchanges ≡ []) × (ends ≡ Some ended.NotUp)
ReportsExchangesBy (Some rest) old bytes replies exchanges ends new =
    ReportsExchanges old rest bytes replies exchanges ends new
