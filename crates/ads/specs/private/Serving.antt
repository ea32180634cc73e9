-- The parts of a response, and the serving of one request (this project's own).
use Rattle.std.specs.Prelude.{◌≡◌, ◌==◌, ℕ, Bool, true, false, Option, Some, None, List, [], ◌∷◌, ◌++◌, if◌then◌else◌}
use Rattle.proto_wire.specs.declared.refusal.Refusal.{Refusal}
use Rattle.xds_wire.specs.Discovery.{AnyMessage, RequestMessage, IsRequest, RequestFault}
use Rattle.xds_wire.specs.Written.{ResponseWritten}
use Rattle.ads.specs.Answer.{extension_type}
use Rattle.ads.specs.Control.{ResourceValue, ServedValue, IsFirst, IsAck, IsNack, Serves}
use Rattle.ads.specs.Exchanges.{IsExchange}
use Rattle.ads.specs.Views.{served_view}
use Rattle.ads.specs.declared.ended.Ended.{Ended}
use Rattle.ads.specs.declared.ended.Ended.TheVariants as ended
use Rattle.ads.specs.declared.exchange.Exchange.{Exchange}
use Rattle.ads.specs.declared.exchange.Sent.{Sent}
use Rattle.ads.specs.declared.serving.Kind.{Kind}
use Rattle.ads.specs.declared.serving.Serving.{Serving}

-- the resource with these bytes
abbrev pub any_of : List ℕ → AnyMessage
any_of bytes = record { type_url = extension_type; value = bytes }

-- the bytes are the message of a response with this version, this nonce and these resources
abbrev pub ResponseIsOf : List ℕ → List ℕ → List AnyMessage → List ℕ → Type 0
ResponseIsOf version nonce resources bytes = ResponseWritten (record {
  version_info = version;
  resources = resources;
  type_url = extension_type;
  nonce = nonce;
}) bytes

-- the kind of a request; a request of no other kind is ignored
abbrev pub IsKind : ServedValue → RequestMessage → Kind → Type 0
IsKind old request Kind.First = IsFirst old request
IsKind old request Kind.Ack = IsAck old request
IsKind old request Kind.Nack = IsNack old request
IsKind old request Kind.Ignored =
    (IsFirst old request → ⊥) × (IsAck old request → ⊥) × (IsNack old request → ⊥)

-- replies are appended
abbrev pub AddsReplies : (List ℕ → Type 0) → List ℕ → List ℕ → Type 0
AddsReplies Are before after = (added : List ℕ) × Are added × (after ≡ before ++ added)

-- a request is served, and its replies are appended
abbrev pub IsServed : List (List ResourceValue) → RequestMessage → ServedValue → List ℕ → List ℕ → ServedValue
    → Bool → Type 0
IsServed snapshots request old before after new ends = (numbers : List ℕ)
    × AddsReplies (λ added. Serves snapshots request old added numbers new ends) before after

-- the response that was sent last, if more were sent than before
abbrev pub sent_since : ℕ → ServedValue → Option Sent
sent_since before s = if s.sent == before then None else Some (record { snapshot = s.current; count = s.sent })

-- a request is served, and its replies and its exchange are appended
abbrev pub IsExchanged : List (List ResourceValue) → RequestMessage → Serving → Serving → Bool → Type 0
IsExchanged snapshots request before after ends = (replies numbers : List ℕ) × (x : Exchange)
    × Serves snapshots request (served_view before.served) replies numbers (served_view after.served) ends
    × IsExchange request replies x × (after.replies.items ≡ before.replies.items ++ replies)
    × (after.exchanges.items ≡ before.exchanges.items ++ x ∷ [])

-- the same, with the reason why it ends the stream
abbrev pub IsTaken : List (List ResourceValue) → RequestMessage → Serving → Serving → Option Ended → Type 0
IsTaken snapshots request before after None = IsExchanged snapshots request before after false
IsTaken snapshots request before after (Some reason) =
    IsExchanged snapshots request before after true × (reason ≡ ended.Unsendable)

-- a message is served if it is a request; if it is not, nothing is appended. The reason says why it ends the stream
pub data MessageIsServed (snapshots : List (List ResourceValue)) (message : List ℕ) (before after : Serving)
    (reason : Option Ended) : Type 0 where
  a_request : (request : RequestMessage) → IsRequest message request → IsTaken snapshots request before after reason
      → MessageIsServed snapshots message before after reason
  no_request : (e : Refusal) → RequestFault message e → reason ≡ Some (ended.BadMessage e) → after ≡ before
      → MessageIsServed snapshots message before after reason
