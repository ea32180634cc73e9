-- The control plane's end of the update stream, and the effect of each call on it: xDS REST and gRPC protocol, "ACK and
-- NACK". This project's own: it serves snapshots numbered from 1, each after the answer to the one before. Versions and
-- nonces are numbers in decimal.
use Rattle.std.specs.Prelude.{◌≡◌, ◌≢◌, ◌⊎◌, ℕ, ◌+◌, ◌-◌, ◌^◌, ◌<◌, ◌≤◌, Bool, true, false, Option, Some, None, List, [], ◌∷◌, ◌++◌, length, filter, decimal, bytes_eq, is_none, IsSomeAnd}
use Rattle.std.specs.List.{AllZip, list_any}
use Rattle.proto_wire.specs.declared.refusal.Refusal.{Refusal}
use Rattle.xds_wire.specs.Frames.{Tail, Cut, frame_of}
use Rattle.xds_wire.specs.Discovery.{AnyMessage, ExtensionMessage, RequestMessage, ResponseMessage, IsRequest, RequestFault}
use Rattle.xds_wire.specs.Written.{ExtensionWritten, ResponseWritten}
use Rattle.ads.specs.Answer.{extension_type, filter_type}
use Rattle.ads.specs.Client.{most_bytes, stream_after}

-- a resource: its name, and the bytes of its filter's message
pub record ResourceValue : Type 0 where
  pub name : List ℕ
  pub filter : List ℕ

-- the snapshot has this number; the first one has number 1
abbrev pub IsSnapshot : List (List ResourceValue) → ℕ → List ResourceValue → Type 0
IsSnapshot snapshots number snapshot = (before after : List (List ResourceValue))
    × (snapshots ≡ before ++ snapshot ∷ after) × (number ≡ length before + 1)

-- the resources with one of these names, in the snapshot's order
abbrev pub asked : List (List ℕ) → List ResourceValue → List ResourceValue
asked names resources = filter (λ r. list_any (λ name. bytes_eq name r.name) names) resources

-- the extension that a resource is sent as
abbrev pub extension_of : ResourceValue → ExtensionMessage
extension_of r = record {
  name = r.name;
  typed_config = Some (record { type_url = filter_type; value = r.filter });
}

-- the resource, as a resource of a response
abbrev pub IsSentAs : ResourceValue → AnyMessage → Type 0
IsSentAs r any = (any.type_url ≡ extension_type) × ExtensionWritten (extension_of r) any.value

-- the response that sends the snapshot of this number for these names; its nonce is the number of responses sent so
-- far, including it
pub record IsResponseOf (snapshot : List ResourceValue) (names : List (List ℕ)) (number count : ℕ)
    (response : ResponseMessage) : Type 0 where
  pub version : response.version_info ≡ decimal number
  pub resources : AllZip IsSentAs (asked names snapshot) response.resources
  pub type_url : response.type_url ≡ extension_type
  pub nonce : response.nonce ≡ decimal count

-- the serving state: the number of the current snapshot, and how many responses were sent. Also the number of the last
-- response on this stream, and of the last acknowledged snapshot
pub record ServedValue : Type 0 where
  pub current : ℕ
  pub sent : ℕ
  pub last : Option ℕ
  pub acknowledged : Option ℕ

-- the request has the right type and no nonce, and nothing was sent on this stream yet
pub record IsFirst (old : ServedValue) (request : RequestMessage) : Type 0 where
  pub type_url : request.type_url ≡ extension_type
  pub nonce : request.response_nonce ≡ []
  pub last : old.last ≡ None

-- the request has the right type and answers the last response on this stream
pub record IsReply (old : ServedValue) (request : RequestMessage) : Type 0 where
  pub type_url : request.type_url ≡ extension_type
  pub nonce : IsSomeAnd old.last (λ n. request.response_nonce ≡ decimal n)

-- the request accepts the last response
pub record IsAck (old : ServedValue) (request : RequestMessage) : Type 0 where
  pub reply : IsReply old request
  pub error : request.error_detail ≡ None
  pub version : request.version_info ≡ decimal old.current

-- the request refuses the last response
pub record IsNack (old : ServedValue) (request : RequestMessage) : Type 0 where
  pub reply : IsReply old request
  pub error : request.error_detail ≢ None

-- the serving state after one more response
abbrev pub sent_one : ServedValue → ServedValue
sent_one s = record {
  current = s.current;
  sent = s.sent + 1;
  last = Some (s.sent + 1);
  acknowledged = s.acknowledged;
}

-- the current snapshot, if there is one, is sent for these names. The stream ends, and nothing is sent, if the response
-- is too long or 2^64 - 1 responses were sent already
pub data Sends (snapshots : List (List ResourceValue)) (names : List (List ℕ)) (old : ServedValue)
    (replies : List ℕ) (new : ServedValue) (ends : Bool) : Type 0 where
  none : ((snapshot : List ResourceValue) → IsSnapshot snapshots old.current snapshot → ⊥)
      → replies ≡ [] → new ≡ old → ends ≡ false → Sends snapshots names old replies new ends
  sent : (snapshot : List ResourceValue) (response : ResponseMessage) (message : List ℕ)
      → IsSnapshot snapshots old.current snapshot → old.sent < 2 ^ 64 - 1
      → IsResponseOf snapshot names old.current (old.sent + 1) response
      → ResponseWritten response message → length message ≤ most_bytes
      → replies ≡ frame_of message → new ≡ sent_one old → ends ≡ false
      → Sends snapshots names old replies new ends
  too_long : (snapshot : List ResourceValue) (response : ResponseMessage) (message : List ℕ)
      → IsSnapshot snapshots old.current snapshot → old.sent < 2 ^ 64 - 1
      → IsResponseOf snapshot names old.current (old.sent + 1) response
      → ResponseWritten response message → most_bytes < length message
      → replies ≡ [] → new ≡ old → ends ≡ true → Sends snapshots names old replies new ends
  too_many : (snapshot : List ResourceValue) → IsSnapshot snapshots old.current snapshot
      → 2 ^ 64 - 1 ≤ old.sent → replies ≡ [] → new ≡ old → ends ≡ true
      → Sends snapshots names old replies new ends

-- the serving state, with the next snapshot as the current one
abbrev pub advanced : ServedValue → ServedValue
advanced s = record {
  current = s.current + 1;
  sent = s.sent;
  last = s.last;
  acknowledged = s.acknowledged;
}

-- the next snapshot, if there is one, becomes the current one and is sent
pub data Advances (snapshots : List (List ResourceValue)) (names : List (List ℕ)) (old : ServedValue)
    (replies : List ℕ) (new : ServedValue) (ends : Bool) : Type 0 where
  at_last : length snapshots ≤ old.current → replies ≡ [] → new ≡ old → ends ≡ false
      → Advances snapshots names old replies new ends
  next : old.current < length snapshots → Sends snapshots names (advanced old) replies new ends
      → Advances snapshots names old replies new ends

-- the serving state, with the current snapshot acknowledged
abbrev pub recorded : ServedValue → ServedValue
recorded s = record {
  current = s.current;
  sent = s.sent;
  last = s.last;
  acknowledged = Some s.current;
}

-- a request is served: the bytes sent, the snapshot numbers recorded, the serving state after it, and whether it ends
-- the stream
pub data Serves (snapshots : List (List ResourceValue)) (request : RequestMessage) (old : ServedValue)
    (replies numbers : List ℕ) (new : ServedValue) (ends : Bool) : Type 0 where
  first : IsFirst old request → Sends snapshots request.resource_names old replies new ends → numbers ≡ []
      → Serves snapshots request old replies numbers new ends
  ack : IsAck old request → Advances snapshots request.resource_names (recorded old) replies new ends
      → numbers ≡ old.current ∷ [] → Serves snapshots request old replies numbers new ends
  nack : IsNack old request → Advances snapshots request.resource_names old replies new ends → numbers ≡ []
      → Serves snapshots request old replies numbers new ends
  ignored : (IsFirst old request → ⊥) → (IsAck old request → ⊥) → (IsNack old request → ⊥)
      → replies ≡ [] → new ≡ old → ends ≡ false → numbers ≡ []
      → Serves snapshots request old replies numbers new ends

-- the message is not a request: nothing is sent or recorded, and the stream ends
abbrev pub IsNoRequest : List ℕ → ServedValue → List ℕ → List ℕ → ServedValue → Bool → Type 0
IsNoRequest message old replies numbers new ends = ((e : Refusal) × RequestFault message e)
    × (replies ≡ []) × (numbers ≡ []) × (new ≡ old) × (ends ≡ true)

-- the messages of a stream are served in order. This fixes the bytes sent, the numbers recorded, the serving state
-- after them, and whether a message ended the stream
abbrev pub AreServed : List (List ResourceValue) → ServedValue → List (List ℕ) → List ℕ → List ℕ → ServedValue
    → Bool → Type 0
AreServed snapshots old [] replies numbers new ends =
    (replies ≡ []) × (numbers ≡ []) × (new ≡ old) × (ends ≡ false)
AreServed snapshots old (message ∷ messages) replies numbers new ends =
    IsNoRequest message old replies numbers new ends
    ⊎ ((request : RequestMessage) × IsRequest message request
    × Serves snapshots request old replies numbers new true × (ends ≡ true))
    ⊎ ((request : RequestMessage) × (first more now later : List ℕ) × (next : ServedValue)
    × IsRequest message request × Serves snapshots request old first now next false
    × (replies ≡ first ++ more) × (numbers ≡ now ++ later)
    × AreServed snapshots next messages more later new ends)

-- a control plane: its snapshots, the unfinished bytes of its stream unless the stream is broken, and its serving state
pub record ControlValue : Type 0 where
  pub snapshots : List (List ResourceValue)
  pub stream : Option (List ℕ)
  pub served : ServedValue

-- further bytes arrive after the unfinished ones: the messages that they complete are served
pub record ServesStream (old : ControlValue) (rest bytes replies numbers : List ℕ) (new : ControlValue) : Type 0
  where
    pub messages : List (List ℕ)
    pub tail : Tail
    pub ends : Bool
    pub cut : Cut (rest ++ bytes) most_bytes messages tail
    pub served : AreServed old.snapshots old.served messages replies numbers new.served ends
    pub stream : new.stream ≡ stream_after ends tail
    pub snapshots : new.snapshots ≡ old.snapshots

-- bytes arrive: on a stream its messages are served; if the stream is broken, nothing is done
abbrev pub ServesBy : Option (List ℕ) → ControlValue → List ℕ → List ℕ → Bool → List ℕ → ControlValue → Type 0
ServesBy None old bytes replies is_broken numbers new =
    (replies ≡ []) × (is_broken ≡ true) × (numbers ≡ []) × (new ≡ old)
ServesBy (Some rest) old bytes replies is_broken numbers new =
    ServesStream old rest bytes replies numbers new × (is_broken ≡ is_none new.stream)

-- bytes arrive: the bytes sent, whether the stream is broken, the numbers recorded, and the control plane after them
abbrev pub ServesBytes : ControlValue → List ℕ → List ℕ → Bool → List ℕ → ControlValue → Type 0
ServesBytes old bytes replies is_broken numbers new =
    ServesBy old.stream old bytes replies is_broken numbers new

-- the serving state of a control plane that has served no request
abbrev pub nothing_served : ServedValue
nothing_served = record { current = 1; sent = 0; last = None; acknowledged = None }

-- a control plane that has received no request
abbrev pub new_control : List (List ResourceValue) → ControlValue
new_control snapshots = record { snapshots = snapshots; stream = Some []; served = nothing_served }

-- the stream ends: the next one begins, with no bytes received and no response sent
abbrev pub stream_lost : ControlValue → ControlValue
stream_lost c = record {
  snapshots = c.snapshots;
  stream = Some [];
  served = record {
    current = c.served.current;
    sent = c.served.sent;
    last = None;
    acknowledged = c.served.acknowledged;
  };
}
