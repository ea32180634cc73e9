-- Why bytes are no CheckRequest that is read, and which part of it has the fault.
use Rattle.std.specs.Prelude.{◌≡◌, ◌≢◌, ◌⊎◌, ℕ, ◌≤◌, ◌^◌, false, Some, None, List, [], ◌∷◌, codes, slice_get}
use Rattle.attributes.specs.Address.{IsIpText}
use Rattle.attributes.specs.Limits.{LimitsValue}
use Rattle.attributes.specs.declared.address.Ip.{Ip}
use Rattle.http_front.specs.Parts.{PartsFault as RequestFault}
use Rattle.http_front.specs.declared.fault.HeadFault.{HeadFault}
use Rattle.proto_wire.specs.Fields.{Wire}
use Rattle.proto_wire.specs.Maps.{Entry, AreEntries, SomeEntryFault, text}
use Rattle.proto_wire.specs.Merge.{Merges}
use Rattle.proto_wire.specs.Messages.{PartsFault}
use Rattle.proto_wire.specs.Oneof.{last_number, member_run}
use Rattle.proto_wire.specs.Values.{StringFault, Utf8Fault, bytes_at, payloads, uint32_at}
use Rattle.proto_wire.specs.declared.refusal.Refusal.{Refusal}
use Rattle.proto_wire.specs.declared.refusal.Refusal.TheVariants.{Memory, Missing, OutOfRange}
use Rattle.check_request.specs.Check.{CheckValue, IsCheck, is_scheme, protocol_named, value_at}
use Rattle.check_request.specs.Lines.{last_payload}
use Rattle.check_request.specs.Numbers.{Inner, address_field, address_keys, check_field, context_field, http_field, map_field, number_of, peer_field, port_keys, request_field, session_field, socket_field}
use Rattle.check_request.specs.declared.part.End.{End}
use Rattle.check_request.specs.declared.part.CheckPart.{CheckPart}
use Rattle.check_request.specs.declared.part.CheckPart.TheVariants.{Whole, Attributes, Peer, Address, Host, Port, Principal, Request, Http, Protocol, Scheme, Headers, HeaderMap, Header, Session, ServerName, Extensions, Filters}
use Rattle.check_request.specs.declared.part.PrincipalName.{PrincipalName}
use Rattle.check_request.specs.declared.fault.CheckFault.{CheckFault}

-- out of memory, or this fault of this part
abbrev pub FaultOr : (CheckPart → Refusal → Type 0) → CheckFault → Type 0
FaultOr F fault = (fault.refusal ≡ Memory) ⊎ F fault.part fault.refusal

-- the text of an address is not UTF-8, or spells none
abbrev pub HostFault : List ℕ → Refusal → Type 0
HostFault host e = Utf8Fault host e ⊎ (((ip : Ip) → ¬ (IsIpText host ip)) × (e ≡ OutOfRange))

-- a SocketAddress has no port by number, or one that has more than 16 bits
abbrev pub PortFault : List Wire → Refusal → Type 0
PortFault fs e = ((last_number port_keys fs ≢ Some socket_field.port_value) × (e ≡ Missing))
    ⊎ ((2 ^ 16 ≤ uint32_at socket_field.port_value fs) × (e ≡ OutOfRange))

-- a fault of a SocketAddress
pub data SocketFault (end : End) (fs : List Wire) (part : CheckPart) (e : Refusal) : Type 0 where
  bad_host : part ≡ Host end → HostFault (bytes_at socket_field.address fs) e → SocketFault end fs part e
  bad_port : part ≡ Port end → PortFault fs e → SocketFault end fs part e

-- the payloads of a Peer's SocketAddress
abbrev pub socket_parts : List Wire → List (List ℕ)
socket_parts address = payloads address_field.socket_address (member_run address_keys address)

-- a fault of a Peer's address
pub data EndFault (end : End) (peer : List Wire) (part : CheckPart) (e : Refusal) : Type 0 where
  bad_address : part ≡ Address end → PartsFault (payloads peer_field.address peer) e
      → EndFault end peer part e
  bad_socket : (address : List Wire) → Inner peer_field.address peer address → part ≡ Address end
      → PartsFault (socket_parts address) e → EndFault end peer part e
  in_socket : (address fs : List Wire) → Inner peer_field.address peer address
      → socket_parts address ≢ [] → Merges (socket_parts address) fs → SocketFault end fs part e
      → EndFault end peer part e

-- a fault of the field lines
pub data LinesFault (http : List Wire) (part : CheckPart) (e : Refusal) : Type 0 where
  bad_header_map : part ≡ HeaderMap → PartsFault (payloads http_field.header_map http) e
      → LinesFault http part e
  bad_header : (fs : List Wire) (i : ℕ) (header : List ℕ) → Inner http_field.header_map http fs
      → slice_get (payloads map_field.headers fs) i ≡ Some header → part ≡ Header i
      → PartsFault (header ∷ []) e → LinesFault http part e
  bad_headers : payloads http_field.header_map http ≡ [] → part ≡ Headers
      → SomeEntryFault text (payloads http_field.headers http) e → LinesFault http part e

-- a fault of an HttpRequest
pub data HttpFault (http : List Wire) (part : CheckPart) (e : Refusal) : Type 0 where
  bad_protocol : part ≡ Protocol → protocol_named (bytes_at http_field.protocol http) ≡ None
      → e ≡ OutOfRange → HttpFault http part e
  bad_scheme_text : part ≡ Scheme → StringFault http_field.scheme http e → HttpFault http part e
  bad_scheme : part ≡ Scheme → is_scheme (bytes_at http_field.scheme http) ≡ false → e ≡ OutOfRange
      → HttpFault http part e
  bad_lines : LinesFault http part e → HttpFault http part e

-- a fault of the key `filters` of `context_extensions`, or of that map
pub data FiltersFault (parts : List (List ℕ)) (part : CheckPart) (e : Refusal) : Type 0 where
  bad_extensions : part ≡ Extensions → SomeEntryFault text parts e → FiltersFault parts part e
  bad_filters : (es : List (Entry text)) (value : List (List ℕ)) → AreEntries text parts es
      → value_at (codes "filters") es ≡ Some value → part ≡ Filters → Utf8Fault (last_payload value) e
      → FiltersFault parts part e

-- a fault of an AttributeContext
pub data ContextFault (context : List Wire) (part : CheckPart) (e : Refusal) : Type 0 where
  bad_request : part ≡ Request → PartsFault (payloads context_field.request context) e
      → ContextFault context part e
  bad_http : (request : List Wire) → Inner context_field.request context request → part ≡ Http
      → PartsFault (payloads request_field.http request) e → ContextFault context part e
  in_http : (request http : List Wire) → Inner context_field.request context request
      → Inner request_field.http request http → HttpFault http part e → ContextFault context part e
  bad_peer : (end : End) → part ≡ Peer end → PartsFault (payloads (number_of end) context) e
      → ContextFault context part e
  in_end : (end : End) (peer : List Wire) → Inner (number_of end) context peer → EndFault end peer part e
      → ContextFault context part e
  bad_principal : (peer : List Wire) → Inner (number_of End.Source) context peer → part ≡ Principal
      → StringFault peer_field.principal peer e → ContextFault context part e
  bad_session : part ≡ Session → PartsFault (payloads context_field.tls_session context) e
      → ContextFault context part e
  bad_server_name : (session : List Wire) → Inner context_field.tls_session context session
      → part ≡ ServerName → StringFault session_field.sni session e → ContextFault context part e
  in_extensions : FiltersFault (payloads context_field.context_extensions context) part e
      → ContextFault context part e

-- the bytes have this fault as a CheckRequest
pub data HasFault (bytes : List ℕ) (part : CheckPart) (e : Refusal) : Type 0 where
  not_whole : part ≡ Whole → PartsFault (bytes ∷ []) e → HasFault bytes part e
  bad_attributes : (check : List Wire) → Merges (bytes ∷ []) check → part ≡ Attributes
      → PartsFault (payloads check_field.attributes check) e → HasFault bytes part e
  in_context : (check context : List Wire) → Merges (bytes ∷ []) check
      → Inner check_field.attributes check context → ContextFault context part e → HasFault bytes part e

-- the bytes mean no request: they have a fault, or the parts that they ask have one
pub data CheckFails (name : PrincipalName) (limits : LimitsValue) (bytes : List ℕ) : Type 0 where
  unread : (part : CheckPart) (e : Refusal) → HasFault bytes part e → CheckFails name limits bytes
  refused : (c : CheckValue) (fault : HeadFault) → IsCheck name bytes c
      → RequestFault c.parts limits c.facts fault → CheckFails name limits bytes
