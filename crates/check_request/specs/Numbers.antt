-- The numbers of the fields that are read: Envoy v3 `service/auth/v3/external_auth.proto` (CheckRequest),
-- `service/auth/v3/attribute_context.proto` (AttributeContext, Peer, Request, HttpRequest, TLSSession),
-- `config/core/v3/address.proto` (Address, SocketAddress), `config/core/v3/base.proto` (HeaderMap, HeaderValue).
use Rattle.std.specs.Prelude.{ℕ, List, [], ◌∷◌}
use Rattle.proto_wire.specs.Fields.{Wire}
use Rattle.proto_wire.specs.Keys.{len_key, varint_key}
use Rattle.proto_wire.specs.Merge.{Merges}
use Rattle.proto_wire.specs.Values.{payloads}
use Rattle.proto_wire.specs.declared.key.Key.{Key}
use Rattle.check_request.specs.declared.part.End.{End}

-- CheckRequest
abbrev pub check_field : record { attributes : ℕ }
check_field = record { attributes = 1 }

-- AttributeContext
abbrev pub context_field : record { source : ℕ; destination : ℕ; request : ℕ; context_extensions : ℕ; tls_session : ℕ }
context_field = record { source = 1; destination = 2; request = 4; context_extensions = 10; tls_session = 12 }

-- AttributeContext.Peer
abbrev pub peer_field : record { address : ℕ; principal : ℕ }
peer_field = record { address = 1; principal = 4 }

-- AttributeContext.Request
abbrev pub request_field : record { http : ℕ }
request_field = record { http = 2 }

-- AttributeContext.HttpRequest
abbrev pub http_field : record { method : ℕ; headers : ℕ; path : ℕ; host : ℕ; scheme : ℕ; protocol : ℕ; header_map : ℕ }
http_field = record { method = 2; headers = 3; path = 4; host = 5; scheme = 6; protocol = 10; header_map = 13 }

-- AttributeContext.TLSSession
abbrev pub session_field : record { sni : ℕ }
session_field = record { sni = 1 }

-- Address, a oneof
abbrev pub address_field : record { socket_address : ℕ; pipe : ℕ; envoy_internal_address : ℕ }
address_field = record { socket_address = 1; pipe = 2; envoy_internal_address = 3 }

-- its members
abbrev pub address_keys : List Key
address_keys = len_key address_field.socket_address ∷ len_key address_field.pipe
    ∷ len_key address_field.envoy_internal_address ∷ []

-- SocketAddress
abbrev pub socket_field : record { address : ℕ; port_value : ℕ; named_port : ℕ }
socket_field = record { address = 2; port_value = 3; named_port = 4 }

-- the members of its oneof
abbrev pub port_keys : List Key
port_keys = varint_key socket_field.port_value ∷ len_key socket_field.named_port ∷ []

-- HeaderMap
abbrev pub map_field : record { headers : ℕ }
map_field = record { headers = 1 }

-- HeaderValue
abbrev pub header_field : record { key : ℕ; value : ℕ; raw_value : ℕ }
header_field = record { key = 1; value = 2; raw_value = 3 }

-- the number of the Peer at an end of the connection
abbrev pub number_of : End → ℕ
number_of End.Source = context_field.source
number_of End.Destination = context_field.destination

-- `inner` are the fields of the message of this number: all its payloads merge, and an absent one has none
abbrev pub Inner : ℕ → List Wire → List Wire → Type 0
Inner k fs inner = Merges (payloads k fs) inner
