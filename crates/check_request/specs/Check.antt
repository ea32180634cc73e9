-- Which request a CheckRequest means: Envoy v3 `service/auth/v3/external_auth.proto` (CheckRequest) and
-- `service/auth/v3/attribute_context.proto` (AttributeContext). Unknown fields are skipped, but not in an entry of a map.
use Rattle.std.specs.Prelude.{◌≡◌, ℕ, Bool, true, ◌||◌, Option, Some, None, List, [], ◌∷◌, MatchOption, IsUtf8, codes, if◌then◌else◌}
use Rattle.std.specs.FinMap.{entries}
use Rattle.std.specs.Map.{lookup}
use Rattle.std.specs.Str.{bytes_eq}
use Rattle.attributes.specs.Conn.{Facts}
use Rattle.attributes.specs.Limits.{LimitsValue}
use Rattle.attributes.specs.Request.{RequestValue}
use Rattle.attributes.specs.declared.protocol.Protocol.{Protocol}
use Rattle.attributes.specs.declared.protocol.Protocol.TheVariants.{Http10, Http11, Http2, Http3}
use Rattle.http_front.specs.Parts.{PartsAsk, PartsValue}
use Rattle.proto_wire.specs.Fields.{Wire}
use Rattle.proto_wire.specs.Maps.{Entry, AreEntries, map_of, text}
use Rattle.proto_wire.specs.Merge.{Merges}
use Rattle.proto_wire.specs.Values.{bytes_at, payloads}
use Rattle.check_request.specs.Facts.{KnownValue, facts_of}
use Rattle.check_request.specs.Lines.{AreLines, last_payload}
use Rattle.check_request.specs.Numbers.{Inner, check_field, context_field, http_field, number_of, peer_field, request_field, session_field}
use Rattle.check_request.specs.Sockets.{IsEnd}
use Rattle.check_request.specs.declared.part.End.{End}
use Rattle.check_request.specs.declared.part.PrincipalName.{PrincipalName}

-- what a CheckRequest asks: the parts of a request, and the facts of its connection. Also the names of the filters, if
-- it says which are asked
pub record CheckValue : Type 0 where
  pub parts : PartsValue
  pub facts : Facts
  pub filters : Option (List ℕ)

-- a scheme of HTTP (RFC 9110, section 4.2)
abbrev pub is_scheme : List ℕ → Bool
is_scheme scheme = bytes_eq scheme (codes "http") || bytes_eq scheme (codes "https")

-- the protocol of this name, as Envoy has it
abbrev pub protocol_named : List ℕ → Option Protocol
protocol_named name =
    if bytes_eq name (codes "HTTP/1.0") then Some Http10
    else if bytes_eq name (codes "HTTP/1.1") then Some Http11
    else if bytes_eq name (codes "HTTP/2") then Some Http2
    else if bytes_eq name (codes "HTTP/3") then Some Http3
    else None

-- the fields of an HttpRequest are these parts
pub record AreParts (http : List Wire) (p : PartsValue) : Type 0 where
  pub method : p.method ≡ bytes_at http_field.method http
  pub target : p.target ≡ bytes_at http_field.path http
  pub protocol : protocol_named (bytes_at http_field.protocol http) ≡ Some p.protocol
  pub fields : AreLines http p.fields

-- the fields of an AttributeContext say this of the connection
pub record IsKnown (context http : List Wire) (k : KnownValue) : Type 0 where
  pub source : List Wire
  pub destination : List Wire
  pub session : List Wire
  pub source_is : Inner (number_of End.Source) context source
  pub destination_is : Inner (number_of End.Destination) context destination
  pub session_is : Inner context_field.tls_session context session
  pub scheme : k.scheme ≡ bytes_at http_field.scheme http
  pub of_http : is_scheme k.scheme ≡ true
  pub source_end : IsEnd source k.source
  pub destination_end : IsEnd destination k.destination
  pub principal : k.principal ≡ bytes_at peer_field.principal source
  pub principal_text : IsUtf8 k.principal
  pub server_name : k.server_name ≡ bytes_at session_field.sni session
  pub server_text : IsUtf8 k.server_name

-- the value at this key of the map; none if it has none
abbrev pub value_at : List ℕ → List (Entry text) → Option (List (List ℕ))
value_at key es = lookup (λ other. bytes_eq other key) (entries (map_of text es))

-- the payloads of `context_extensions` say these filters: the value of the key `filters`
abbrev pub AreFilters : List (List ℕ) → Option (List ℕ) → Type 0
AreFilters parts filters = (es : List (Entry text)) × AreEntries text parts es
    × MatchOption (value_at (codes "filters") es) (filters ≡ None)
    (λ value. IsUtf8 (last_payload value) × (filters ≡ Some (last_payload value)))

-- the fields of an AttributeContext ask this; `name` says which name of its certificate the peer's principal is
pub record IsContext (name : PrincipalName) (context : List Wire) (c : CheckValue) : Type 0 where
  pub request : List Wire
  pub http : List Wire
  pub known : KnownValue
  pub request_is : Inner context_field.request context request
  pub http_is : Inner request_field.http request http
  pub parts : AreParts http c.parts
  pub is_known : IsKnown context http known
  pub facts : c.facts ≡ facts_of name known
  pub filters : AreFilters (payloads context_field.context_extensions context) c.filters

-- the bytes are a CheckRequest, which asks this
abbrev pub IsCheck : PrincipalName → List ℕ → CheckValue → Type 0
IsCheck name bytes c = (check context : List Wire) × Merges (bytes ∷ []) check
    × Inner check_field.attributes check context × IsContext name context c

-- the bytes are a CheckRequest, which means the request `r`
abbrev pub CheckAsks : PrincipalName → LimitsValue → List ℕ → RequestValue → Type 0
CheckAsks name limits bytes r =
    (c : CheckValue) × IsCheck name bytes c × PartsAsk c.parts limits c.facts r
