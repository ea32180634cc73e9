-- The attributes of a request: Envoy, "Attributes"; the target's parts by RFC 3986 section 3.
use Rattle.std.specs.Prelude.{ℕ, ◌^◌, ◌<◌, ℤ, pos, FitsSigned, Bool, ◌==◌, IsTrue, IsUtf8, List, Option, Some, ⊤, option_map, codes}
use Rattle.std.specs.List.{before_first, after_first}
use Rattle.std.specs.FinMap.{from_sorted, is_sorted}
use Rattle.std.specs.Int.{w64}
use Rattle.attributes.specs.Headers.{HeaderMap, name_cmp}
use Rattle.attributes.specs.Request.{AreTextHeaders, RequestValue, header_of, protocol_of}
use Rattle.attributes.specs.declared.attribute.AttrId.{AttrId}
use Rattle.attributes.specs.declared.attribute.AttrId.TheVariants.{RequestPath, RequestUrlPath, RequestHost, RequestScheme, RequestMethod, RequestHeaders, RequestReferer, RequestUseragent, RequestId, RequestProtocol, RequestQuery, SourceAddress, SourcePort, DestinationAddress, DestinationPort, ConnectionMtls, ConnectionId, ConnectionRequestedServerName, ConnectionTlsVersion, ConnectionSubjectPeerCertificate, ConnectionDnsSanPeerCertificate, ConnectionUriSanPeerCertificate}
use Rattle.attributes.specs.declared.attribute.AttrType.{AttrType}
use Rattle.attributes.specs.declared.attribute.AttrValue.{AttrValue}
use Rattle.attributes.specs.declared.attribute.AttrValue.TheVariants as values

-- the value of an attribute: a text is its bytes
pub data AttrData : Type 0 where
  text : List ℕ → AttrData
  int : ℤ → AttrData
  uint : ℕ → AttrData
  bool : Bool → AttrData
  text_map : HeaderMap → AttrData

-- the value that an attribute's value in the code means, without its place in memory. Pairs mean a
-- map, if their names ascend
abbrev pub attr_view : AttrValue → AttrData
attr_view (values.Text t) = text t.now
attr_view (values.Int n) = int n
attr_view (values.Uint n) = uint n
attr_view (values.Bool b) = bool b
attr_view (values.Pairs ps) = text_map (from_sorted ps.now)

-- the names of pairs ascend, so each name is there once
abbrev pub HasSortedPairs : AttrValue → Type 0
HasSortedPairs (values.Pairs ps) = IsTrue (is_sorted name_cmp ps.now)
HasSortedPairs _ = ⊤

-- the target before its first `#` (35); the whole target if it has none
abbrev pub without_fragment : List ℕ → List ℕ
without_fragment target = before_first (λ b. b == 35) target

-- the target without its fragment, before the first `?` (63); all of that if it has none
abbrev pub url_path_of : List ℕ → List ℕ
url_path_of target = before_first (λ b. b == 63) (without_fragment target)

-- the target without its fragment, after the first `?`; empty if it has none
abbrev pub query_of : List ℕ → List ℕ
query_of target = after_first (λ b. b == 63) (without_fragment target)

-- a header as an attribute
abbrev pub header_data : RequestValue → List ℕ → Option AttrData
header_data r name = option_map text (header_of r name)

-- a port as an attribute
abbrev pub port_data : Option ℕ → Option AttrData
port_data port = option_map (λ n. int (pos n)) port

-- each attribute's name, and its value as a function of the request: none if the request does not
-- have it
abbrev pub attribute : AttrId → List ℕ × (RequestValue → Option AttrData)
attribute RequestPath = (codes "request.path", λ r. Some (text r.target))
attribute RequestUrlPath = (codes "request.url_path", λ r. Some (text (url_path_of r.target)))
attribute RequestHost = (codes "request.host", λ r. header_data r (codes ":authority"))
attribute RequestScheme = (codes "request.scheme", λ r. Some (text r.facts.scheme))
attribute RequestMethod = (codes "request.method", λ r. Some (text r.method))
attribute RequestHeaders = (codes "request.headers", λ r. Some (text_map r.headers))
attribute RequestReferer = (codes "request.referer", λ r. header_data r (codes "referer"))
attribute RequestUseragent = (codes "request.useragent", λ r. header_data r (codes "user-agent"))
attribute RequestId = (codes "request.id", λ r. header_data r (codes "x-request-id"))
attribute RequestProtocol = (codes "request.protocol", λ r. Some (text (protocol_of r.protocol)))
attribute RequestQuery = (codes "request.query", λ r. Some (text (query_of r.target)))
attribute SourceAddress = (codes "source.address", λ r. option_map text r.facts.source_address)
attribute SourcePort = (codes "source.port", λ r. port_data r.facts.source_port)
attribute DestinationAddress = (codes "destination.address", λ r. option_map text r.facts.destination_address)
attribute DestinationPort = (codes "destination.port", λ r. port_data r.facts.destination_port)
attribute ConnectionMtls = (codes "connection.mtls", λ r. option_map bool r.facts.mtls)
attribute ConnectionId = (codes "connection.id", λ r. option_map uint r.facts.connection_id)
attribute ConnectionRequestedServerName =
    (codes "connection.requested_server_name", λ r. option_map text r.facts.requested_server_name)
attribute ConnectionTlsVersion = (codes "connection.tls_version", λ r. option_map text r.facts.tls_version)
attribute ConnectionSubjectPeerCertificate =
    (codes "connection.subject_peer_certificate", λ r. option_map text r.facts.subject_peer_certificate)
attribute ConnectionDnsSanPeerCertificate =
    (codes "connection.dns_san_peer_certificate", λ r. option_map text r.facts.dns_san_peer_certificate)
attribute ConnectionUriSanPeerCertificate =
    (codes "connection.uri_san_peer_certificate", λ r. option_map text r.facts.uri_san_peer_certificate)

-- the name of an attribute
abbrev pub attr_name : AttrId → List ℕ
attr_name id = (attribute id).0

-- the value of an attribute of this request
abbrev pub attr_of : RequestValue → AttrId → Option AttrData
attr_of r id = (attribute id).1 r

-- the type of each attribute: all but these five are texts
abbrev pub attr_type : AttrId → AttrType
attr_type RequestHeaders = AttrType.TextMap
attr_type SourcePort = AttrType.Int
attr_type DestinationPort = AttrType.Int
attr_type ConnectionMtls = AttrType.Bool
attr_type ConnectionId = AttrType.Uint
attr_type _ = AttrType.Text

-- the value has the type: a text is UTF-8, and a number fits 64 bits
abbrev pub HasAttrType : AttrType → AttrData → Type 0
HasAttrType AttrType.Text (text bytes) = IsUtf8 bytes
HasAttrType AttrType.Int (int n) = FitsSigned w64 n
HasAttrType AttrType.Uint (uint n) = n < 2 ^ 64
HasAttrType AttrType.Bool (bool b) = ⊤
HasAttrType AttrType.TextMap (text_map headers) = AreTextHeaders headers
HasAttrType _ _ = ⊥
