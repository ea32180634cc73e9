-- The facts of a connection: the connection attributes of Envoy, "Attributes", and the addresses
-- for CIDR ranges. Names of servers: RFC 6066 section 3.
use Rattle.std.specs.Prelude.{ℕ, ◌^◌, ◌<◌, Option, Some, None, List, [], ◌∷◌, IfSome, map, option_map}
use Rattle.std.specs.Char.{to_ascii_lowercase}
use Rattle.std.specs.List.{AllByRecursion}
use Rattle.std.specs.Str.{IsUtf8}
use Rattle.std.specs.Arc.{arc_str_bytes}
use Rattle.std.specs.declared.sync.ArcStr.{ArcStr}
use Rattle.std.specs.declared.alloc.Global.{Global}
use Rattle.attributes.specs.declared.conn.Conn.{Conn}
use Rattle.attributes.specs.Address.{IsAddress}

-- the facts of a connection (the fields of `Conn`); a text is its bytes
abbrev pub Facts : Type 0
Facts = Conn (List ℕ)

-- the texts among the facts
abbrev pub texts_of : Facts → List (Option (List ℕ))
texts_of f =
    f.source_address ∷ f.destination_address ∷ f.requested_server_name ∷ f.tls_version
    ∷ f.subject_peer_certificate ∷ f.dns_san_peer_certificate ∷ f.uri_san_peer_certificate
    ∷ Some f.scheme ∷ []

-- a port has 16 bits
abbrev pub IsPort : Option ℕ → Type 0
IsPort port = IfSome port (λ n. n < 2 ^ 16)

-- the facts of every connection satisfy this: texts are UTF-8, ports fit 16 bits, and the
-- connection's number fits 64 bits. Each address is in the range of its family
pub record AreFacts (f : Facts) : Type 0 where
  pub texts : AllByRecursion (λ text. IfSome text IsUtf8) (texts_of f)
  pub source_port : IsPort f.source_port
  pub destination_port : IsPort f.destination_port
  pub connection_id : IfSome f.connection_id (λ n. n < 2 ^ 64)
  pub direct_remote_ip : IfSome f.direct_remote_ip IsAddress
  pub remote_ip : IfSome f.remote_ip IsAddress
  pub destination_ip : IfSome f.destination_ip IsAddress

-- the name of a server in one form, with A to Z in lower case: a client may ask for it in any case
abbrev pub server_name : List ℕ → List ℕ
server_name name = map to_ascii_lowercase name

-- the bytes of an optional text
abbrev pub text_view : Option (ArcStr Global) → Option (List ℕ)
text_view = option_map arc_str_bytes

-- the facts that a connection value holds
abbrev pub conn_view : Conn (ArcStr Global) → Facts
conn_view c = record {
  source_address = text_view c.source_address;
  source_port = c.source_port;
  destination_address = text_view c.destination_address;
  destination_port = c.destination_port;
  mtls = c.mtls;
  connection_id = c.connection_id;
  requested_server_name = text_view c.requested_server_name;
  tls_version = text_view c.tls_version;
  subject_peer_certificate = text_view c.subject_peer_certificate;
  dns_san_peer_certificate = text_view c.dns_san_peer_certificate;
  uri_san_peer_certificate = text_view c.uri_san_peer_certificate;
  direct_remote_ip = c.direct_remote_ip;
  remote_ip = c.remote_ip;
  destination_ip = c.destination_ip;
  scheme = arc_str_bytes c.scheme;
}

-- the facts of a connection of which only the scheme is known
abbrev pub only_scheme : List ℕ → Facts
only_scheme scheme = record {
  source_address = None;
  source_port = None;
  destination_address = None;
  destination_port = None;
  mtls = None;
  connection_id = None;
  requested_server_name = None;
  tls_version = None;
  subject_peer_certificate = None;
  dns_san_peer_certificate = None;
  uri_san_peer_certificate = None;
  direct_remote_ip = None;
  remote_ip = None;
  destination_ip = None;
  scheme = scheme;
}
