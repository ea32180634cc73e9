-- The facts that a CheckRequest gives: Envoy v3 `service/auth/v3/attribute_context.proto` (Peer: `principal`;
-- TLSSession: `sni`), and Envoy, "Attributes".
use Rattle.std.specs.Prelude.{ℕ, true, Option, Some, None, List, [], ◌∷◌}
use Rattle.attributes.specs.Conn.{Facts, only_scheme, server_name}
use Rattle.check_request.specs.Sockets.{SocketValue, address_text}
use Rattle.check_request.specs.declared.part.PrincipalName.{PrincipalName}
use Rattle.check_request.specs.declared.part.PrincipalName.TheVariants.{UriSan, DnsSan, Subject}

-- what a CheckRequest says of the connection. An empty principal or server name says that there is none
pub record KnownValue : Type 0 where
  pub scheme : List ℕ
  pub source : Option SocketValue
  pub destination : Option SocketValue
  pub principal : List ℕ
  pub server_name : List ℕ

-- where the request comes from
abbrev pub with_source : Option SocketValue → Facts → Facts
with_source None facts = facts
with_source (Some s) facts =
    record facts { source_address = Some (address_text s); source_port = Some s.port; remote_ip = Some s.ip }

-- where the connection goes to
abbrev pub with_destination : Option SocketValue → Facts → Facts
with_destination None facts = facts
with_destination (Some s) facts = record facts {
  destination_address = Some (address_text s);
  destination_port = Some s.port;
  destination_ip = Some s.ip;
}

-- the server that the client asked for
abbrev pub with_server_name : List ℕ → Facts → Facts
with_server_name [] facts = facts
with_server_name (b ∷ name) facts = record facts { requested_server_name = Some (server_name (b ∷ name)) }

-- a peer that showed a certificate with this name of it
abbrev pub with_principal : PrincipalName → List ℕ → Facts → Facts
with_principal name [] facts = facts
with_principal UriSan (b ∷ text) facts =
    record facts { mtls = Some true; uri_san_peer_certificate = Some (b ∷ text) }
with_principal DnsSan (b ∷ text) facts =
    record facts { mtls = Some true; dns_san_peer_certificate = Some (b ∷ text) }
with_principal Subject (b ∷ text) facts =
    record facts { mtls = Some true; subject_peer_certificate = Some (b ∷ text) }

-- the facts; `name` says which name of the peer's certificate its principal is. All others are absent
abbrev pub facts_of : PrincipalName → KnownValue → Facts
facts_of name k = with_principal name k.principal (with_server_name k.server_name
    (with_destination k.destination (with_source k.source (only_scheme k.scheme))))
