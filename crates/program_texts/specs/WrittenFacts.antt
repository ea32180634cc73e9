-- Facts as the record has them: an object as in `Facts`, in one text for each address. The order of the names is that of
-- their bytes (this project's own). Dotted texts are those of RFC 3986, section 3.2.2, colon texts of RFC 4291, section 2.2.
use Rattle.std.specs.Prelude.{◌≡◌, ℕ, List, [], ◌∷◌, ◌++◌, IfSome, Option, Some, None, drop, map, option_map}
use Rattle.std.specs.Int.{w32, w128, to_be_bytes}
use Rattle.std.specs.Net.Text.{ipv4_text}
use Rattle.attributes.specs.Address.{unmapped}
use Rattle.attributes.specs.Conn.{Facts, server_name}
use Rattle.attributes.specs.declared.address.Ip.{Ip}
use Rattle.attributes.specs.declared.address.Ip.TheVariants.{V4, V6}
use Rattle.hex.specs.Hex.{encode_lower}
use Rattle.serde_json.specs.Data.{Data, boolean, number, unsigned, string, object, Members, no_members, member}
use Rattle.program_texts.specs.Facts.{name_of}
use Rattle.program_texts.specs.declared.fact.Fact.{Fact}
use Rattle.program_texts.specs.declared.fact.Fact.TheVariants.{SourceAddress, SourcePort, DestinationAddress, DestinationPort, ConnectionMtls, ConnectionId, ConnectionRequestedServerName, ConnectionTlsVersion, ConnectionSubjectPeerCertificate, ConnectionDnsSanPeerCertificate, ConnectionUriSanPeerCertificate, DirectRemoteIp, RemoteIp, DestinationIp, RequestScheme}

-- each two bytes as four hexadecimal digits in lower case, after a colon (58)
abbrev pub colon_groups : List ℕ → List ℕ
colon_groups [] = []
colon_groups (a ∷ []) = []
colon_groups (a ∷ b ∷ bytes) = 58 ∷ (encode_lower (a ∷ b ∷ []) ++ colon_groups bytes)

-- an address as four decimal numbers with dots, or as eight groups of four digits with colons between them
abbrev pub ip_text : Ip → List ℕ
ip_text (V4 n) = ipv4_text (to_be_bytes w32 n)
ip_text (V6 n) = drop 1 (colon_groups (to_be_bytes w128 n))

-- the value that is written for a fact; none if the fact is not known
abbrev pub fact_data : Fact → Facts → Option Data
fact_data SourceAddress f = option_map string f.source_address
fact_data SourcePort f = option_map (λ n. number (unsigned n)) f.source_port
fact_data DestinationAddress f = option_map string f.destination_address
fact_data DestinationPort f = option_map (λ n. number (unsigned n)) f.destination_port
fact_data ConnectionMtls f = option_map boolean f.mtls
fact_data ConnectionId f = option_map (λ n. number (unsigned n)) f.connection_id
fact_data ConnectionRequestedServerName f = option_map string f.requested_server_name
fact_data ConnectionTlsVersion f = option_map string f.tls_version
fact_data ConnectionSubjectPeerCertificate f = option_map string f.subject_peer_certificate
fact_data ConnectionDnsSanPeerCertificate f = option_map string f.dns_san_peer_certificate
fact_data ConnectionUriSanPeerCertificate f = option_map string f.uri_san_peer_certificate
fact_data DirectRemoteIp f = option_map (λ ip. string (ip_text ip)) f.direct_remote_ip
fact_data RemoteIp f = option_map (λ ip. string (ip_text ip)) f.remote_ip
fact_data DestinationIp f = option_map (λ ip. string (ip_text ip)) f.destination_ip
fact_data RequestScheme f = Some (string f.scheme)

-- the facts in the order of their names
abbrev pub facts_by_name : List Fact
facts_by_name =
    ConnectionDnsSanPeerCertificate ∷ ConnectionId ∷ ConnectionMtls ∷ ConnectionRequestedServerName
    ∷ ConnectionSubjectPeerCertificate ∷ ConnectionTlsVersion ∷ ConnectionUriSanPeerCertificate ∷ DestinationAddress
    ∷ DestinationPort ∷ DestinationIp ∷ DirectRemoteIp ∷ RemoteIp ∷ RequestScheme ∷ SourceAddress ∷ SourcePort ∷ []

-- a member with this name, if there is a value for it, before others
abbrev pub known_then : List ℕ → Option Data → Members → Members
known_then name None ms = ms
known_then name (Some d) ms = member name d ms

-- the members of these facts that are known, in order
abbrev pub known_members : Facts → List Fact → Members
known_members f [] = no_members
known_members f (fact ∷ facts) = known_then (name_of fact) (fact_data fact f) (known_members f facts)

-- the facts that are known as a JSON object, in the order of their names
abbrev pub facts_json : Facts → Data
facts_json f = object (known_members f facts_by_name)

-- each address and the name of the server is in its one form, in which it is read
pub record AreInOneForm (f : Facts) : Type 0 where
  pub requested_server_name : IfSome f.requested_server_name (λ name. server_name name ≡ name)
  pub direct_remote_ip : IfSome f.direct_remote_ip (λ ip. unmapped ip ≡ ip)
  pub remote_ip : IfSome f.remote_ip (λ ip. unmapped ip ≡ ip)
  pub destination_ip : IfSome f.destination_ip (λ ip. unmapped ip ≡ ip)
