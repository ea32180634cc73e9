-- The leaves of permissions and principals, and what they mean for a request: Envoy v3
-- `config/rbac/v3/rbac.proto`.
use Rattle.std.specs.Prelude.{Bool, false, ◌==◌, ◌&&◌, nat_le, nat_lt, [], unwrap_or}
use Rattle.std.specs.Option.{option_map_or}
use Rattle.attributes.specs.Address.{share_prefix}
use Rattle.attributes.specs.Attributes.{url_path_of}
use Rattle.attributes.specs.Request.{RequestValue, header_of}
use Rattle.rbac_match.specs.Authenticated.{name_holds, peer_name}
use Rattle.rbac_match.specs.Header.{specifier_holds}
use Rattle.rbac_match.specs.Cidr.{source_ip}
use Rattle.rbac_match.specs.Text.{text_holds}
use Rattle.rbac_match.specs.declared.matcher.Matcher.{Matcher}
use Rattle.rbac_match.specs.declared.matcher.Matcher.TheVariants.{Header, Address, Port, PortRange, ServerName, UrlPath, Authenticated}

-- whether the request passes a test of one fact. Its header passes. Its address is known and in the range.
-- Its port is known, and is this one or one of these. Its server name passes, or the empty text if there is
-- none. Its target up to the first `?` or `#` passes. Its connection is known to use mutual TLS, and its
-- peer's name passes
abbrev pub matcher_holds : Matcher → RequestValue → Bool
matcher_holds (Header h) r = specifier_holds h.specifier h.invert_match
    h.treat_missing_header_as_empty (header_of r h.name)
matcher_holds (Address source range) r =
    option_map_or (share_prefix range.prefix_len range.address) (source_ip source r.facts) false
matcher_holds (Port port) r = option_map_or (λ p. p == port) r.facts.destination_port false
matcher_holds (PortRange span) r =
    option_map_or (λ p. nat_le span.start p && nat_lt p span.end) r.facts.destination_port false
matcher_holds (ServerName test) r = text_holds test (unwrap_or r.facts.requested_server_name [])
matcher_holds (UrlPath test) r = text_holds test (url_path_of r.target)
matcher_holds (Authenticated name) r =
    unwrap_or r.facts.mtls false && name_holds name (peer_name r.facts)
