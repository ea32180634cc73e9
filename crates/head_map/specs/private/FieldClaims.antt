-- What a field says, without its place in memory.
use Rattle.std.specs.Prelude.{option_map}
use Rattle.attributes.specs.Conn.{server_name}
use Rattle.head_map.specs.declared.field_claim.FieldClaim.{FieldClaim}
use Rattle.head_map.specs.declared.field_claim.FieldClaim.TheVariants as claims
use Rattle.head_map.specs.Claims.{Claim, direct_remote_ip, dns_san_peer_certificate, host, method, mtls, remote_ip, requested_server_name, scheme, source_port, subject_peer_certificate, target, uri_san_peer_certificate}

-- the claim that a `FieldClaim` of the code means
abbrev pub claim_of : FieldClaim → Claim
claim_of (claims.Method text) = method text.now
claim_of (claims.Target text) = target text.now
claim_of (claims.Host text) = host text.now
claim_of (claims.Scheme text) = scheme text.now
claim_of (claims.RemoteIp ip) = remote_ip ip
claim_of (claims.DirectRemoteIp ip) = direct_remote_ip ip
claim_of (claims.SourcePort port) = source_port port
claim_of (claims.Mtls is) = mtls is
claim_of (claims.RequestedServerName text) =
    requested_server_name (option_map server_name (option_map (λ t. t.now) text))
claim_of (claims.SubjectPeerCertificate text) = subject_peer_certificate (option_map (λ t. t.now) text)
claim_of (claims.DnsSanPeerCertificate text) = dns_san_peer_certificate (option_map (λ t. t.now) text)
claim_of (claims.UriSanPeerCertificate text) = uri_san_peer_certificate (option_map (λ t. t.now) text)
