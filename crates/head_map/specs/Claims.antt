-- What the fields of a front proxy say of its client (RFC 9110, sections 5.5, 7.2 and 9.1).
use Rattle.std.specs.Prelude.{◌≡◌, ℕ, ◌≤◌, ◌<◌, ◌-◌, ◌^◌, Bool, false, ◌&&◌, ◌||◌, ◌==◌, nat_lt, IsTrue, List, [], ◌∷◌, Option, None, Some, codes, drop, length, option_map, slice_get, take}
use Rattle.std.specs.Char.{is_ascii_whitespace}
use Rattle.std.specs.List.{list_all, prefix_len, slice_split, suffix_len}
use Rattle.std.specs.Str.{bytes_eq}
use Rattle.std.specs.Str.Parse.{IsNumeral, digits_value}
use Rattle.std.specs.String.{string_bytes}
use Rattle.attributes.specs.Address.{IsIpText, unmapped}
use Rattle.attributes.specs.Conn.{server_name}
use Rattle.attributes.specs.declared.address.Ip.{Ip}
use Rattle.httparse.specs.Grammar.{is_token, is_uri_byte}
use Rattle.head_map.specs.declared.fact.Fact.{Fact}
use Rattle.head_map.specs.declared.fact.Fact.TheVariants as facts

-- what a field says: a part of the client's request, or a fact of its connection. Addresses and the name of a server are in
-- their one form
pub data Claim : Type 0 where
  method : List ℕ → Claim
  target : List ℕ → Claim
  host : List ℕ → Claim
  scheme : List ℕ → Claim
  remote_ip : Ip → Claim
  direct_remote_ip : Ip → Claim
  source_port : ℕ → Claim
  mtls : Bool → Claim
  requested_server_name : Option (List ℕ) → Claim
  subject_peer_certificate : Option (List ℕ) → Claim
  dns_san_peer_certificate : Option (List ℕ) → Claim
  uri_san_peer_certificate : Option (List ℕ) → Claim

-- the text begins with a slash (47)
abbrev pub begins_with_slash : List ℕ → Bool
begins_with_slash [] = false
begins_with_slash (b ∷ bytes) = b == 47

-- a target in origin form, of bytes that a request line may have (RFC 9112, section 3.2.1)
abbrev pub is_target : List ℕ → Bool
is_target text = begins_with_slash text && list_all is_uri_byte text

-- the value of a Host field, of visible bytes; it is not empty (RFC 9110, section 7.2)
abbrev pub is_host : List ℕ → Bool
is_host text = nat_lt 0 (length text) && list_all is_uri_byte text

-- a scheme of HTTP (RFC 9110, section 4.2)
abbrev pub is_scheme : List ℕ → Bool
is_scheme text = bytes_eq text (codes "http") || bytes_eq text (codes "https")

-- the digits of a port below 65536 (RFC 3986, section 3.2.3)
abbrev pub IsPortText : List ℕ → ℕ → Type 0
IsPortText text port =
    IsNumeral 10 text × (digits_value 10 text < 2 ^ 16) × (port ≡ digits_value 10 text)

-- the text without the white space at its start
abbrev pub without_front_blanks : List ℕ → List ℕ
without_front_blanks text = drop (prefix_len is_ascii_whitespace text) text

-- the text without the white space at its end
abbrev pub without_back_blanks : List ℕ → List ℕ
without_back_blanks text = take (length text - suffix_len is_ascii_whitespace text) text

-- the parts of a list between its commas (44)
abbrev pub parts_of : List ℕ → List (List ℕ)
parts_of value = slice_split (λ b. b == 44) value

-- the part at this place from the right; the last is at place 1
abbrev pub IsFromRight : ℕ → List (List ℕ) → List ℕ → Type 0
IsFromRight place parts part =
    (1 ≤ place) × (place ≤ length parts) × (slice_get parts (length parts - place) ≡ Some part)

-- the address that a text spells, in its one form: one of IPv4, if it is written as one of IPv6
abbrev pub IsClientIp : List ℕ → Ip → Type 0
IsClientIp text ip = (spelled : Ip) × IsIpText text spelled × (ip ≡ unmapped spelled)

-- the list's address at this place from the right, without white space around it (RFC 9110, section 5.6.1)
abbrev pub IsForwarded : ℕ → List ℕ → Ip → Type 0
IsForwarded place value ip = (part : List ℕ) × IsFromRight place (parts_of value) part
    × IsClientIp (without_back_blanks (without_front_blanks part)) ip

-- a text of a connection's facts; an empty value says that there is none
abbrev pub text_of : List ℕ → Option (List ℕ)
text_of [] = None
text_of (b ∷ bytes) = Some (b ∷ bytes)

-- a field that holds this fact, and has this value, says this
abbrev pub Reads : Fact → List ℕ → Claim → Type 0
Reads facts.Method value claim = IsTrue (is_token value) × (claim ≡ method value)
Reads facts.Target value claim = IsTrue (is_target value) × (claim ≡ target value)
Reads facts.Host value claim = IsTrue (is_host value) × (claim ≡ host value)
Reads facts.Scheme value claim = IsTrue (is_scheme value) × (claim ≡ scheme value)
Reads facts.RemoteIp value claim = (ip : Ip) × IsClientIp value ip × (claim ≡ remote_ip ip)
Reads (facts.ForwardedFor place) value claim =
    (ip : Ip) × IsForwarded place value ip × (claim ≡ remote_ip ip)
Reads facts.DirectRemoteIp value claim =
    (ip : Ip) × IsClientIp value ip × (claim ≡ direct_remote_ip ip)
Reads facts.SourcePort value claim =
    (port : ℕ) × IsPortText value port × (claim ≡ source_port port)
Reads (facts.Mtls is) value claim = claim ≡ mtls (bytes_eq value (string_bytes is))
Reads facts.RequestedServerName value claim = claim ≡ requested_server_name (option_map server_name (text_of value))
Reads facts.SubjectPeerCertificate value claim = claim ≡ subject_peer_certificate (text_of value)
Reads facts.DnsSanPeerCertificate value claim = claim ≡ dns_san_peer_certificate (text_of value)
Reads facts.UriSanPeerCertificate value claim = claim ≡ uri_san_peer_certificate (text_of value)
