-- Examples of Envoy's definitions and of RFCs, so that a wrong rule in the specs does not check.
use Rattle.std.proofs.Common.{◌≡◌, ℕ, pos, negsuc, true, false, List, [], ◌∷◌, ◌++◌, Option, Some, None, IsUtf8, codes, refl, arith, lit<}
use Rattle.std.specs.Fmt.{digits}
use Rattle.std.specs.Net.Addr.{ipv4_bits}
use Rattle.std.specs.declared.ops.Range.{Range as PortSpan}
use Rattle.attributes.specs.Address.{IsIpText, Range}
use Rattle.attributes.specs.Conn.{Facts}
use Rattle.attributes.specs.Headers.{all_entries}
use Rattle.attributes.specs.declared.protocol.Protocol.TheVariants.{Http11}
use Rattle.attributes.specs.Request.{RequestValue, header_of, request_of}
use Rattle.attributes.specs.declared.address.Ip.{Ip}
use Rattle.attributes.specs.declared.address.Ip.TheVariants.{V4, V6}
use Rattle.attributes.proofs.Joining.{are_joined_headers_of}
use Rattle.proto_wire.specs.Fields.{varint, len, Wire, Fields}
use Rattle.proto_wire.proofs.StandardFacts.{field, len_starts, merged, varint_starts}
use Rattle.rbac_match.specs.Cidr.{IsCidr}
use Rattle.rbac_match.specs.Formula.{Formula, and_of, or_of, leaf, end, formula, holds}
use Rattle.rbac_match.specs.Header.{HeaderTest, specifier_holds}
use Rattle.rbac_match.specs.Int64Range.{is_within}
use Rattle.rbac_match.specs.Matcher.{matcher_holds}
use Rattle.rbac_match.specs.Rules.{IsRule}
use Rattle.rbac_match.specs.Text.{TextTest, text_holds}
use Rattle.rbac_match.specs.declared.cidr.AddressSource.TheVariants.{Destination, DirectRemote}
use Rattle.rbac_match.specs.declared.header.Specifier.{Specifier}
use Rattle.rbac_match.specs.declared.header.Specifier.TheVariants.{Present, Text, Range as Within}
use Rattle.rbac_match.specs.declared.int64_range.Int64Range.{Int64Range}
use Rattle.rbac_match.specs.declared.matcher.Matcher.TheVariants.{Header, Address, Port, PortRange, UrlPath, Authenticated}
use Rattle.rbac_match.specs.declared.rule.Side.TheVariants.{Permission}
use Rattle.rbac_match.specs.declared.text.Pattern.{Pattern}
use Rattle.rbac_match.specs.declared.text.Pattern.TheVariants.{Exact, Prefix, Suffix, Contains}

-- ---- texts

-- a test of a text in which case counts
abbrev seeks : Pattern → List ℕ → TextTest
seeks pattern text = record { pattern = pattern; sought = text; ignore_case = false }

-- `abc` in each place: Envoy v3 `type/matcher/v3/string.proto`, StringMatcher
pub record AreTexts : Type 0 where
  pub exact : text_holds (seeks Exact (codes "abc")) (codes "abc") ≡ true
  pub exact_alone : text_holds (seeks Exact (codes "abc")) (codes "abc.xyz") ≡ false
  pub prefix : text_holds (seeks Prefix (codes "abc")) (codes "abc.xyz") ≡ true
  pub prefix_first : text_holds (seeks Prefix (codes "abc")) (codes "xyz.abc") ≡ false
  pub suffix : text_holds (seeks Suffix (codes "abc")) (codes "xyz.abc") ≡ true
  pub suffix_last : text_holds (seeks Suffix (codes "abc")) (codes "abc.xyz") ≡ false
  pub contains : text_holds (seeks Contains (codes "abc")) (codes "xyz.abc.def") ≡ true

pub texts : AreTexts
texts = record {
  exact = refl;
  exact_alone = refl;
  prefix = refl;
  prefix_first = refl;
  suffix = refl;
  suffix_last = refl;
  contains = refl;
}

-- `data` in any case: the same file, StringMatcher, `ignore_case`
abbrev data_in_any_case : TextTest
data_in_any_case = record { pattern = Exact; sought = codes "data"; ignore_case = true }

pub record AreCases : Type 0 where
  pub lower : text_holds data_in_any_case (codes "data") ≡ true
  pub upper : text_holds data_in_any_case (codes "Data") ≡ true
  pub counted : text_holds (seeks Exact (codes "data")) (codes "Data") ≡ false

pub cases : AreCases
cases = record { lower = refl; upper = refl; counted = refl }

-- ---- headers

-- what a header, found or missing, answers
abbrev asks : Specifier → Option (List ℕ) → Type 0
asks asked found = specifier_holds asked false false found ≡ true

abbrev asks_not : Specifier → Option (List ℕ) → Type 0
asks_not asked found = specifier_holds asked false false found ≡ false

-- `abcd`: Envoy v3 `config/route/v3/route_components.proto`, HeaderMatcher, `prefix_match`,
-- `suffix_match` and `contains_match`
pub record AreHeaderTexts : Type 0 where
  pub prefix : asks (Text (seeks Prefix (codes "abcd"))) (Some (codes "abcdxyz"))
  pub no_prefix : asks_not (Text (seeks Prefix (codes "abcd"))) (Some (codes "abcxyz"))
  pub suffix : asks (Text (seeks Suffix (codes "abcd"))) (Some (codes "xyzabcd"))
  pub no_suffix : asks_not (Text (seeks Suffix (codes "abcd"))) (Some (codes "xyzbcd"))
  pub contains : asks (Text (seeks Contains (codes "abcd"))) (Some (codes "xyzabcdpqr"))
  pub no_contains : asks_not (Text (seeks Contains (codes "abcd"))) (Some (codes "xyzbcdpqr"))

pub header_texts : AreHeaderTexts
header_texts = record {
  prefix = refl;
  no_prefix = refl;
  suffix = refl;
  no_suffix = refl;
  contains = refl;
  no_contains = refl;
}

-- the range [-10, 0)
abbrev below_zero : Specifier
below_zero = Within (record { start = negsuc 9; end = pos 0 })

-- which values are in it: the same message, `range_match`, and `invert_match`
pub record AreInRange : Type 0 where
  pub minus_one : asks below_zero (Some (codes "-1"))
  pub zero : asks_not below_zero (Some (codes "0"))
  pub word : asks_not below_zero (Some (codes "somestring"))
  pub fraction : asks_not below_zero (Some (codes "10.9"))
  pub number_and_word : asks_not below_zero (Some (codes "-1somestring"))
  pub inverted : specifier_holds below_zero true false (Some (codes "-1")) ≡ false

pub in_range : AreInRange
in_range = record {
  minus_one = refl;
  zero = refl;
  word = refl;
  fraction = refl;
  number_and_word = refl;
  inverted = refl;
}

-- the range [0, 10) of whole numbers, and the empty text
abbrev up_to_ten : Specifier
up_to_ten = Within (record { start = pos 0; end = pos 10 })

abbrev empty : Specifier
empty = Text (seeks Exact [])

-- four headers that are missing: the same message, `treat_missing_header_as_empty`
pub record AreMissing : Type 0 where
  pub header1 : specifier_holds up_to_ten true true None ≡ true
  pub header2 : specifier_holds up_to_ten true false None ≡ false
  pub header3 : specifier_holds empty false true None ≡ true
  pub header4 : specifier_holds empty false false None ≡ false

pub missing : AreMissing
missing = record { header1 = refl; header2 = refl; header3 = refl; header4 = refl }

-- a header that is to be there, and one that is to be absent: the same message, `present_match`
pub record ArePresent : Type 0 where
  pub there : asks (Present true) (Some (codes "v"))
  pub not_there : asks_not (Present true) None
  pub absent : asks (Present false) None
  pub not_absent : asks_not (Present false) (Some (codes "v"))

pub present : ArePresent
present = record { there = refl; not_there = refl; absent = refl; not_absent = refl }

-- ---- numbers

abbrev hundreds : Int64Range
hundreds = record { start = pos 200; end = pos 300 }

-- start is in, end is not: Envoy v3 `type/v3/range.proto`, Int64Range
pub record AreHalfOpen : Type 0 where
  pub before : is_within hundreds (pos 199) ≡ false
  pub start : is_within hundreds (pos 200) ≡ true
  pub last : is_within hundreds (pos 299) ≡ true
  pub behind : is_within hundreds (pos 300) ≡ false

pub half_open : AreHalfOpen
half_open = record { before = refl; start = refl; last = refl; behind = refl }

-- ---- requests

-- a connection by mutual TLS: where it comes from, the port that it goes to, and the URI SAN and the
-- DNS SAN of its peer's certificate
abbrev facts : Option Ip → ℕ → (uri dns : Option (List ℕ)) → Facts
facts source port uri dns = record {
  source_address = None;
  source_port = None;
  destination_address = None;
  destination_port = Some port;
  mtls = Some true;
  connection_id = None;
  requested_server_name = None;
  tls_version = None;
  subject_peer_certificate = Some (codes "CN=client");
  dns_san_peer_certificate = dns;
  uri_san_peer_certificate = uri;
  direct_remote_ip = source;
  remote_ip = None;
  destination_ip = None;
  scheme = codes "https";
}

-- a request without other header lines
abbrev request : (method target : List ℕ) → Facts → RequestValue
request method target known = request_of method target Http11 [] known

-- one that comes from this address
abbrev from : Ip → RequestValue
from ip = request (codes "GET") (codes "/") (facts (Some ip) 443 None None)

-- one that goes to this port
abbrev to : ℕ → RequestValue
to port = request (codes "GET") (codes "/") (facts None port None None)

-- one of a peer with these names
abbrev by : (uri dns : Option (List ℕ)) → RequestValue
by uri dns = request (codes "GET") (codes "/") (facts None 443 uri dns)

-- the method of a request is a header
method_is : (method target : List ℕ) (known : Facts)
    → header_of (request method target known) (codes ":method") ≡ Some method
method_is method target known =
    are_joined_headers_of (all_entries method target known.scheme []) (codes ":method")

-- 10.0.0.0/8
abbrev ten : Range
ten = record { address = V4 167772160; prefix_len = 8 }

-- it is 10.0.0.0 to 10.255.255.255: RFC 1918, section 3
pub record AreOfTen : Type 0 where
  pub first : matcher_holds (Address DirectRemote ten) (from (V4 167772160)) ≡ true
  pub inside : matcher_holds (Address DirectRemote ten) (from (V4 167838211)) ≡ true
  pub last : matcher_holds (Address DirectRemote ten) (from (V4 184549375)) ≡ true
  pub next : matcher_holds (Address DirectRemote ten) (from (V4 184549376)) ≡ false

pub of_ten : AreOfTen
of_ten = record { first = refl; inside = refl; last = refl; next = refl }

-- 2001:DB8::/32
abbrev documentation : Range
documentation = record { address = V6 42540766411282592856903984951653826560; prefix_len = 32 }

-- the prefix of RFC 3849 has 2001:DB8::8:800:200C:417A and not FF01::101, both of RFC 4291, section 2.2
pub record AreDocumentation : Type 0 where
  pub unicast : matcher_holds (Address DirectRemote documentation)
      (from (V6 42540766411282592856906245548098208122)) ≡ true
  pub multicast : matcher_holds (Address DirectRemote documentation)
      (from (V6 338958331222012082418099330867817087233)) ≡ false
  pub next : matcher_holds (Address DirectRemote documentation)
      (from (V6 42540766490510755371168322545197776896)) ≡ false
  pub other_family : matcher_holds (Address DirectRemote documentation) (from (V4 167772160)) ≡ false

pub of_documentation : AreDocumentation
of_documentation = record { unicast = refl; multicast = refl; next = refl; other_family = refl }

-- ports from 80 on below 90
abbrev eighties : PortSpan ℕ
eighties = record { start = 80; end = 90 }

-- start is in, end is not: Envoy v3 `type/v3/range.proto`, Int32Range
pub record ArePorts : Type 0 where
  pub start : matcher_holds (PortRange eighties) (to 80) ≡ true
  pub last : matcher_holds (PortRange eighties) (to 89) ≡ true
  pub behind : matcher_holds (PortRange eighties) (to 90) ≡ false

pub ports : ArePorts
ports = record { start = refl; last = refl; behind = refl }

abbrev data_path : RequestValue
data_path = request (codes "GET") (codes "/data#fragment?param=value") (facts None 443 None None)

-- the path is without query and fragment: Envoy v3 `type/matcher/v3/path.proto`, PathMatcher
pub path_of_data : matcher_holds (UrlPath (seeks Exact (codes "/data"))) data_path ≡ true
path_of_data = refl

-- the two names of a certificate
abbrev uri : List ℕ
uri = codes "cluster.local/ns/default/sa/admin"

abbrev dns : List ℕ
dns = codes "admin.example.com"

abbrev named : List ℕ → Option (List ℕ) → Option (List ℕ) → Type 0
named name u d = matcher_holds (Authenticated (Some (seeks Exact name))) (by u d) ≡ true

-- URI SAN, DNS SAN, subject, in that order: Envoy v3 `config/rbac/v3/rbac.proto`, `principal_name`
pub record AreNames : Type 0 where
  pub by_uri : named uri (Some uri) (Some dns)
  pub by_dns : named dns None (Some dns)
  pub by_subject : named (codes "CN=client") None None
  pub uri_before_dns : matcher_holds (Authenticated (Some (seeks Exact dns))) (by (Some uri) (Some dns))
      ≡ false

pub names : AreNames
names = record { by_uri = refl; by_dns = refl; by_subject = refl; uri_before_dns = refl }

-- ---- rules

abbrev method_is_get : HeaderTest
method_is_get = record {
  name = codes ":method";
  specifier = Text (seeks Exact (codes "GET"));
  invert_match = false;
  treat_missing_header_as_empty = false;
}

-- the permission of the policy `product-viewer`
abbrev product_viewer : Formula
product_viewer = and_of (formula (leaf (Header method_is_get))
    (formula (leaf (UrlPath (seeks Prefix (codes "/products"))))
    (formula (or_of (formula (leaf (Port 80)) (formula (leaf (Port 443)) end))) end)))

-- a request with this method for this target, to this port
abbrev visit : (method target : List ℕ) → ℕ → RequestValue
visit method target port = request method target (facts None port None None)

-- any user reads at paths with the prefix `/products`, at port 80 or 443: the same file, RBAC
pub record AreReaders : Type 0 where
  pub at_80 : holds (visit (codes "GET") (codes "/products") 80) product_viewer ≡ true
  pub at_443 : holds (visit (codes "GET") (codes "/products/7?view=all") 443) product_viewer ≡ true
  pub writes : holds (visit (codes "POST") (codes "/products") 443) product_viewer ≡ false
  pub elsewhere : holds (visit (codes "GET") (codes "/users?/products") 443) product_viewer ≡ false
  pub other_port : holds (visit (codes "GET") (codes "/products") 8080) product_viewer ≡ false

pub readers : AreReaders
readers = record {
  at_80 = rw (method_is (codes "GET") (codes "/products") (facts None 80 None None)) refl;
  at_443 = rw (method_is (codes "GET") (codes "/products/7?view=all") (facts None 443 None None)) refl;
  writes = rw (method_is (codes "POST") (codes "/products") (facts None 443 None None)) refl;
  elsewhere = rw (method_is (codes "GET") (codes "/users?/products") (facts None 443 None None)) refl;
  other_port = rw (method_is (codes "GET") (codes "/products") (facts None 8080 None None)) refl;
}

-- ---- a message

-- the UInt32Value 8
abbrev length_bytes : List ℕ
length_bytes = 8 ∷ 8 ∷ []

-- the CidrRange of the address 10.0.0.0 and that prefix_len
abbrev range_bytes : List ℕ
range_bytes = 10 ∷ 8 ∷ (codes "10.0.0.0" ++ 18 ∷ 2 ∷ length_bytes)

-- the Permission whose destination_ip it is
abbrev pub permission_bytes : List ℕ
permission_bytes = 42 ∷ 14 ∷ range_bytes

abbrev length_fields : List Wire
length_fields = field 1 (varint 8) ∷ []

abbrev range_fields : List Wire
range_fields = field 1 (len (codes "10.0.0.0")) ∷ field 2 (len length_bytes) ∷ []

abbrev permission_fields : List Wire
permission_fields = field 5 (len range_bytes) ∷ []

length_is : Fields length_bytes length_fields
length_is = ([], varint_starts 1 8 [] (omega arith) (omega arith) (omega arith), refl)

range_is : Fields range_bytes range_fields
range_is = (
  18 ∷ 2 ∷ length_bytes,
  len_starts 1 (codes "10.0.0.0") (18 ∷ 2 ∷ length_bytes) (omega arith) (omega arith) (omega arith),
  ([], len_starts 2 length_bytes [] (omega arith) (omega arith) (omega arith), refl),
)

permission_is : Fields permission_bytes permission_fields
permission_is = ([], len_starts 5 range_bytes [] (omega arith) (omega arith) (omega arith), refl)

address_reads : IsUtf8 (codes "10.0.0.0")
unfolding lib.Utf8.encode
address_reads = (codes "10.0.0.0", (refl, refl))

address_is : IsIpText (codes "10.0.0.0") (V4 167772160)
unfolding digits ipv4_bits
address_is = (
  record { octets = 10 ∷ 0 ∷ 0 ∷ 0 ∷ [] },
  record {
    a = 10;
    b = 0;
    c = 0;
    d = 0;
    fit = (lit< tt, lit< tt, lit< tt, lit< tt);
    value = refl;
    spelled = refl;
  },
  refl,
)

is_ten : IsCidr (range_bytes ∷ []) ten
is_ten = (
  range_fields,
  (merged range_bytes range_fields range_is, refl),
  address_reads,
  address_is,
  (length_fields, (merged length_bytes length_fields length_is, refl), refl),
  omega arith,
)

-- its bytes as an encoder writes them say it: Envoy v3 `config/rbac/v3/rbac.proto`, `destination_ip`
pub is_permission : IsRule Permission 1 (permission_bytes ∷ []) (leaf (Address Destination ten))
is_permission = (
  permission_fields,
  (merged permission_bytes permission_fields permission_is, refl),
  (Address Destination ten, (ten, is_ten, refl), refl),
)
