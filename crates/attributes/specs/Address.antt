-- IP addresses as text and as numbers: RFC 4291 sections 2.2, 2.3 and 2.5.5.2, RFC 4632 section 3.1
-- (ranges). IPv4 is as in RFC 3986 section 3.2.2.
use Rattle.std.specs.Prelude.{◌≡◌, ℕ, ◌-◌, ◌/◌, ◌%◌, ◌^◌, ◌<◌, List, Bool, false, ◌==◌, if◌then◌else◌}
use Rattle.std.specs.List.{list_any}
use Rattle.std.specs.Net.Addr.{ipv4_bits, ipv6_bits}
use Rattle.std.specs.Net.Grammar.{IsIpv4Text, IsIpv6Text}
use Rattle.std.specs.declared.net.ipv4_addr.Ipv4Addr.{Ipv4Addr}
use Rattle.std.specs.declared.net.ipv6_addr.Ipv6Addr.{Ipv6Addr}
use Rattle.attributes.specs.declared.address.Ip.{Ip}
use Rattle.attributes.specs.declared.address.Ip.TheVariants.{V4, V6}

-- the text has a dot (46)
abbrev pub has_dot : List ℕ → Bool
has_dot text = list_any (λ b. b == 46) text

-- the text spells the address: four decimal numbers with dots, or eight groups with colons. The
-- last two groups are not written as four numbers with dots
abbrev pub IsIpText : List ℕ → Ip → Type 0
IsIpText text (V4 n) = (a : Ipv4Addr) × IsIpv4Text text a × (n ≡ ipv4_bits a)
IsIpText text (V6 n) =
    (a : Ipv6Addr) × IsIpv6Text text a × (has_dot text ≡ false) × (n ≡ ipv6_bits a)

-- the address in one form: an IPv4 address that is written as one of IPv6 is one of IPv4. Such an
-- address of IPv6 begins with 80 bits 0 and 16 bits 1
abbrev pub unmapped : Ip → Ip
unmapped (V4 n) = V4 n
unmapped (V6 n) = if n / 2 ^ 32 == 65535 then V4 (n % 2 ^ 32) else V6 n

-- the number of bits of an address, by its family
abbrev pub width_of : Ip → ℕ
width_of (V4 n) = 32
width_of (V6 n) = 128

-- the address is below 2^32 or 2^128, by its family
abbrev pub IsAddress : Ip → Type 0
IsAddress (V4 n) = n < 2 ^ 32
IsAddress (V6 n) = n < 2 ^ 128

-- whether the addresses are of one family and have their first `prefix_len` bits in common
abbrev pub share_prefix : ℕ → Ip → Ip → Bool
share_prefix prefix_len (V4 a) (V4 b) = a / 2 ^ (32 - prefix_len) == b / 2 ^ (32 - prefix_len)
share_prefix prefix_len (V6 a) (V6 b) = a / 2 ^ (128 - prefix_len) == b / 2 ^ (128 - prefix_len)
share_prefix prefix_len a b = false

-- an address range: an address and how many of its first bits count
pub record Range : Type 0 where
  pub address : Ip
  pub prefix_len : ℕ
