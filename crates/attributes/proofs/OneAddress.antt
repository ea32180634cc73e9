-- A text spells at most one address.
use Rattle.std.proofs.Common.{◌≡◌, ℕ, ◌↔◌, false, List, [], Option, Some, None, MatchOption, refl, sym, ap, ◌∙◌, append-nil, lit≤}
use Rattle.std.specs.Net.Addr.{ipv4_bits, ipv6_bits}
use Rattle.std.specs.Net.Grammar.{IsColonHex, IsDotted, IsIpv4Text}
use Rattle.std.specs.Net.Reader.{read_ipv4, read_ipv6}
use Rattle.std.specs.declared.net.ipv4_addr.Ipv4Addr.{Ipv4Addr}
use Rattle.std.specs.declared.net.ipv6_addr.Ipv6Addr.{Ipv6Addr}
use Rattle.std.proofs.NetLemmas.Options.{same_parts}
use Rattle.std.proofs.NetLemmas.Ipv4.{read_ipv4_complete}
use Rattle.std.proofs.NetLemmas.Ipv6.{read_ipv6_complete, EndsGroups-nil}
use Rattle.attributes.specs.Address.{IsIpText, has_dot}
use Rattle.attributes.specs.declared.address.Ip.{Ip}
use Rattle.attributes.specs.declared.address.Ip.TheVariants.{V4, V6}
use Rattle.attributes.proofs.AddressText.{has_dot_dotted}

-- four numbers are read as they are, to the end of the text
pub dotted_read : (text octets : List ℕ) → IsDotted text octets → read_ipv4 text ≡ Some (octets, [])
dotted_read text octets h =
    ap read_ipv4 (sym (append-nil text)) ∙ read_ipv4_complete text octets [] h (lit≤ tt)

-- eight groups likewise
pub groups_read : (text groups : List ℕ) → IsColonHex text groups
    → read_ipv6 text ≡ Some (groups, [])
groups_read text groups h =
    ap read_ipv6 (sym (append-nil text)) ∙ read_ipv6_complete text groups [] h EndsGroups-nil

-- a text without a dot has no four numbers
dot_or_not : (text : List ℕ) (a : Ipv4Addr) → IsIpv4Text text a → has_dot text ≡ false → ⊥
dot_or_not text a four dotless = cc (has_dot_dotted text a.octets four, dotless)

-- a text spells one address
pub one_address : (text : List ℕ) (a b : Ip) → IsIpText text a → IsIpText text b → a ≡ b
one_address text (V4 m) (V4 n) (a, one, m_is) (b, two, n_is) =
    let same : a.octets ≡ b.octets =
    (same_parts _ _ _ _ (sym (dotted_read text a.octets one) ∙ dotted_read text b.octets two)).0 in
    let make : List ℕ → Ipv4Addr = λ octets. record { octets = octets } in
    ap V4 (m_is ∙ ap (λ octets. ipv4_bits (make octets)) same ∙ sym n_is)
one_address text (V6 m) (V6 n) (a, one, none, m_is) (b, two, none_too, n_is) =
    let same : a.segments ≡ b.segments =
    (same_parts _ _ _ _ (sym (groups_read text a.segments one) ∙ groups_read text b.segments two)).0 in
    let make : List ℕ → Ipv6Addr = λ segments. record { segments = segments } in
    ap V6 (m_is ∙ ap (λ segments. ipv6_bits (make segments)) same ∙ sym n_is)
one_address text (V4 m) (V6 n) a b = absurd (dot_or_not text a.0 a.1 b.2)
one_address text (V6 m) (V4 n) a b = absurd (dot_or_not text b.0 b.1 a.2)

-- what is read where the text spells it, and nothing where it spells none, is exactly the address
-- of the text
pub exactly_read : (text : List ℕ) (r : Option Ip)
    → MatchOption r ((ip : Ip) → ¬ (IsIpText text ip)) (IsIpText text)
    → (ip : Ip) → (r ≡ Some ip) ↔ IsIpText text ip
exactly_read text None h ip = ((λ e. cc), λ spelled. absurd (h ip spelled))
exactly_read text (Some a) h ip = (
  (λ e. let same : a ≡ ip = cc in rw same at h),
  λ spelled. ap Some (one_address text a ip h spelled),
)

-- and so it is what the text spells, or the text spells none
pub read_or_none : (text : List ℕ) (r : Option Ip)
    → ((ip : Ip) → (r ≡ Some ip) ↔ IsIpText text ip)
    → MatchOption r ((ip : Ip) → ¬ (IsIpText text ip)) (IsIpText text)
read_or_none text None exact = λ ip spelled. let clash : None ≡ Some ip = (exact ip).1 spelled in cc
read_or_none text (Some a) exact = (exact a).0 refl
