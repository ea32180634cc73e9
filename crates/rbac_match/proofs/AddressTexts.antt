-- A text spells one address or none.
use Rattle.std.proofs.Common.{◌≡◌, ℕ, ◌⊎◌, inl, inr, true, false, List, [], ◌∷◌, Option, Some, None, refl, sym, ◌∙◌, subst, append-nil}
use Rattle.std.specs.Net.Addr.{ipv4_bits, ipv6_bits}
use Rattle.std.specs.Net.Grammar.{IsColonHex, IsDotted}
use Rattle.std.specs.Net.Reader.{read_ipv4, read_ipv6}
use Rattle.std.specs.declared.net.ipv4_addr.Ipv4Addr.{Ipv4Addr}
use Rattle.std.specs.declared.net.ipv6_addr.Ipv6Addr.{Ipv6Addr}
use Rattle.std.proofs.NetLemmas.Options.{same_parts}
use Rattle.std.proofs.NetLemmas.Ipv4.{read_ipv4_sound}
use Rattle.std.proofs.NetLemmas.Ipv6.{read_ipv6_sound}
use Rattle.attributes.specs.Address.{IsIpText, has_dot}
use Rattle.attributes.specs.declared.address.Ip.{Ip}
use Rattle.attributes.specs.declared.address.Ip.TheVariants.{V4, V6}
use Rattle.attributes.proofs.OneAddress.{dotted_read, groups_read}
use Rattle.attributes.proofs.AddressText.{has_dot_dotted}

-- a text with a dot that is not four numbers spells nothing
no_dotted : (text : List ℕ) → has_dot text ≡ true
    → ((octets : List ℕ) → read_ipv4 text ≡ Some (octets, []) → ⊥) → (ip : Ip) → IsIpText text ip → ⊥
no_dotted text dot never (V4 n) (a, four, is) = never a.octets (dotted_read text a.octets four)
no_dotted text dot never (V6 n) (a, eight, none, is) = cc (dot, none)

-- nor does one without that is not groups
no_groups : (text : List ℕ) → has_dot text ≡ false
    → ((groups : List ℕ) → read_ipv6 text ≡ Some (groups, []) → ⊥) → (ip : Ip) → IsIpText text ip → ⊥
no_groups text none never (V4 n) (a, four, is) = cc (none, has_dot_dotted text a.octets four)
no_groups text none never (V6 n) (a, eight, dotless, is) = never a.segments (groups_read text a.segments eight)

-- what leaves a rest is no reading of the whole
leaves : (read : Option (List ℕ × List ℕ)) (value whole : List ℕ) (c : ℕ) (rest : List ℕ)
    → read ≡ Some (value, c ∷ rest) → read ≡ Some (whole, []) → ⊥
leaves read value whole c rest a b = let empty : c ∷ rest ≡ [] = (same_parts _ _ _ _ (sym a ∙ b)).1 in cc

-- a text with a dot, by what reading four numbers comes to
with_dot : (text : List ℕ) → has_dot text ≡ true → (read : Option (List ℕ × List ℕ))
    → read_ipv4 text ≡ read → ((ip : Ip) × IsIpText text ip) ⊎ ((ip : Ip) → ¬ IsIpText text ip)
with_dot text dot None is = inr (no_dotted text dot (λ octets e. cc))
with_dot text dot (Some (octets, [])) is =
    let (front, split, spelled) = read_ipv4_sound text octets [] is in
    let P : List ℕ → Type 0 = λ t. IsDotted t octets in
    let a : Ipv4Addr = record { octets = octets } in
    inl (V4 (ipv4_bits a), (a, subst P (sym (split ∙ append-nil front)) spelled, refl))
with_dot text dot (Some (octets, c ∷ rest)) is = inr (no_dotted text dot (λ whole e. leaves _ octets whole c rest is e))

-- and one without, by what reading groups comes to
without_dot : (text : List ℕ) → has_dot text ≡ false → (read : Option (List ℕ × List ℕ))
    → read_ipv6 text ≡ read → ((ip : Ip) × IsIpText text ip) ⊎ ((ip : Ip) → ¬ IsIpText text ip)
without_dot text none None is = inr (no_groups text none (λ groups e. cc))
without_dot text none (Some (groups, [])) is =
    let (front, split, spelled) = read_ipv6_sound text groups [] is in
    let P : List ℕ → Type 0 = λ t. IsColonHex t groups in
    let a : Ipv6Addr = record { segments = groups } in
    inl (V6 (ipv6_bits a), (a, subst P (sym (split ∙ append-nil front)) spelled, none, refl))
without_dot text none (Some (groups, c ∷ rest)) is = inr (no_groups text none (λ whole e. leaves _ groups whole c rest is e))

-- a text spells an address, or none
pub ip_total : (text : List ℕ) → ((ip : Ip) × IsIpText text ip) ⊎ ((ip : Ip) → ¬ IsIpText text ip)
ip_total text = elim (has_dot text) as (λ b. has_dot text ≡ b → ((ip : Ip) × IsIpText text ip) ⊎ ((ip : Ip) → ¬ IsIpText text ip)) [
  | true ↦ λ dot. with_dot text dot _ refl
  | false ↦ λ none. without_dot text none _ refl
] refl
