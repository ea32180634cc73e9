-- A text spells an address or none.
use Rattle.std.proofs.Common.{◌≡◌, ℕ, false, List, [], ◌∷◌, ◌++◌, Option, Some, None, ◌⊎◌, inl, inr, refl, sym, subst, ◌∙◌, append-nil}
use Rattle.std.specs.Net.Addr.{ipv4_bits, ipv6_bits}
use Rattle.std.specs.Net.Grammar.{IsColonHex, IsDotted}
use Rattle.std.specs.Net.Reader.{read_ipv4, read_ipv6}
use Rattle.std.specs.declared.net.ipv4_addr.Ipv4Addr.{Ipv4Addr}
use Rattle.std.specs.declared.net.ipv6_addr.Ipv6Addr.{Ipv6Addr}
use Rattle.std.proofs.NetLemmas.Ipv4.{read_ipv4_sound}
use Rattle.std.proofs.NetLemmas.Ipv6.{read_ipv6_sound}
use Rattle.std.proofs.NetLemmas.Options.{same_parts}
use Rattle.std.proofs.lemmas.Bool.{cases_Bool}
use Rattle.attributes.specs.Address.{IsIpText, has_dot}
use Rattle.attributes.specs.declared.address.Ip.{Ip}
use Rattle.attributes.specs.declared.address.Ip.TheVariants.{V4, V6}
use Rattle.attributes.proofs.OneAddress.{dotted_read, groups_read}

-- a text is spelled by a grammar or not, where it is read to its end if it is
module _ (Spells : List ℕ → List ℕ → Type 0) (text : List ℕ) (read : Option (List ℕ × List ℕ))
    (sound : (values rest : List ℕ) → read ≡ Some (values, rest)
    → (front : List ℕ) × (text ≡ front ++ rest) × Spells front values)
    (complete : (values : List ℕ) → Spells text values → read ≡ Some (values, [])) where
  by_read : (o : Option (List ℕ × List ℕ)) → read ≡ o
      → ((values : List ℕ) × Spells text values) ⊎ ((values : List ℕ) → ¬ (Spells text values))
  by_read None is = inr (λ values spells. let clash = complete values spells in cc (is, clash))
  by_read (Some (values, [])) is =
      let found = sound values [] is in
      inl (values, subst (λ t. Spells t values) (sym (found.1 ∙ append-nil found.0)) found.2)
  by_read (Some (values, b ∷ rest)) is =
      inr (λ others spells. let clash = complete others spells in
      let left : (b ∷ rest) ≡ [] = (same_parts values others (b ∷ rest) [] (sym is ∙ clash)).1 in
      cc left)

dotted_total : (text : List ℕ) → ((octets : List ℕ) × IsDotted text octets) ⊎ ((octets : List ℕ) → ¬ (IsDotted text octets))
dotted_total text =
    by_read IsDotted text (read_ipv4 text) (λ octets rest is. read_ipv4_sound text octets rest is) (dotted_read text)
    (read_ipv4 text) refl

groups_total : (text : List ℕ) → ((groups : List ℕ) × IsColonHex text groups) ⊎ ((groups : List ℕ) → ¬ (IsColonHex text groups))
groups_total text =
    by_read IsColonHex text (read_ipv6 text) (λ groups rest is. read_ipv6_sound text groups rest is) (groups_read text)
    (read_ipv6 text) refl

-- a text that spells neither form spells none
neither : (text : List ℕ) → ((octets : List ℕ) → ¬ (IsDotted text octets))
    → (has_dot text ≡ false → (groups : List ℕ) → ¬ (IsColonHex text groups)) → (ip : Ip) → ¬ (IsIpText text ip)
neither text no_dots no_groups (V4 n) (a, four, is) = no_dots a.octets four
neither text no_dots no_groups (V6 n) (a, eight, none, is) = no_groups none a.segments eight

pub address_total : (text : List ℕ) → ((ip : Ip) × IsIpText text ip) ⊎ ((ip : Ip) → ¬ (IsIpText text ip))
address_total text = elim (dotted_total text) [
  | inl (octets, four) ↦
      let a : Ipv4Addr = record { octets = octets } in inl (V4 (ipv4_bits a), (a, four, refl))
  | inr no_dots ↦ elim (cases_Bool (has_dot text)) [
    | inl dot ↦ inr (neither text no_dots (λ none groups eight. cc (dot, none)))
    | inr none ↦ elim (groups_total text) [
      | inl (groups, eight) ↦
          let a : Ipv6Addr = record { segments = groups } in inl (V6 (ipv6_bits a), (a, eight, none, refl))
      | inr no_groups ↦ inr (neither text no_dots (λ dotless. no_groups))
    ]
  ]
]
