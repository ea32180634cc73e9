-- The payloads of a range of addresses are one, or have a fault, never both; and they mean one range at most.
use Rattle.std.proofs.Common.{◌≡◌, ℕ, ◌⊎◌, inl, inr, List, IsUtf8, refl, sym, ap, ◌∙◌, subst, arith}
use Rattle.std.proofs.lemmas.Bool.{cases_lt}
use Rattle.attributes.specs.Address.{IsIpText, Range, width_of}
use Rattle.attributes.specs.declared.address.Ip.{Ip}
use Rattle.proto_wire.specs.Reading.{in_fields, lacking, in_values}
use Rattle.proto_wire.specs.Values.{uint32_at, payloads, bytes_at}
use Rattle.proto_wire.specs.Fields.{Wire}
use Rattle.proto_wire.specs.Merge.{Merges}
use Rattle.proto_wire.specs.Messages.{IsMessage, MessageFault}
use Rattle.proto_wire.proofs.Unique.{merges_unique}
use Rattle.proto_wire.proofs.Messages.{message_total, message_disjoint}
use Rattle.proto_wire.specs.declared.refusal.Refusal.{Refusal}
use Rattle.proto_wire.specs.declared.refusal.Refusal.TheVariants.{BadText, OutOfRange}
use Rattle.rbac_match.specs.Cidr.{cidr_field, uint32_field, cidr_keys, uint32_keys, IsCidr, AddressFault, CidrFault, in_address, in_length, too_long}
use Rattle.rbac_match.proofs.Basics.{utf8_total}
use Rattle.attributes.proofs.OneAddress.{one_address}
use Rattle.rbac_match.proofs.AddressTexts.{ip_total}

-- of a message whose fields are known, and whose address is spelled
module _ (parts : List (List ℕ)) (fs : List Wire) (message : IsMessage cidr_keys parts fs) where
  length_settles : IsUtf8 (bytes_at cidr_field.address_prefix fs) → (ip : Ip) → IsIpText (bytes_at cidr_field.address_prefix fs) ip
      → ((range : Range) × IsCidr parts range) ⊎ ((e : Refusal) × CidrFault parts e)
  length_settles utf8 ip spelled = elim (message_total uint32_keys (payloads cidr_field.prefix_len fs)) [
    | inr bad ↦ inr (bad.0, in_values fs message.0 (in_length bad.1))
    | inl (ls, length) ↦ elim (cases_lt (width_of ip) (uint32_at uint32_field.value ls)) [
      | inl long ↦ inr (OutOfRange, in_values fs message.0 (too_long ls ip spelled length.0 long refl))
      | inr within ↦ inl (record { address = ip; prefix_len = uint32_at uint32_field.value ls }, (fs, message, utf8, spelled, (ls, length, refl), within))
    ]
  ]

  address_settles : ((range : Range) × IsCidr parts range) ⊎ ((e : Refusal) × CidrFault parts e)
  address_settles = elim (utf8_total (bytes_at cidr_field.address_prefix fs)) [
    | inr not_utf8 ↦ inr (BadText, in_values fs message.0 (in_address (inl (not_utf8, refl))))
    | inl utf8 ↦ elim (ip_total (bytes_at cidr_field.address_prefix fs)) [
      | inr none ↦ inr (OutOfRange, in_values fs message.0 (in_address (inr (refl, utf8, none))))
      | inl (ip, spelled) ↦ length_settles utf8 ip spelled
    ]
  ]

-- a range, or a fault
pub cidr_total : (parts : List (List ℕ))
    → ((range : Range) × IsCidr parts range) ⊎ ((e : Refusal) × CidrFault parts e)
cidr_total parts = elim (message_total cidr_keys parts) [
  | inr bad ↦ inr (bad.0, in_fields bad.1)
  | inl (fs, message) ↦ address_settles parts fs message
]

-- not both
pub cidr_disjoint : (parts : List (List ℕ)) (range : Range) (e : Refusal) → IsCidr parts range
    → CidrFault parts e → ⊥
cidr_disjoint parts range e (fs, message, utf8, spelled, length, within) (in_fields bad) = message_disjoint cidr_keys parts fs e message bad
cidr_disjoint parts range e (fs, message, utf8, spelled, length, within) (lacking gs also none is) = absurd none
cidr_disjoint parts range e (fs, message, utf8, spelled, length, within) (in_values gs merged (in_address bad)) =
    let P : List Wire → Type 0 = λ xs. AddressFault (bytes_at cidr_field.address_prefix xs) e in
    elim (subst P (merges_unique parts gs fs merged message.0) bad) [
      | inl not_text ↦ not_text.0 utf8
      | inr none ↦ none.2 range.address spelled
    ]
cidr_disjoint parts range e (fs, message, utf8, spelled, length, within) (in_values gs merged (in_length bad)) =
    let P : List Wire → Type 0 = λ xs. MessageFault uint32_keys (payloads cidr_field.prefix_len xs) e in
    message_disjoint uint32_keys (payloads cidr_field.prefix_len fs) length.0 e length.1 (subst P (merges_unique parts gs fs merged message.0) bad)
cidr_disjoint parts range e (fs, message, utf8, spelled, length, within) (in_values gs merged (too_long ls ip also joined long is)) =
    let same : gs ≡ fs = merges_unique parts gs fs merged message.0 in
    let P : List Wire → Type 0 = λ xs. IsIpText (bytes_at cidr_field.address_prefix xs) ip in
    let Q : List Wire → Type 0 = λ xs. Merges (payloads cidr_field.prefix_len xs) ls in
    let address : ip ≡ range.address = one_address (bytes_at cidr_field.address_prefix fs) ip range.address (subst P same also) spelled in
    let one : ls ≡ length.0 = merges_unique (payloads cidr_field.prefix_len fs) ls length.0 (subst Q same joined) length.1.0 in
    omega (arith, ap width_of address, ap (uint32_at uint32_field.value) one, length.2)

-- one range at most
pub cidr_unique : (parts : List (List ℕ)) (v w : Range) → IsCidr parts v → IsCidr parts w → v ≡ w
cidr_unique parts v w (fs, message, utf8, spelled, length, within) (gs, also, utf8', spelled', length', within') =
    let same : gs ≡ fs = merges_unique parts gs fs also.0 message.0 in
    let P : List Wire → Type 0 = λ xs. IsIpText (bytes_at cidr_field.address_prefix xs) w.address in
    let Q : List Wire → Type 0 = λ xs. IsMessage uint32_keys (payloads cidr_field.prefix_len xs) length'.0 in
    let address : v.address ≡ w.address = one_address (bytes_at cidr_field.address_prefix fs) v.address w.address spelled (subst P same spelled') in
    let one : length.0 ≡ length'.0 = merges_unique (payloads cidr_field.prefix_len fs) length.0 length'.0 length.1.0 (subst Q same length'.1).0 in
    let prefix_len : v.prefix_len ≡ w.prefix_len = length.2 ∙ ap (uint32_at uint32_field.value) one ∙ sym length'.2 in
    λ i. record { address = address i; prefix_len = prefix_len i }
