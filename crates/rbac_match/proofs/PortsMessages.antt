-- A port's run and the payloads of a range of ports are one or have a fault, never both; and they mean one at most.
use Rattle.std.proofs.Common.{◌≡◌, ℕ, ℤ, pos, negsuc, ◌⊎◌, inl, inr, List, refl, sym, ◌∙◌, subst, arith}
use Rattle.std.proofs.lemmas.Bool.{cases_lt}
use Rattle.std.proofs.lemmas.Int.{ints}
use Rattle.proto_wire.specs.Reading.{in_fields, lacking, in_values}
use Rattle.proto_wire.specs.Values.{uint32_at, int32_at}
use Rattle.proto_wire.specs.Fields.{Wire}
use Rattle.proto_wire.proofs.Unique.{merges_unique}
use Rattle.proto_wire.proofs.Messages.{message_total, message_disjoint}
use Rattle.proto_wire.specs.declared.refusal.Refusal.{Refusal}
use Rattle.proto_wire.specs.declared.refusal.Refusal.TheVariants.{OutOfRange}
use Rattle.std.specs.declared.ops.Range.{Range}
use Rattle.rbac_match.specs.Message.{range_field, range_keys}
use Rattle.rbac_match.specs.Ports.{IsDestinationPort, PortFault, AreBounds, IsPortRange, PortRangeFault}
use Rattle.rbac_match.specs.private.Ports.{AreNoBounds}

-- a run says a port, or a number that is none
pub port_total : (n : ℕ) (run : List Wire) → ((port : ℕ) × IsDestinationPort n run port) ⊎ ((e : Refusal) × PortFault n run e)
port_total n run = elim (cases_lt 65535 (uint32_at n run)) [
  | inl above ↦ inr (OutOfRange, (above, refl))
  | inr within ↦ inl (uint32_at n run, (refl, within))
]

-- not both
pub port_disjoint : (n : ℕ) (run : List Wire) (port : ℕ) (e : Refusal) → IsDestinationPort n run port → PortFault n run e → ⊥
port_disjoint n run port e is bad = omega (arith, is.0, is.1, bad.0)

-- and one at most
pub port_unique : (n : ℕ) (run : List Wire) (p q : ℕ) → IsDestinationPort n run p → IsDestinationPort n run q → p ≡ q
port_unique n run p q a b = a.0 ∙ sym b.0

-- two bounds are those of some ports, or of none
bounds_total : (fs : List Wire) (s e : ℤ) → int32_at range_field.start fs ≡ s → int32_at range_field.end fs ≡ e
    → ((span : Range ℕ) × AreBounds fs span) ⊎ AreNoBounds fs
bounds_total fs (negsuc m) e start end = inr (inl (omega (arith, ints, start)))
bounds_total fs (pos m) (negsuc n) start end = inr (inr (inr (omega (arith, ints, start, end))))
bounds_total fs (pos m) (pos n) start end = elim (cases_lt 65536 n) [
  | inl above ↦ inr (inr (inl (omega (arith, ints, end, above))))
  | inr within ↦ elim (cases_lt m n) [
    | inl some ↦ inl (record { start = m; end = n }, (start, end, some, within))
    | inr none ↦ inr (inr (inr (omega (arith, ints, start, end, none))))
  ]
]

-- never both
pub bounds_disjoint : (fs : List Wire) (span : Range ℕ) → AreBounds fs span → AreNoBounds fs → ⊥
bounds_disjoint fs span are (inl below) = omega (arith, ints, are.0, below)
bounds_disjoint fs span are (inr (inl above)) = omega (arith, ints, are.1, are.3, above)
bounds_disjoint fs span are (inr (inr none)) = omega (arith, ints, are.0, are.1, are.2, none)

-- a range of ports, or a fault
pub port_range_total : (parts : List (List ℕ))
    → ((span : Range ℕ) × IsPortRange parts span) ⊎ ((e : Refusal) × PortRangeFault parts e)
port_range_total parts = elim (message_total range_keys parts) [
  | inr bad ↦ inr (bad.0, in_fields bad.1)
  | inl (fs, message) ↦ elim (bounds_total fs _ _ refl refl) [
    | inl some ↦ inl (some.0, (fs, message, some.1))
    | inr none ↦ inr (OutOfRange, in_values fs message.0 ((λ span are. bounds_disjoint fs span are none), refl))
  ]
]

-- not both
pub port_range_disjoint : (parts : List (List ℕ)) (span : Range ℕ) (e : Refusal) → IsPortRange parts span
    → PortRangeFault parts e → ⊥
port_range_disjoint parts span e (fs, message, are) (in_fields bad) = message_disjoint range_keys parts fs e message bad
port_range_disjoint parts span e (fs, message, are) (lacking gs also none is) = absurd none
port_range_disjoint parts span e (fs, message, are) (in_values gs merged (none, is)) =
    none span (subst (λ xs. AreBounds xs span) (sym (merges_unique parts gs fs merged message.0)) are)

-- one range at most
pub port_range_unique : (parts : List (List ℕ)) (v w : Range ℕ) → IsPortRange parts v → IsPortRange parts w
    → v ≡ w
port_range_unique parts v w (fs, message, are) (gs, also, are') =
    let same : gs ≡ fs = merges_unique parts gs fs also.0 message.0 in
    let others : AreBounds fs w = (let P : List Wire → Type 0 = λ xs. AreBounds xs w in subst P same are') in
    let start : v.start ≡ w.start = omega (arith, ints, are.0, others.0) in
    let end : v.end ≡ w.end = omega (arith, ints, are.1, others.1) in
    λ i. record { start = start i; end = end i }
