-- The payloads of a Reference are one or have a fault, never both, and are one reference at most.
use Rattle.std.proofs.Common.{◌≡◌, ◌<◌, ◌⊎◌, inl, inr, ℕ, List, [], ◌∷◌, Contains, arith, refl, sym, subst, ◌∙◌}
use Rattle.std.specs.List.{AllByRecursion}
use Rattle.std.specs.Str.{IsUtf8}
use Rattle.proto_wire.specs.Fields.{Wire}
use Rattle.proto_wire.specs.Values.{bytes_at, payloads, Utf8Fault}
use Rattle.proto_wire.specs.declared.refusal.Refusal.{Refusal}
use Rattle.proto_wire.specs.declared.refusal.Refusal.TheVariants.{BadText}
use Rattle.cel_value.specs.Texts.{points_of}
use Rattle.cel_tree.specs.Checked.{CelReference}
use Rattle.cel_tree.specs.Constants.{IsConstant, ConstantFault}
use Rattle.proto_wire.specs.Reading.{Never}
use Rattle.proto_wire.specs.private.Values.{ValuesFault}
use Rattle.cel_tree.specs.References.{reference_field, reference_keys, ReferenceSays, ReferenceWrong, bad_name, bad_id, in_value, IsReference, ReferenceFault}
use Rattle.proto_wire.proofs.OptionalLaws.{optional_total, optional_disjoint, optional_unique}
use Rattle.cel_read.proofs.Basics.{utf8_total, contains_first, contains_later, contains_cases}
use Rattle.cel_read.proofs.ConstantLaws.{constant_total, constant_disjoint, constant_unique}
use Rattle.proto_wire.proofs.ReadingLaws.{reads_total, reads_disjoint, reads_unique}

texts_total : (texts : List (List ℕ))
    → AllByRecursion IsUtf8 texts ⊎ ((id : List ℕ) × Contains texts id × Utf8Fault id BadText)
texts_total [] = inl tt
texts_total (t ∷ texts) = elim (utf8_total t) [
  | inr other ↦ inr (t, contains_first t texts, (other, refl))
  | inl utf8 ↦ elim (texts_total texts) [
    | inl all ↦ inl (utf8, all)
    | inr (id, here, bad) ↦ inr (id, contains_later t id texts here, bad)
  ]
]

texts_disjoint : (texts : List (List ℕ)) (id : List ℕ) → AllByRecursion IsUtf8 texts → Contains texts id
    → ¬ (IsUtf8 id) → ⊥
texts_disjoint [] id all here bad = let lt : here.0 < 0 = here.1 in absurd (omega arith)
texts_disjoint (t ∷ texts) id all here bad = elim (contains_cases t id texts here) [
  | inl same ↦ bad (subst IsUtf8 same all.0)
  | inr later ↦ texts_disjoint texts id all.1 later bad
]

says_total : (fs : List Wire) → ((r : CelReference) × ReferenceSays fs r)
    ⊎ ((e : Refusal) × ValuesFault Never ReferenceWrong fs e)
says_total fs = elim (utf8_total (bytes_at reference_field.name fs)) [
  | inr other ↦ inr (BadText, inr (bad_name (other, refl)))
  | inl utf8 ↦ elim (texts_total (payloads reference_field.overload_id fs)) [
    | inr (id, here, bad) ↦ inr (BadText, inr (bad_id id here bad))
    | inl ids ↦ elim (optional_total IsConstant ConstantFault constant_total reference_field.value fs) [
      | inr (e, bad) ↦ inr (e, inr (in_value bad))
      | inl (v, valued) ↦ inl (
        record { name = points_of (bytes_at reference_field.name fs); value = v },
        record { readable = utf8; ids = ids; named = refl; valued = valued },
      )
    ]
  ]
]

says_disjoint : (fs : List Wire) (r : CelReference) (e : Refusal) → ReferenceSays fs r
    → ValuesFault Never ReferenceWrong fs e → ⊥
says_disjoint fs r e says (inl none) = none.0
says_disjoint fs r e says (inr (bad_name bad)) = bad.0 says.readable
says_disjoint fs r e says (inr (bad_id id here bad)) =
    texts_disjoint (payloads reference_field.overload_id fs) id says.ids here bad.0
says_disjoint fs r e says (inr (in_value bad)) =
    optional_disjoint IsConstant ConstantFault constant_disjoint reference_field.value fs r.value e says.valued bad

says_unique : (fs : List Wire) (r s : CelReference) → ReferenceSays fs r → ReferenceSays fs s → r ≡ s
says_unique fs r s a b =
    let name : r.name ≡ s.name = a.named ∙ sym b.named in
    let value : r.value ≡ s.value = optional_unique IsConstant constant_unique reference_field.value fs r.value s.value a.valued b.valued in
    λ i. record { name = name i; value = value i }

pub reference_total : (parts : List (List ℕ))
    → ((r : CelReference) × IsReference parts r) ⊎ ((e : Refusal) × ReferenceFault parts e)
reference_total = reads_total reference_keys ReferenceSays Never ReferenceWrong says_total

pub reference_disjoint : (parts : List (List ℕ)) (r : CelReference) (e : Refusal) → IsReference parts r
    → ReferenceFault parts e → ⊥
reference_disjoint = reads_disjoint reference_keys ReferenceSays Never ReferenceWrong says_disjoint

pub reference_unique : (parts : List (List ℕ)) (r s : CelReference) → IsReference parts r → IsReference parts s → r ≡ s
reference_unique = reads_unique reference_keys ReferenceSays says_unique
