-- A checked expression has a type or a fault, and never both. It has a type exactly if it has one by the rules, its
-- entries agree, and no node has too many locals.
use Rattle.std.proofs.Common.{arith, ◌<◌, ◌≤◌, ◌⊎◌, inl, inr, [], refl}
use Rattle.std.proofs.lemmas.Bool.{cases_lt}
use Rattle.proto_wire.specs.declared.refusal.Refusal.{Refusal}
use Rattle.proto_wire.specs.declared.refusal.Refusal.TheVariants.{TooLarge}
use Rattle.cel_value.specs.Types.{ValueType}
use Rattle.cel_tree.specs.Checked.{CelChecked}
use Rattle.cel_types.specs.Typing.{locals_in, maps_of}
use Rattle.cel_types.specs.TypingFaults.{CheckFault, IsTyped, too_many_locals, untyped}
use Rattle.cel_types.specs.Agreeing.{IsAgreeing}
use Rattle.cel_types.proofs.Apart.{typed_apart}
use Rattle.cel_types.proofs.Agreeing.{entries_kept, typed_total}

agreeing_faultless : (c : CelChecked) (t : ValueType) → IsAgreeing c t → (e : Refusal) → CheckFault c e → ⊥
agreeing_faultless c t g e (too_many_locals more is) =
    let few : locals_in c.tree ≤ 64 = g.few in let past : 64 < locals_in c.tree = more in omega arith
agreeing_faultless c t g e (untyped fault) = typed_apart (maps_of c) [] c.tree t e g.types g.entries fault

pub agreeing_typed : (c : CelChecked) (t : ValueType) → IsAgreeing c t → IsTyped c t
agreeing_typed c t g = record { types = g.types; faultless = agreeing_faultless c t g }

-- the other direction: an expression with a type has few locals, and its entries agree
pub typed_agreeing : (c : CelChecked) (t : ValueType) → IsTyped c t → IsAgreeing c t
typed_agreeing c t g = elim (cases_lt 64 (locals_in c.tree)) [
  | inl more ↦ absurd (g.faultless TooLarge (too_many_locals more refl))
  | inr few ↦ elim (entries_kept (maps_of c) [] c.tree t g.types) [
    | inl entries ↦ record { few = few; types = g.types; entries = entries }
    | inr (e, fault) ↦ absurd (g.faultless e (untyped fault))
  ]
]

pub check_disjoint : (c : CelChecked) (t : ValueType) (e : Refusal) → IsTyped c t → CheckFault c e
    → ⊥
check_disjoint c t e g fault = g.faultless e fault

pub check_total : (c : CelChecked) → ((t : ValueType) × IsTyped c t) ⊎ ((e : Refusal) × CheckFault c e)
check_total c = elim (cases_lt 64 (locals_in c.tree)) [
  | inl more ↦ inr (TooLarge, too_many_locals more refl)
  | inr few ↦ elim (typed_total (maps_of c) [] c.tree) [
    | inl (t, types, entries) ↦
        inl (t, agreeing_typed c t (record { few = few; types = types; entries = entries }))
    | inr (e, fault) ↦ inr (e, untyped fault)
  ]
]
