-- A rule's payloads are a rule or have a fault, never both, and they say one formula at most.
use Rattle.std.proofs.Common.{◌≡◌, ℕ, zero, suc, ◌<◌, ◌⊎◌, inl, inr, List, [], ◌∷◌, Contains, refl, sym, ap, subst, arith, ◌∙◌}
use Rattle.std.proofs.lemmas.Bool.{cases_Bool, both_ways}
use Rattle.proto_wire.specs.Reading.{OneofSays, Never, LacksMember, OneofFault, IsUnsupported, in_fields, lacking, in_values}
use Rattle.proto_wire.proofs.ReadingLaws.{reads_total, reads_disjoint, reads_unique, oneof_total, oneof_disjoint, oneof_unique}
use Rattle.proto_wire.specs.Fields.{Wire}
use Rattle.proto_wire.specs.Values.{bool_at, payloads}
use Rattle.proto_wire.proofs.Unique.{merges_unique}
use Rattle.proto_wire.proofs.Messages.{message_total, message_disjoint}
use Rattle.proto_wire.specs.declared.refusal.Refusal.{Refusal}
use Rattle.proto_wire.specs.declared.refusal.Refusal.TheVariants.{Missing, OutOfRange, TooLarge}
use Rattle.rbac_match.specs.Formula.{Formula, any, and_of, or_of, not_of, leaf, Formulas, end, formula}
use Rattle.rbac_match.specs.Message.{members, rule_keys, set_field, set_keys}
use Rattle.rbac_match.specs.Rules.{AreRules, IsSet, MemberSays, IsLevel, IsRule, SetFault, MemberFault, LevelFault, RuleFault}
use Rattle.rbac_match.specs.declared.member.Member.{Member}
use Rattle.rbac_match.specs.declared.member.Member.TheVariants.{And, Or, Any, Not, Leaf}
use Rattle.rbac_match.specs.declared.rule.Side.{Side}
use Rattle.rbac_match.proofs.Basics.{nil_or_not, contains_first, contains_later, contains_cases}
use Rattle.rbac_match.proofs.LeafMessages.{leaf_total, leaf_disjoint, leaf_unique}

-- what a level's last member says, and its faults
abbrev Says : Side → (List (List ℕ) → Formula → Type 0) → List Wire → Formula → Type 0
Says side Below = OneofSays (members side) Never (MemberSays Below)

abbrev Lacks : Side → List Wire → Type 0
Lacks side = LacksMember (members side)

abbrev Wrong : Side → (List (List ℕ) → Refusal → Type 0) → List Wire → Refusal → Type 0
Wrong side Fails = OneofFault (members side) IsUnsupported (MemberFault Fails)

-- of one level: each rule one level down is one or has a fault
module _ (Below : List (List ℕ) → Formula → Type 0) (Fails : List (List ℕ) → Refusal → Type 0) where
  module _ (below_total : (parts : List (List ℕ)) → ((f : Formula) × Below parts f) ⊎ ((e : Refusal) × Fails parts e)) where
    rules_of_total : (children : List (List ℕ))
        → ((gs : Formulas) × AreRules Below children gs)
        ⊎ ((child : List ℕ) × Contains children child × (e : Refusal) × Fails (child ∷ []) e)
    rules_of_total [] = inl (end, tt)
    rules_of_total (child ∷ children) = elim (below_total (child ∷ [])) [
      | inr bad ↦ inr (child, contains_first child children, bad.0, bad.1)
      | inl good ↦ elim (rules_of_total children) [
        | inl others ↦ inl (formula good.0 others.0, (good.1, others.1))
        | inr bad ↦ inr (bad.0, contains_later child bad.0 children bad.1, bad.2, bad.3)
      ]
    ]

    set_total : (parts : List (List ℕ))
        → ((gs : Formulas) × IsSet Below parts gs) ⊎ ((e : Refusal) × SetFault Fails parts e)
    set_total parts = elim (message_total set_keys parts) [
      | inr bad ↦ inr (bad.0, in_fields bad.1)
      | inl message ↦ elim (nil_or_not (payloads set_field.rules message.0)) [
        | inl none ↦ inr (Missing, lacking message.0 message.1 none refl)
        | inr some ↦ elim (rules_of_total (payloads set_field.rules message.0)) [
          | inl rules ↦ inl (rules.0, (message.0, message.1, (some, rules.1)))
          | inr bad ↦ inr (bad.2, in_values message.0 message.1.0 (bad.0, bad.1, bad.3))
        ]
      ]
    ]

    -- a member's run says a formula, or has a fault
    member_total : (member : Member) (n : ℕ) (run : List Wire)
        → ((f : Formula) × MemberSays Below member n run f)
        ⊎ ((e : Refusal) × MemberFault Fails member n run e)
    member_total And n run = elim (set_total (payloads n run)) [
      | inl (gs, set) ↦ inl (and_of gs, (gs, set, refl))
      | inr bad ↦ inr bad
    ]
    member_total Or n run = elim (set_total (payloads n run)) [
      | inl (gs, set) ↦ inl (or_of gs, (gs, set, refl))
      | inr bad ↦ inr bad
    ]
    member_total Any n run = elim (cases_Bool (bool_at n run)) [
      | inl set ↦ inl (any, (set, refl))
      | inr unset ↦ inr (OutOfRange, (unset, refl))
    ]
    member_total Not n run = elim (below_total (payloads n run)) [
      | inl (g, is) ↦ inl (not_of g, (g, is, refl))
      | inr bad ↦ inr bad
    ]
    member_total (Leaf kind) n run = elim (leaf_total kind n run) [
      | inl (m, is) ↦ inl (leaf m, (m, is, refl))
      | inr bad ↦ inr bad
    ]

    level_total : (side : Side) (parts : List (List ℕ))
        → ((f : Formula) × IsLevel side Below parts f) ⊎ ((e : Refusal) × LevelFault side Fails parts e)
    level_total side = reads_total (rule_keys side) (Says side Below) (Lacks side) (Wrong side Fails)
        (oneof_total (members side) (MemberSays Below) (MemberFault Fails) member_total)

-- a rule's payloads are a rule, or have a fault
pub rule_total : (side : Side) (depth : ℕ) (parts : List (List ℕ))
    → ((f : Formula) × IsRule side depth parts f) ⊎ ((e : Refusal) × RuleFault side depth parts e)
rule_total side zero parts = inr (TooLarge, refl)
rule_total side (suc depth) parts =
    level_total (IsRule side depth) (RuleFault side depth) (rule_total side depth) side parts

-- each of several payloads is a rule, or one of them has a fault
pub rules_total : (side : Side) (depth : ℕ) (children : List (List ℕ))
    → ((gs : Formulas) × AreRules (IsRule side depth) children gs)
    ⊎ ((child : List ℕ) × Contains children child × (e : Refusal) × RuleFault side depth (child ∷ []) e)
rules_total side depth = rules_of_total (IsRule side depth) (RuleFault side depth) (rule_total side depth)

-- of one level: no rule one level down is both
module _ (Below : List (List ℕ) → Formula → Type 0) (Fails : List (List ℕ) → Refusal → Type 0) where
  module _ (below_disjoint : (parts : List (List ℕ)) (f : Formula) (e : Refusal) → Below parts f → Fails parts e → ⊥) where
    rules_of_disjoint : (children : List (List ℕ)) (gs : Formulas) (child : List ℕ) (e : Refusal)
        → AreRules Below children gs → Contains children child → Fails (child ∷ []) e → ⊥
    rules_of_disjoint [] end child e are here bad = let lt : here.0 < 0 = here.1 in absurd (omega arith)
    rules_of_disjoint [] (formula g gs) child e are here bad = are
    rules_of_disjoint (c ∷ children) end child e are here bad = are
    rules_of_disjoint (c ∷ children) (formula g gs) child e are here bad =
        elim (contains_cases c child children here) [
          | inl same ↦ let P : List ℕ → Type 0 = λ p. Fails (p ∷ []) e in
              below_disjoint (c ∷ []) g e are.0 (subst P (sym same) bad)
          | inr later ↦ rules_of_disjoint children gs child e are.1 later bad
        ]

    set_disjoint : (parts : List (List ℕ)) (gs : Formulas) (e : Refusal) → IsSet Below parts gs
        → SetFault Fails parts e → ⊥
    set_disjoint parts gs e (fs, message, (some, are)) (in_fields bad) =
        message_disjoint set_keys parts fs e message bad
    set_disjoint parts gs e (fs, message, (some, are)) (lacking hs also none is) =
        let P : List Wire → Type 0 = λ xs. payloads set_field.rules xs ≡ [] in
        some (subst P (merges_unique parts hs fs also.0 message.0) none)
    set_disjoint parts gs e (fs, message, (some, are)) (in_values hs also (child, here, bad)) =
        let P : List Wire → Type 0 = λ xs. Contains (payloads set_field.rules xs) child in
        rules_of_disjoint (payloads set_field.rules fs) gs child e are
        (subst P (merges_unique parts hs fs also message.0) here) bad

    member_disjoint : (member : Member) (n : ℕ) (run : List Wire) (f : Formula) (e : Refusal)
        → MemberSays Below member n run f → MemberFault Fails member n run e → ⊥
    member_disjoint And n run f e (gs, set, is) bad = set_disjoint (payloads n run) gs e set bad
    member_disjoint Or n run f e (gs, set, is) bad = set_disjoint (payloads n run) gs e set bad
    member_disjoint Any n run f e says bad = both_ways (bool_at n run) bad.0 says.0
    member_disjoint Not n run f e (g, below, is) bad = below_disjoint (payloads n run) g e below bad
    member_disjoint (Leaf kind) n run f e (m, read, is) bad = leaf_disjoint kind n run m e read bad

    level_disjoint : (side : Side) (parts : List (List ℕ)) (f : Formula) (e : Refusal)
        → IsLevel side Below parts f → LevelFault side Fails parts e → ⊥
    level_disjoint side = reads_disjoint (rule_keys side) (Says side Below) (Lacks side) (Wrong side Fails)
        (oneof_disjoint (members side) (MemberSays Below) (MemberFault Fails) member_disjoint)

-- a rule has no fault
pub rule_disjoint : (side : Side) (depth : ℕ) (parts : List (List ℕ)) (f : Formula) (e : Refusal)
    → IsRule side depth parts f → RuleFault side depth parts e → ⊥
rule_disjoint side zero parts f e is bad = is
rule_disjoint side (suc depth) parts f e is bad =
    level_disjoint (IsRule side depth) (RuleFault side depth) (rule_disjoint side depth) side parts f e is bad

-- of several payloads that are rules none has a fault
pub rules_disjoint : (side : Side) (depth : ℕ) (children : List (List ℕ)) (gs : Formulas) (child : List ℕ) (e : Refusal)
    → AreRules (IsRule side depth) children gs → Contains children child
    → RuleFault side depth (child ∷ []) e → ⊥
rules_disjoint side depth =
    rules_of_disjoint (IsRule side depth) (RuleFault side depth) (rule_disjoint side depth)

-- of one level: a rule one level down says one formula
module _ (Below : List (List ℕ) → Formula → Type 0) (below_unique : (parts : List (List ℕ)) (f g : Formula) → Below parts f → Below parts g → f ≡ g) where
  rules_of_unique : (children : List (List ℕ)) (fs gs : Formulas) → AreRules Below children fs
      → AreRules Below children gs → fs ≡ gs
  rules_of_unique [] end end a b = refl
  rules_of_unique [] end (formula g gs) a b = absurd b
  rules_of_unique [] (formula f fs) gs a b = absurd a
  rules_of_unique (c ∷ children) end gs a b = absurd a
  rules_of_unique (c ∷ children) (formula f fs) end a b = absurd b
  rules_of_unique (c ∷ children) (formula f fs) (formula g gs) a b =
      let first : f ≡ g = below_unique (c ∷ []) f g a.0 b.0 in
      let others : fs ≡ gs = rules_of_unique children fs gs a.1 b.1 in
      cc

  set_unique : (parts : List (List ℕ)) (fs gs : Formulas) → IsSet Below parts fs → IsSet Below parts gs
      → fs ≡ gs
  set_unique parts fs gs (xs, message, (some, are)) (ys, also, (some', are')) =
      let P : List Wire → Type 0 = λ zs. AreRules Below (payloads set_field.rules zs) gs in
      rules_of_unique (payloads set_field.rules xs) fs gs are (subst P (merges_unique parts ys xs also.0 message.0) are')

  member_unique : (member : Member) (n : ℕ) (run : List Wire) (f g : Formula)
      → MemberSays Below member n run f → MemberSays Below member n run g → f ≡ g
  member_unique And n run f g a b = a.2 ∙ ap and_of (set_unique (payloads n run) a.0 b.0 a.1 b.1) ∙ sym b.2
  member_unique Or n run f g a b = a.2 ∙ ap or_of (set_unique (payloads n run) a.0 b.0 a.1 b.1) ∙ sym b.2
  member_unique Any n run f g a b = a.1 ∙ sym b.1
  member_unique Not n run f g a b = a.2 ∙ ap not_of (below_unique (payloads n run) a.0 b.0 a.1 b.1) ∙ sym b.2
  member_unique (Leaf kind) n run f g a b = a.2 ∙ ap leaf (leaf_unique kind n run a.0 b.0 a.1 b.1) ∙ sym b.2

  level_unique : (side : Side) (parts : List (List ℕ)) (f g : Formula) → IsLevel side Below parts f
      → IsLevel side Below parts g → f ≡ g
  level_unique side = reads_unique (rule_keys side) (Says side Below)
      (oneof_unique (members side) (MemberSays Below) Never (λ x y a b. absurd a) member_unique)

-- a rule says one formula
pub rule_unique : (side : Side) (depth : ℕ) (parts : List (List ℕ)) (f g : Formula)
    → IsRule side depth parts f → IsRule side depth parts g → f ≡ g
rule_unique side zero parts f g a b = absurd a
rule_unique side (suc depth) parts f g a b =
    level_unique (IsRule side depth) (rule_unique side depth) side parts f g a b

-- several rules say one list of formulas
pub rules_unique : (side : Side) (depth : ℕ) (children : List (List ℕ)) (fs gs : Formulas)
    → AreRules (IsRule side depth) children fs → AreRules (IsRule side depth) children gs → fs ≡ gs
rules_unique side depth = rules_of_unique (IsRule side depth) (rule_unique side depth)
