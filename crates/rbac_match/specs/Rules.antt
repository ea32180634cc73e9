-- The messages Permission, Permission.Set, Principal and Principal.Set, level by level: Envoy v3
-- `config/rbac/v3/rbac.proto`.
use Rattle.std.specs.Prelude.{◌≡◌, ◌≢◌, ℕ, zero, suc, true, false, List, [], ◌∷◌, Contains}
use Rattle.proto_wire.specs.Reading.{Reads, ReadFault, OneofSays, Never, LacksMember, OneofFault, IsUnsupported}
use Rattle.proto_wire.specs.Fields.{Wire}
use Rattle.proto_wire.specs.Values.{bool_at, payloads}
use Rattle.proto_wire.specs.declared.refusal.Refusal.{Refusal}
use Rattle.proto_wire.specs.declared.refusal.Refusal.TheVariants.{OutOfRange, TooLarge}
use Rattle.rbac_match.specs.Message.{members, rule_keys, set_field, set_keys}
use Rattle.rbac_match.specs.Formula.{Formula, any, and_of, or_of, not_of, leaf, Formulas, end, formula}
use Rattle.rbac_match.specs.Leaves.{IsLeaf, LeafFault}
use Rattle.rbac_match.specs.declared.matcher.Matcher.{Matcher}
use Rattle.rbac_match.specs.declared.member.Member.{Member}
use Rattle.rbac_match.specs.declared.member.Member.TheVariants.{And, Or, Any, Not, Leaf}
use Rattle.rbac_match.specs.declared.rule.Side.{Side}

-- ---- the meaning; `Below` is the meaning of a rule one level down

-- each child is a rule, and means the formula of the same place
abbrev pub AreRules : (List (List ℕ) → Formula → Type 0) → List (List ℕ) → Formulas → Type 0
AreRules Below [] end = Unit {0}
AreRules Below (child ∷ children) (formula f fs) = Below (child ∷ []) f × AreRules Below children fs
AreRules Below children fs = ⊥

-- the parts merge to a Set of at least one rule, whose rules mean these formulas
abbrev pub IsSet : (List (List ℕ) → Formula → Type 0) → List (List ℕ) → Formulas → Type 0
IsSet Below = Reads set_keys (λ fs gs.
    (payloads set_field.rules fs ≢ []) × AreRules Below (payloads set_field.rules fs) gs)

-- the run of the member, which has this number, means the formula
abbrev pub MemberSays : (List (List ℕ) → Formula → Type 0) → Member → ℕ → List Wire → Formula
    → Type 0
MemberSays Below And n run f = (gs : Formulas) × IsSet Below (payloads n run) gs × (f ≡ and_of gs)
MemberSays Below Or n run f = (gs : Formulas) × IsSet Below (payloads n run) gs × (f ≡ or_of gs)
MemberSays Below Any n run f = (bool_at n run ≡ true) × (f ≡ any)
MemberSays Below Not n run f = (g : Formula) × Below (payloads n run) g × (f ≡ not_of g)
MemberSays Below (Leaf kind) n run f = (m : Matcher) × IsLeaf kind n run m × (f ≡ leaf m)

-- the parts merge to fields that are all members, and the run of the last one means the formula
abbrev pub IsLevel : Side → (List (List ℕ) → Formula → Type 0) → List (List ℕ) → Formula → Type 0
IsLevel side Below =
    Reads (rule_keys side) (OneofSays (members side) Never (MemberSays Below))

-- the parts merge to a rule of at most `depth` levels, which means the formula
abbrev pub IsRule : Side → ℕ → List (List ℕ) → Formula → Type 0
IsRule side zero parts f = ⊥
IsRule side (suc depth) parts f = IsLevel side (IsRule side depth) parts f

-- ---- the faults; `Below` is a fault of a rule one level down

-- a fault of a Set: in its fields, that it has no rules, or in one of its rules
abbrev pub SetFault : (List (List ℕ) → Refusal → Type 0) → List (List ℕ) → Refusal → Type 0
SetFault Below = ReadFault set_keys (λ fs. payloads set_field.rules fs ≡ [])
    (λ fs e. (child : List ℕ) × Contains (payloads set_field.rules fs) child × Below (child ∷ []) e)

-- a fault of the run of the last member, which has this number
abbrev pub MemberFault : (List (List ℕ) → Refusal → Type 0) → Member → ℕ → List Wire → Refusal
    → Type 0
MemberFault Below And n run e = SetFault Below (payloads n run) e
MemberFault Below Or n run e = SetFault Below (payloads n run) e
MemberFault Below Any n run e = (bool_at n run ≡ false) × (e ≡ OutOfRange)
MemberFault Below Not n run e = Below (payloads n run) e
MemberFault Below (Leaf kind) n run e = LeafFault kind n run e

-- a fault of a rule: in its fields, that it has no member, or in its last member
abbrev pub LevelFault : Side → (List (List ℕ) → Refusal → Type 0) → List (List ℕ) → Refusal → Type 0
LevelFault side Below = ReadFault (rule_keys side) (LacksMember (members side))
    (OneofFault (members side) IsUnsupported (MemberFault Below))

-- a fault of a rule that may have `depth` levels. If it may have none, it is too deep, whatever it holds
abbrev pub RuleFault : Side → ℕ → List (List ℕ) → Refusal → Type 0
RuleFault side zero parts e = e ≡ TooLarge
RuleFault side (suc depth) parts e = LevelFault side (RuleFault side depth) parts e

-- at least one of these rules has a fault; each rule is one payload
abbrev pub SomeRuleFault : Side → ℕ → List (List ℕ) → Refusal → Type 0
SomeRuleFault side depth children e = (child : List ℕ) × Contains children child
    × RuleFault side depth (child ∷ []) e
