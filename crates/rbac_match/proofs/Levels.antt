-- One level of a rule, from its last member and the rules in it.
use Rattle.std.proofs.Common.{◌≡◌, ℕ, zero, suc, ◌-◌, ◌<◌, List, [], ◌∷◌, ◌++◌, ◌==◌, cond, Option, map, refl, arith, Contains, get_or, length}
use Rattle.std.specs.Prelude.{MatchOption, Some, None}
use Rattle.proto_wire.specs.Reading.{Never, LacksMember, OneofFault, IsUnsupported, in_values}
use Rattle.proto_wire.proofs.Readers.{values_fault, last_bad, oneof_found, oneof_bad}
use Rattle.proto_wire.specs.Fields.{Wire, field_view, payload_view}
use Rattle.proto_wire.specs.Values.{len_in, payloads}
use Rattle.proto_wire.specs.declared.field.Field.{Field}
use Rattle.proto_wire.specs.Messages.{IsMessage}
use Rattle.proto_wire.specs.Oneof.{member_run, last_number, member_in}
use Rattle.proto_wire.specs.declared.refusal.Refusal.{Refusal}
use Rattle.proto_wire.specs.declared.refusal.Refusal.TheVariants.{Missing, Unsupported}
use Rattle.rbac_match.specs.Message.{members, rule_keys}
use Rattle.rbac_match.specs.declared.member.Member.{Member}
use Rattle.rbac_match.specs.Formula.{Formula, Formulas, end, formula}
use Rattle.rbac_match.specs.Rules.{AreRules, MemberSays, IsLevel, IsRule, MemberFault, LevelFault, RuleFault}
use Rattle.rbac_match.specs.declared.rule.Side.{Side}
use Rattle.rbac_match.proofs.Basics.{contains_first, contains_later}

-- a level, where there is one more
pub rule_deeper : (side : Side) (depth : ℕ) (parts : List (List ℕ)) (f : Formula) → 0 < depth
    → IsLevel side (IsRule side (depth - 1)) parts f → IsRule side depth parts f
rule_deeper side zero parts f more is = absurd (omega arith)
rule_deeper side (suc depth) parts f more is = let less : suc depth - 1 ≡ depth = omega arith in rw less at is

-- its fault
pub fault_deeper : (side : Side) (depth : ℕ) (parts : List (List ℕ)) (e : Refusal) → 0 < depth
    → LevelFault side (RuleFault side (depth - 1)) parts e → RuleFault side depth parts e
fault_deeper side zero parts e more bad = absurd (omega arith)
fault_deeper side (suc depth) parts e more bad = let less : suc depth - 1 ≡ depth = omega arith in rw less at bad

-- one rule more
abbrev pub push : Formulas → Formula → Formulas
push end f = formula f end
push (formula g fs) f = formula g (push fs f)

pub are_rules_push : (Below : List (List ℕ) → Formula → Type 0) (children : List (List ℕ)) (fs : Formulas) (child : List ℕ) (f : Formula)
    → AreRules Below children fs → Below (child ∷ []) f → AreRules Below (children ++ child ∷ []) (push fs f)
are_rules_push Below [] end child f are is = (is, tt)
are_rules_push Below [] (formula g fs) child f are is = absurd are
are_rules_push Below (c ∷ children) end child f are is = absurd are
are_rules_push Below (c ∷ children) (formula g fs) child f are is = (are.0, are_rules_push Below children fs child f are.1 is)

-- the payload of a field of this number is one of them
pub payload_in : (k : ℕ) (fields : List Field) (i : ℕ) (d : Field) (bytes : List ℕ) → i < length fields
    → cond ((get_or fields i d).number == k) (len_in (payload_view (get_or fields i d).payload)) None ≡ Some bytes
    → Contains (payloads k (map field_view fields)) bytes
payload_in k [] i d bytes within is = absurd (omega arith)
payload_in k (f ∷ fields) zero d bytes within is = rw is (contains_first bytes (payloads k (map field_view fields)))
payload_in k (f ∷ fields) (suc i) d bytes within is =
    let rest = payload_in k fields i d bytes (omega arith) is in
    let here : Option (List ℕ) = cond (f.number == k) (len_in (payload_view f.payload)) None in
    elim here as (λ o. here ≡ o → Contains (payloads k (map field_view (f ∷ fields))) bytes) [
      | None ↦ λ none. rw none rest
      | Some first ↦ λ some. rw some (contains_later first bytes (payloads k (map field_view fields)) rest)
    ] refl

-- of a message whose fields are known, and where a level is left
module _ (side : Side) (depth : ℕ) (parts : List (List ℕ)) (fs : List Wire) (message : IsMessage (rule_keys side) parts fs) (more : 0 < depth) where
  -- that no member counts, or one that is not supported
  pub last_fault : (e : Refusal) → MatchOption (last_number (rule_keys side) fs) (e ≡ Missing)
      (λ n. (member_in (members side) n ≡ None) × (e ≡ Unsupported)) → RuleFault side depth parts e
  last_fault e fault = fault_deeper side depth parts e more
      (values_fault (rule_keys side) (LacksMember (members side))
      (OneofFault (members side) IsUnsupported (MemberFault (RuleFault side (depth - 1)))) parts fs message e
      (last_bad (members side) fs (MemberFault (RuleFault side (depth - 1))) e fault))

  module _ (n : ℕ) (member : Member) (last : last_number (rule_keys side) fs ≡ Some n) (is : member_in (members side) n ≡ Some member) where
    -- the formula that the last member's run says
    pub rule_found : (f : Formula)
        → MemberSays (IsRule side (depth - 1)) member n (member_run (rule_keys side) fs) f → IsRule side depth parts f
    rule_found f says = rule_deeper side depth parts f more (
      fs,
      message,
      oneof_found (members side) fs Never (MemberSays (IsRule side (depth - 1))) n member last is f says,
    )

    -- what is wrong with it
    pub member_fault : (e : Refusal)
        → MemberFault (RuleFault side (depth - 1)) member n (member_run (rule_keys side) fs) e
        → RuleFault side depth parts e
    member_fault e bad = fault_deeper side depth parts e more (in_values fs message.0
        (oneof_bad (members side) fs IsUnsupported (MemberFault (RuleFault side (depth - 1))) n member last is e bad))
