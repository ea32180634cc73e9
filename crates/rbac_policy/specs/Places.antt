-- Where in a filter a fault is: the parts of a filter's message, and the steps to them.
use Rattle.std.specs.Prelude.{◌≡◌, ◌≢◌, ◌⊎◌, ℕ, List, [], ◌∷◌, ◌++◌, Some, slice_get}
use Rattle.std.specs.FinMap.{entries}
use Rattle.cel_tree.specs.Checked.{CelChecked}
use Rattle.cel_tree.specs.Message.{ExprFault, ExprParts, IsExprOf, ArePresent, checked_field, checked_parts, unchecked_parts}
use Rattle.cel_tree.specs.Places.{NamesNode}
use Rattle.cel_read.specs.Places.{ExprFaultAt}
use Rattle.cel_check.specs.Places.{CheckFaultAt, id_of}
use Rattle.cel_types.specs.TypingFaults.{CheckFault, IsTyped}
use Rattle.cel_value.specs.Types.{ValueType, bool_type}
use Rattle.proto_wire.specs.Fields.{Wire}
use Rattle.proto_wire.specs.Maps.{Entry, text, Readable, map_of}
use Rattle.proto_wire.specs.Merge.{Merges}
use Rattle.proto_wire.specs.Messages.{MessageFault}
use Rattle.proto_wire.specs.Places as places
use Rattle.proto_wire.specs.Places.{Path, End, BeginsWith, path_of}
use Rattle.proto_wire.specs.Values.{payloads}
use Rattle.proto_wire.specs.declared.place.Step.{Step}
use Rattle.proto_wire.specs.declared.placed.Fault.{Fault}
use Rattle.proto_wire.specs.declared.refusal.Refusal.{Refusal}
use Rattle.proto_wire.specs.declared.refusal.Refusal.TheVariants.{Memory, NotBool}
use Rattle.rbac_match.specs.Places as rules_of
use Rattle.rbac_match.specs.Places.{IsAt, rule}
use Rattle.rbac_match.specs.declared.rule.Side.{Side}
use Rattle.rbac_match.specs.declared.rule.Side.TheVariants.{Permission, Principal}
use Rattle.rbac_policy.specs.Fault.{FilterFault, PolicyFault, RulesFault}
use Rattle.rbac_policy.specs.Keys.{rules_keys, filter_field, rules_field, policy_field}
use Rattle.rbac_policy.specs.Message.{condition_in, rule_depth}

-- a part of a filter: its message, its rules, a policy, a policy's condition, or a part of one of its permissions
-- or principals. Each has its payloads. A part of a condition is what these steps name in it
pub data Part : Type 0 where
  of_filter : (bytes : List ℕ) → Part
  of_rules : (parts : List (List ℕ)) → Part
  of_policy : (parts : List (List ℕ)) → Part
  of_condition : ExprParts → Part
  in_condition : ExprParts → List Step → Part
  in_rule : Side → rules_of.Part → Part

-- a fault of a condition, whatever it costs
pub data ConditionWrong (parts : ExprParts) (e : Refusal) : Type 0 where
  does_not_read : ExprFault parts e → ConditionWrong parts e
  has_no_type : (x : CelChecked) → IsExprOf parts x → CheckFault x e → ConditionWrong parts e
  of_another_type : (x : CelChecked) (t : ValueType) → IsExprOf parts x → IsTyped x t → t ≢ bool_type
      → e ≡ NotBool → ConditionWrong parts e

-- a fault of an expression that reads, at this path: it has no type, or its root is of another type than bool
pub data NodeWrongAt (x : CelChecked) (path : Path) (e : Refusal) : Type 0 where
  untyped_at : CheckFaultAt x path e → NodeWrongAt x path e
  not_bool_at : (t : ValueType) → IsTyped x t → t ≢ bool_type → e ≡ NotBool → NamesNode (id_of x.tree) path
      → NodeWrongAt x path e

-- the outer path leads in a condition to where the inner one leads in its expression
abbrev pub IsOfExpr : ExprParts → Path → Path → Type 0
IsOfExpr (checked_parts parts) inner outer = BeginsWith checked_field.expr 0 inner outer
IsOfExpr (unchecked_parts parts) inner outer = outer ≡ inner

-- a fault of a condition at this path, whatever it costs
pub data ConditionWrongAt (parts : ExprParts) (path : Path) (e : Refusal) : Type 0 where
  unreadable_at : ExprFaultAt parts path e → ConditionWrongAt parts path e
  wrong_at : (x : CelChecked) (inner : Path) → IsExprOf parts x → NodeWrongAt x inner e
      → IsOfExpr parts inner path → ConditionWrongAt parts path e

-- a fault of a part; in a condition, one at a path that begins with the steps
abbrev pub PartFault : Part → Refusal → Type 0
PartFault (of_filter bytes) e = FilterFault bytes e
PartFault (of_rules parts) e =
    MessageFault rules_keys parts e ⊎ ((fs : List Wire) × Merges parts fs × RulesFault fs e)
PartFault (of_policy parts) e = PolicyFault parts e
PartFault (of_condition parts) e = ConditionWrong parts e
PartFault (in_condition parts steps) e = (more : List Step) × (end : End)
    × ConditionWrongAt parts (record { steps = steps ++ more; end = end }) e
PartFault (in_rule side part) e = rules_of.PartFault side part e

-- the field of a policy that has the rules of this side
abbrev pub side_field : Side → ℕ
side_field Permission = policy_field.permissions
side_field Principal = policy_field.principals

-- the field of a policy that has the condition
abbrev pub condition_field : ExprParts → ℕ
condition_field (checked_parts parts) = policy_field.checked_condition
condition_field (unchecked_parts parts) = policy_field.condition

-- the step leads from the fields of a policy to one of its rules
pub record ToRule (fs : List Wire) (s : Step) (q : Part) : Type 0 where
  pub side : Side
  pub child : List ℕ
  pub at : IsAt fs (side_field side) s.position child
  pub number : s.number ≡ side_field side
  pub is : q ≡ in_rule side (rule rule_depth (child ∷ []))

-- the step leads from the fields of a policy to its condition
pub record ToCondition (fs : List Wire) (s : Step) (q : Part) : Type 0 where
  pub there : ArePresent (condition_in fs)
  pub number : s.number ≡ condition_field (condition_in fs)
  pub position : s.position ≡ 0
  pub is : q ≡ of_condition (condition_in fs)

-- the step leads from a filter's rules to a policy. Its position counts the policies in the order of their names
pub record ToPolicy (parts : List (List ℕ)) (s : Step) (q : Part) : Type 0 where
  pub fs : List Wire
  pub read : List (Entry text)
  pub entry : Entry text
  pub merges : Merges parts fs
  pub readable : Readable text (payloads rules_field.policies fs) read
  pub at : slice_get (entries (map_of text read)) s.position ≡ Some entry
  pub number : s.number ≡ rules_field.policies
  pub is : q ≡ of_policy entry.1

-- the step leads from a filter's message to its rules, whose payloads merge
pub record ToRules (bytes : List ℕ) (s : Step) (q : Part) : Type 0 where
  pub top : List Wire
  pub merges : Merges (bytes ∷ []) top
  pub there : payloads filter_field.rules top ≢ []
  pub number : s.number ≡ filter_field.rules
  pub position : s.position ≡ 0
  pub is : q ≡ of_rules (payloads filter_field.rules top)

-- the step leads from a part to this part in it
abbrev pub StepTo : Part → Step → Part → Type 0
StepTo (of_filter bytes) s q = ToRules bytes s q
StepTo (of_rules parts) s q = ToPolicy parts s q
StepTo (of_policy parts) s q = (fs : List Wire) × Merges parts fs × (ToRule fs s q ⊎ ToCondition fs s q)
StepTo (of_condition parts) s q = q ≡ in_condition parts (s ∷ [])
StepTo (in_condition parts steps) s q = q ≡ in_condition parts (steps ++ s ∷ [])
StepTo (in_rule side p) s q = (r : rules_of.Part) × rules_of.StepTo side p s r × (q ≡ in_rule side r)

-- the part to which the steps lead has the fault
abbrev pub FaultAt : List Step → Part → Refusal → Type 0
FaultAt = places.FaultAt StepTo PartFault

-- a fault that is of no part by itself: out of memory, or conditions that together take more than the budget has
abbrev pub OfNoPart : (Path → Refusal → Type 0) → Fault → Type 0
OfNoPart Over fault = (fault.refusal ≡ Memory) ⊎ Over (path_of fault.place) fault.refusal

-- a fault that is of no part, or the fault at its place
abbrev pub PlacedOr : (Path → Refusal → Type 0) → Part → Fault → Type 0
PlacedOr Over p fault = OfNoPart Over fault ⊎ FaultAt (path_of fault.place).steps p fault.refusal

-- the same for an expression that reads
abbrev pub NodeOr : (Path → Refusal → Type 0) → CelChecked → Fault → Type 0
NodeOr Over x fault = OfNoPart Over fault ⊎ NodeWrongAt x (path_of fault.place) fault.refusal

-- the same for the payloads of a condition
abbrev pub ConditionPartOr : (Path → Refusal → Type 0) → ExprParts → Fault → Type 0
ConditionPartOr Over parts fault = OfNoPart Over fault
    ⊎ (ArePresent parts × ConditionWrongAt parts (path_of fault.place) fault.refusal)

-- the same for a condition in the fields of a policy; the first step names its field
abbrev pub ConditionOr : (Path → Refusal → Type 0) → List Wire → Fault → Type 0
ConditionOr Over fs fault = OfNoPart Over fault
    ⊎ (ArePresent (condition_in fs) × (inner : Path) × ConditionWrongAt (condition_in fs) inner fault.refusal
    × BeginsWith (condition_field (condition_in fs)) 0 inner (path_of fault.place))

-- the same for one of the entries of a map of policies; the first step names it
abbrev pub EntryOr : (Path → Refusal → Type 0) → ℕ → Entry text → Fault → Type 0
EntryOr Over position entry fault = OfNoPart Over fault
    ⊎ ((inner : Path) × BeginsWith rules_field.policies position inner (path_of fault.place)
    × FaultAt inner.steps (of_policy entry.1) fault.refusal)

-- the fault is of one of the entries of a map of policies; the first step names it
abbrev pub IsOfEntry : List (Entry text) → Fault → Type 0
IsOfEntry es fault = (position : ℕ) × (entry : Entry text) × (inner : Path) × (slice_get es position ≡ Some entry)
    × BeginsWith rules_field.policies position inner (path_of fault.place)
    × FaultAt inner.steps (of_policy entry.1) fault.refusal

-- a fault that is of no part, or of some entry
abbrev pub PoliciesOr : (Path → Refusal → Type 0) → List (Entry text) → Fault → Type 0
PoliciesOr Over es fault = OfNoPart Over fault ⊎ IsOfEntry es fault

-- the same for the fields of a filter's rules: the fault is of the rules themselves, or of one of the policies
abbrev pub FieldsOr : (Path → Refusal → Type 0) → List Wire → Fault → Type 0
FieldsOr Over fs fault = OfNoPart Over fault
    ⊎ (RulesFault fs fault.refusal × ((path_of fault.place).steps ≡ []))
    ⊎ ((read : List (Entry text)) × Readable text (payloads rules_field.policies fs) read
    × IsOfEntry (entries (map_of text read)) fault)
