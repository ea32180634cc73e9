-- The results and faults of checking nodes.
use Rattle.std.specs.Prelude.{◌≡◌, ◌≢◌, ◌⊎◌, ℕ, Bool, false, List, [], ◌∷◌, ◌++◌, Option, Some, None}
use Rattle.std.specs.FinMap.{get}
use Rattle.attributes.specs.declared.attribute.AttrId.{AttrId}
use Rattle.cel_ops.specs.Attributes.{attribute_type}
use Rattle.cel_tree.specs.Checked.{CelReference}
use Rattle.cel_tree.specs.Tree.{CelTree, constant, ident, select, call, list_literal, map_literal, comprehension, CelTarget, no_target, target, CelTrees}
use Rattle.cel_tree.specs.View.{LoopParts}
use Rattle.cel_value.specs.Types.{ValueType, bool_type}
use Rattle.cel_overload.specs.Overloads.{IsCall}
use Rattle.cel_overload.specs.declared.overload.Overload.{Overload}
use Rattle.cel_types.specs.Attributes.{attribute_named}
use Rattle.cel_types.specs.Elaborated.{Elaborates, ElaboratesEach, TypedTree, TypedTrees, kind, kinds, typed_attribute, typed_call}
use Rattle.cel_types.specs.Names.{root_of, turn_scope, variables_of}
use Rattle.cel_types.specs.Typing.{IsOver, Kinds, Maps, RefAgrees, Types}
use Rattle.cel_types.specs.TypingFaults.{AreGot}
use Rattle.cel_types.specs.Agreeing.{EachAgrees, EntriesAgree, PairsAgree, SelectAgrees, TargetAgrees}
use Rattle.cel_check.specs.Places.{OwnFault, TypeFaultAt, TargetFaultAt, SomeFaultAt, PairFaultAt}
use Rattle.cel_types.specs.View.{typed_of}
use Rattle.cel_check.specs.private.Kinds.{NoElements}
use Rattle.proto_wire.specs.Places.{Path, path_at}
use Rattle.proto_wire.specs.declared.refusal.Refusal.{Refusal}
use Rattle.proto_wire.specs.declared.refusal.Refusal.TheVariants.{NoOverload}

-- all entries of an expression agree; the type entry of its own node is left out
abbrev pub InsideAgrees : Maps → Kinds → CelTree → Type 0
InsideAgrees m ks (constant id v) = Unit {0}
InsideAgrees m ks (ident id name) = RefAgrees (get m.refs id) name
InsideAgrees m ks (select id operand field test_only) =
    SelectAgrees (get m.refs id) (root_of operand ks) field
    (Types m ks (select id operand field test_only)) (EntriesAgree m ks operand)
InsideAgrees m ks (call id name on args) = TargetAgrees m ks on × EachAgrees m ks args
InsideAgrees m ks (list_literal id elements) = EachAgrees m ks elements
InsideAgrees m ks (map_literal id entries) = PairsAgree m ks entries
InsideAgrees m ks (comprehension id x y acc range init condition step result) =
    EntriesAgree m ks range × EntriesAgree m ks init
    × ((walked : ValueType) (each : List ValueType) (gathered : ValueType) → Types m ks range walked
    → IsOver (variables_of y) walked each → Types m ks init gathered
    → EntriesAgree m (turn_scope x y acc each gathered ks) condition
    × EntriesAgree m (turn_scope x y acc each gathered ks) step)
    × ((gathered : ValueType) → Types m ks init gathered
    → EntriesAgree m ((acc, gathered) ∷ ks) result)

-- this is the expression's elaboration, and its entries agree
abbrev pub IsFound : Maps → Kinds → CelTree → TypedTree → Type 0
IsFound m ks t e = Elaborates m ks t e × EntriesAgree m ks t

-- this is the expression's elaboration, and its entries agree; the type entry of its own node is
-- left out
abbrev pub IsNode : Maps → Kinds → CelTree → TypedTree → Type 0
IsNode m ks t e = Elaborates m ks t e × InsideAgrees m ks t

-- a Select of a bare root is this attribute
abbrev pub IsAttribute : Option CelReference → List ℕ → Bool → TypedTree → Type 0
IsAttribute ref name test_only e = (test_only ≡ false) × (id : AttrId)
    × (attribute_named name ≡ Some id) × (e ≡ typed_attribute (attribute_type id) id)
    × RefAgrees ref name

-- after the expressions `before`, the list has the elaborations of these expressions, whose entries
-- agree
abbrev pub AreFound : Maps → Kinds → CelTrees → List TypedTree → List TypedTree → Type 0
AreFound m ks ts before es = (others : List TypedTree) × (es ≡ before ++ others)
    × ElaboratesEach m ks ts (typed_of others) × EachAgrees m ks ts

-- the list is the elaboration of the call's target, if there is one, and its entries agree
abbrev pub IsTarget : Maps → Kinds → CelTarget → List TypedTree → Type 0
IsTarget m ks no_target es = es ≡ []
IsTarget m ks (target on) es = (e : TypedTree) × (es ≡ e ∷ []) × IsFound m ks on e

-- a call on these operands is this expression
abbrev pub IsCalled : List ℕ → Bool → TypedTrees → TypedTree → Type 0
IsCalled name on operands e = (o : Overload) × (t : ValueType)
    × IsCall name on (kinds operands) o t × (e ≡ typed_call t o operands)

-- these are the elaborations of the condition, a bool, and of the step, of the accumulator's type
abbrev pub IsTurn : Maps → Kinds → (condition step : CelTree) → (gathered : ValueType)
    → TypedTree → TypedTree → Type 0
IsTurn m ks condition step gathered c s = IsFound m ks condition c × (kind c ≡ bool_type)
    × IsFound m ks step s × (kind s ≡ gathered)

-- a node inside the expression has the fault, at this path
abbrev pub InsideAt : Maps → Kinds → CelTree → Path → Refusal → Type 0
InsideAt m ks (constant id v) path e = ⊥
InsideAt m ks (ident id name) path e = ⊥
InsideAt m ks (select id operand field test_only) path e = (root_of operand ks ≡ None) × TypeFaultAt m ks operand path e
InsideAt m ks (call id name on args) path e = TargetFaultAt m ks on path e ⊎ SomeFaultAt m ks args path e
InsideAt m ks (list_literal id elements) path e = SomeFaultAt m ks elements path e
InsideAt m ks (map_literal id entries) path e = PairFaultAt m ks entries path e
InsideAt m ks (comprehension id x y acc range init condition step result) path e =
    (TypeFaultAt m ks range path e ⊎ TypeFaultAt m ks init path e)
    ⊎ (((each : List ValueType) × (a : ValueType) × AreGot (variables_of y) (Types m ks range) each × Types m ks init a
    × (TypeFaultAt m (turn_scope x y acc each a ks) condition path e
    ⊎ TypeFaultAt m (turn_scope x y acc each a ks) step path e))
    ⊎ ((a : ValueType) × Types m ks init a × TypeFaultAt m ((acc, a) ∷ ks) result path e))

-- the fault is the node's own, and no path is given yet; or a node inside has it, at the path
abbrev pub PlacedInside : Maps → Kinds → CelTree → Path → Refusal → Type 0
PlacedInside m ks t path e = ((path ≡ path_at 0) × OwnFault m ks t e) ⊎ InsideAt m ks t path e

-- the condition or the step has a fault; or one is of a wrong type, and no path is given yet
abbrev pub TurnFault : Maps → Kinds → (condition step : CelTree) → (gathered : ValueType) → Path → Refusal
    → Type 0
TurnFault m ks condition step gathered path e =
    (TypeFaultAt m ks condition path e ⊎ TypeFaultAt m ks step path e)
    ⊎ ((path ≡ path_at 0)
    × ((((t : ValueType) × Types m ks condition t × (t ≢ bool_type)) × (e ≡ NoOverload))
    ⊎ (((t : ValueType) × Types m ks step t × (t ≢ gathered)) × (e ≡ NoOverload))))

-- the step has a fault; or it is of a wrong type, and no path is given yet
abbrev pub StepFault : Maps → Kinds → (step : CelTree) → (gathered : ValueType) → Path → Refusal → Type 0
StepFault m ks step gathered path e = TypeFaultAt m ks step path e
    ⊎ ((path ≡ path_at 0) × ((t : ValueType) × Types m ks step t × (t ≢ gathered)) × (e ≡ NoOverload))

-- these are the elaborations of two expressions, whose entries agree
abbrev pub AreTwo : Maps → Kinds → (first second : CelTree) → TypedTree → TypedTree → Type 0
AreTwo m ks first second a b = IsFound m ks first a × IsFound m ks second b

-- one of two expressions has a fault
abbrev pub EitherFault : Maps → Kinds → (first second : CelTree) → Path → Refusal → Type 0
EitherFault m ks first second path e = TypeFaultAt m ks first path e ⊎ TypeFaultAt m ks second path e

-- these are the elaborations of the condition, the step and the result of a comprehension, whose range and initial
-- value have these types
abbrev pub IsBody : Maps → Kinds → LoopParts → (walked gathered : ValueType)
    → (condition step result : TypedTree) → Type 0
IsBody m ks p walked gathered c s e = (each : List ValueType)
    × IsOver (variables_of p.iter_var2) walked each
    × IsTurn m (turn_scope p.iter_var p.iter_var2 p.accu_var each gathered ks) p.loop_condition p.loop_step
    gathered c s
    × IsFound m ((p.accu_var, gathered) ∷ ks) p.result e

-- the range has no elements, and no path is given yet. Or the condition, the step or the result has a fault, or is of a
-- wrong type
abbrev pub BodyFault : Maps → Kinds → LoopParts → (walked gathered : ValueType) → Path → Refusal → Type 0
BodyFault m ks p walked gathered path e =
    ((path ≡ path_at 0) × NoElements (variables_of p.iter_var2) walked e)
    ⊎ ((each : List ValueType) × IsOver (variables_of p.iter_var2) walked each
    × (TurnFault m (turn_scope p.iter_var p.iter_var2 p.accu_var each gathered ks) p.loop_condition p.loop_step
    gathered path e ⊎ TypeFaultAt m ((p.accu_var, gathered) ∷ ks) p.result path e))
