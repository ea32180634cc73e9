-- The faults of a checked expression, each with its refusal: rule by rule as in Typing, and entry by
-- entry. An expression may have several faults. If a fault compares types, the parts have these types
-- by their rules; their entries do not matter. The parts of a comprehension that see its locals have
-- faults only where these locals have types. An expression without a fault that has a type by the rules is typed.
use Rattle.std.specs.Prelude.{◌≡◌, ◌≢◌, ◌⊎◌, ◌<◌, ℕ, Bool, true, false, List, [], ◌∷◌, Option, Some, None, option_map}
use Rattle.std.specs.FinMap.{get}
use Rattle.proto_wire.specs.declared.refusal.Refusal.{Refusal}
use Rattle.proto_wire.specs.declared.refusal.Refusal.TheVariants.{BadReference, BadTypeEntry, NeedsType, NoOverload, TooLarge, Unsupported, UnknownName}
use Rattle.cel_value.specs.Types.{ValueType, bool_type, map_type, type_of_key}
use Rattle.cel_value.specs.declared.cel_type.KeyType.{KeyType}
use Rattle.cel_value.specs.declared.cel_type.KeyType.TheVariants as keys
use Rattle.cel_tree.specs.Checked.{CelChecked, CelReference, CelTypeEntry, of_type, dyn_type, unsupported_type}
use Rattle.cel_tree.specs.Tree.{CelTree, constant, ident, select, call, list_literal, map_literal, comprehension, CelTarget, no_target, target, CelTrees, no_trees, tree, CelTreeEntries, no_tree_entries, tree_entry}
use Rattle.cel_overload.specs.Functions.{function_named}
use Rattle.cel_overload.specs.Overloads.{IsOverload}
use Rattle.cel_overload.specs.declared.function.Function.{Function}
use Rattle.cel_overload.specs.declared.overload.Overload.{Overload}
use Rattle.cel_ops.specs.Attributes.{attribute_type}
use Rattle.cel_types.specs.Attributes.{attribute_named}
use Rattle.cel_types.specs.Names.{bare_root, joined_name, local, root_of, turn_scope, variables_of}
use Rattle.cel_types.specs.declared.typed.Variables.{Variables}
use Rattle.cel_types.specs.Typing.{IsList, IsMap, IsOver, Kinds, Maps, NamesFault, RefAgrees, Types, TypesEach, TypesTarget, constant_type, has_target, locals_in, maps_of, most_locals, name_type}

-- ---- entries

-- a type entry is of an unsupported kind, or gives another type than the node's
pub data NodeTypeFault (entry : Option CelTypeEntry) (Has : ValueType → Type 0) (e : Refusal) : Type 0
  where
    unsupported_kind : entry ≡ Some unsupported_type → e ≡ Unsupported → NodeTypeFault entry Has e
    another_type : (s t : ValueType) → Has t → entry ≡ Some (of_type s) → s ≢ t
        → e ≡ BadTypeEntry → NodeTypeFault entry Has e

-- a fault of an empty literal's entry: it is absent or `dyn`, or gives a type of another kind
pub data EmptyFault (entry : Option CelTypeEntry) (IsKind : ValueType → Type 0) (e : Refusal) : Type 0
  where
    unstated : (entry ≡ None) ⊎ (entry ≡ Some dyn_type) → e ≡ NeedsType → EmptyFault entry IsKind e
    of_another_kind : (s : ValueType) → entry ≡ Some (of_type s) → (IsKind s → ⊥)
        → e ≡ BadTypeEntry → EmptyFault entry IsKind e

-- ---- nodes

-- a fault of an Ident: it is neither a local nor an attribute, or its reference entry differs
pub data IdentFault (ref : Option CelReference) (ks : Kinds) (name : List ℕ) (e : Refusal) : Type 0
  where
    unknown : name_type name (local name ks) ≡ None → e ≡ UnknownName → IdentFault ref ks name e
    other_reference : (t : ValueType) → name_type name (local name ks) ≡ Some t
        → (RefAgrees ref name → ⊥) → e ≡ BadReference → IdentFault ref ks name e

module _ (ref : Option CelReference) (root : Option (List ℕ)) (Operand : ValueType → Type 0)
    (InOperand : Refusal → Type 0) (field : List ℕ) (test_only : Bool) (e : Refusal) where
  -- a fault of a Select. If its operand is a root: there is no such attribute, it is a test, or the
  -- reference entry differs. Otherwise: the operand is not a map from texts, or has a fault itself
  pub data SelectFault : Type 0 where
    unknown : (r : List ℕ) → root ≡ Some r → attribute_named (joined_name r field) ≡ None
        → e ≡ UnknownName → SelectFault
    asked : (r : List ℕ) → root ≡ Some r → test_only ≡ true → e ≡ UnknownName → SelectFault
    other_reference : (r : List ℕ) (t : ValueType) → root ≡ Some r → test_only ≡ false
        → option_map attribute_type (attribute_named (joined_name r field)) ≡ Some t
        → (RefAgrees ref (joined_name r field) → ⊥) → e ≡ BadReference → SelectFault
    no_names : (s : ValueType) → root ≡ None → Operand s → ((t : ValueType) → s ≢ map_type keys.Text t)
        → e ≡ NoOverload → SelectFault
    in_operand : root ≡ None → InOperand e → SelectFault

-- a fault of a call: its function is not known, no overload takes the operands, or an operand has a
-- fault
pub data CallsFault (name : List ℕ) (on : Bool) (Operands : List ValueType → Type 0)
    (InOperands : Refusal → Type 0) (e : Refusal) : Type 0 where
  unknown : function_named name ≡ None → e ≡ UnknownName
      → CallsFault name on Operands InOperands e
  no_overload : (f : Function) (ts : List ValueType) → function_named name ≡ Some f → Operands ts
      → ((o : Overload) (t : ValueType) → IsOverload f on ts o t → ⊥) → e ≡ NoOverload
      → CallsFault name on Operands InOperands e
  in_operand : InOperands e → CallsFault name on Operands InOperands e

module _ (HasElement : ValueType → Type 0) (InElements : Refusal → Type 0) (e : Refusal) where
  -- a fault of a list literal's elements: two have different types, or one has a fault
  pub data ElementsFault : Type 0 where
    two_types : (s t : ValueType) → HasElement s → HasElement t → s ≢ t → e ≡ NoOverload → ElementsFault
    in_element : InElements e → ElementsFault

module _ (HasKey HasValue : ValueType → Type 0) (InEntries : Refusal → Type 0) (e : Refusal) where
  -- a fault of a map literal's entries: two keys or two values have different types. Or a key's type is
  -- not a type of keys, or a part has a fault
  pub data PairsFault : Type 0 where
    two_key_types : (s t : ValueType) → HasKey s → HasKey t → s ≢ t → e ≡ NoOverload → PairsFault
    two_value_types : (s t : ValueType) → HasValue s → HasValue t → s ≢ t → e ≡ NoOverload → PairsFault
    no_key_type : (s : ValueType) → HasKey s → ((k : KeyType) → s ≢ type_of_key k)
        → e ≡ NoOverload → PairsFault
    in_entry : InEntries e → PairsFault

-- the types of what the variables get from the range
abbrev pub AreGot : Variables → (Range : ValueType → Type 0) → List ValueType → Type 0
AreGot vars Range each = (range_type : ValueType) × Range range_type × IsOver vars range_type each

module _ (x y acc : List ℕ) (Range Init : ValueType → Type 0)
    (Condition Step : List ValueType → ValueType → ValueType → Type 0)
    (InRange InInit : Refusal → Type 0) (InTurn : List ValueType → ValueType → Refusal → Type 0)
    (InResult : ValueType → Refusal → Type 0) (e : Refusal) where
  -- a fault of a comprehension: of its names or of a part, or its range is no list and no map. Or the condition is not a
  -- bool, or the step is not of the accumulator's type
  pub data LoopFault : Type 0 where
    in_names : NamesFault x y acc e → LoopFault
    no_elements : (s : ValueType) → Range s → ((each : List ValueType) → IsOver (variables_of y) s each → ⊥)
        → e ≡ NoOverload → LoopFault
    no_condition : (each : List ValueType) (a t : ValueType) → AreGot (variables_of y) Range each → Init a
        → Condition each a t → t ≢ bool_type → e ≡ NoOverload → LoopFault
    no_step : (each : List ValueType) (a t : ValueType) → AreGot (variables_of y) Range each → Init a
        → Step each a t → t ≢ a → e ≡ NoOverload → LoopFault
    in_range : InRange e → LoopFault
    in_init : InInit e → LoopFault
    in_turn : (each : List ValueType) (a : ValueType) → AreGot (variables_of y) Range each → Init a
        → InTurn each a e → LoopFault
    in_result : (a : ValueType) → Init a → InResult a e → LoopFault

-- ---- expressions

-- a fault of a list literal, empty or not
abbrev pub ListFault : Option CelTypeEntry → CelTrees → (HasElement : ValueType → Type 0)
    → (Refusal → Type 0) → Refusal → Type 0
ListFault entry no_trees HasElement InElements e = EmptyFault entry IsList e
ListFault entry (tree t ts) HasElement InElements e = ElementsFault HasElement InElements e

-- a fault of a map literal, empty or not
abbrev pub MapsFault : Option CelTypeEntry → CelTreeEntries
    → (HasKey HasValue : ValueType → Type 0) → (Refusal → Type 0) → Refusal → Type 0
MapsFault entry no_tree_entries HasKey HasValue InEntries e = EmptyFault entry IsMap e
MapsFault entry (tree_entry id key value es) HasKey HasValue InEntries e =
    PairsFault HasKey HasValue InEntries e

-- some expression has the type
abbrev pub SomeTypes : Maps → Kinds → CelTrees → ValueType → Type 0
SomeTypes m ks no_trees t = ⊥
SomeTypes m ks (tree a others) t = Types m ks a t ⊎ SomeTypes m ks others t

-- some key has the type
abbrev pub KeyTypes : Maps → Kinds → CelTreeEntries → ValueType → Type 0
KeyTypes m ks no_tree_entries t = ⊥
KeyTypes m ks (tree_entry id key value es) t = Types m ks key t ⊎ KeyTypes m ks es t

-- some value has the type
abbrev pub ItemTypes : Maps → Kinds → CelTreeEntries → ValueType → Type 0
ItemTypes m ks no_tree_entries t = ⊥
ItemTypes m ks (tree_entry id key value es) t = Types m ks value t ⊎ ItemTypes m ks es t

abbrev mutual
  -- a fault of the node, of its type entry, or of an expression inside
  pub TypeFault : Maps → Kinds → CelTree → Refusal → Type 0
  TypeFault m ks (constant id v) e = ((constant_type v ≡ None) × (e ≡ Unsupported))
      ⊎ NodeTypeFault (get m.types id) (Types m ks (constant id v)) e
  TypeFault m ks (ident id name) e = IdentFault (get m.refs id) ks name e
      ⊎ ((bare_root name ks ≡ false)
      × NodeTypeFault (get m.types id) (Types m ks (ident id name)) e)
  TypeFault m ks (select id operand field test_only) e =
      SelectFault (get m.refs id) (root_of operand ks) (Types m ks operand)
      (TypeFault m ks operand) field test_only e
      ⊎ NodeTypeFault (get m.types id) (Types m ks (select id operand field test_only)) e
  TypeFault m ks (call id name on args) e =
      CallsFault name (has_target on) (TypesTarget m ks on (TypesEach m ks args))
      (λ d. TargetFault m ks on d ⊎ SomeFault m ks args d) e
      ⊎ NodeTypeFault (get m.types id) (Types m ks (call id name on args)) e
  TypeFault m ks (list_literal id elements) e =
      ListFault (get m.types id) elements (SomeTypes m ks elements) (SomeFault m ks elements) e
      ⊎ NodeTypeFault (get m.types id) (Types m ks (list_literal id elements)) e
  TypeFault m ks (map_literal id entries) e =
      MapsFault (get m.types id) entries (KeyTypes m ks entries) (ItemTypes m ks entries)
      (PairFault m ks entries) e
      ⊎ NodeTypeFault (get m.types id) (Types m ks (map_literal id entries)) e
  TypeFault m ks (comprehension id x y acc range init condition step result) e =
      LoopFault x y acc (Types m ks range) (Types m ks init)
      (λ each a. Types m (turn_scope x y acc each a ks) condition)
      (λ each a. Types m (turn_scope x y acc each a ks) step)
      (TypeFault m ks range) (TypeFault m ks init)
      (λ each a d. TypeFault m (turn_scope x y acc each a ks) condition d
      ⊎ TypeFault m (turn_scope x y acc each a ks) step d)
      (λ a. TypeFault m ((acc, a) ∷ ks) result) e
      ⊎ NodeTypeFault (get m.types id)
      (Types m ks (comprehension id x y acc range init condition step result)) e

  -- a fault of a call's target, if there is one
  pub TargetFault : Maps → Kinds → CelTarget → Refusal → Type 0
  TargetFault m ks no_target e = ⊥
  TargetFault m ks (target on) e = TypeFault m ks on e

  -- a fault of some expression
  pub SomeFault : Maps → Kinds → CelTrees → Refusal → Type 0
  SomeFault m ks no_trees e = ⊥
  SomeFault m ks (tree t ts) e = TypeFault m ks t e ⊎ SomeFault m ks ts e

  -- a fault of some key or value
  pub PairFault : Maps → Kinds → CelTreeEntries → Refusal → Type 0
  PairFault m ks no_tree_entries e = ⊥
  PairFault m ks (tree_entry id key value es) e =
      TypeFault m ks key e ⊎ (TypeFault m ks value e ⊎ PairFault m ks es e)

-- a fault of a checked expression: a node has too many locals in scope, or a node or its entry has a fault
pub data CheckFault (c : CelChecked) (e : Refusal) : Type 0 where
  too_many_locals : most_locals < locals_in c.tree → e ≡ TooLarge → CheckFault c e
  untyped : TypeFault (maps_of c) [] c.tree e → CheckFault c e

-- the checked expression has the type by the rules, and no fault. That is, its entries agree, and no node has too many
-- locals in scope
pub record IsTyped (c : CelChecked) (t : ValueType) : Type 0 where
  pub types : Types (maps_of c) [] c.tree t
  pub faultless : (e : Refusal) → CheckFault c e → ⊥
