-- Which expressions have a type: CEL language definition, "Type Checking" and "Name Resolution", and
-- `google/api/expr/v1alpha1/checked.proto`, CheckedExpr. Rules find types from the tree. Entries of
-- the message's maps have to agree with them; only the type of an empty literal is taken from its
-- entry.
use Rattle.std.specs.Prelude.{◌≡◌, ◌≢◌, ◌⊎◌, ◌+◌, ℕ, Bool, true, false, max, List, [], ◌∷◌, Option, Some, None, option_map}
use Rattle.std.specs.FinMap.{FinMap, get}
use Rattle.std.specs.Ordering.{int_cmp}
use Rattle.proto_wire.specs.declared.refusal.Refusal.{Refusal}
use Rattle.proto_wire.specs.declared.refusal.Refusal.TheVariants.{Missing, OutOfRange}
use Rattle.cel_value.specs.Types.{ValueType, bool_type, int_type, uint_type, text_type, bytes_type, list_type, map_type, type_of_key}
use Rattle.cel_value.specs.Values.{CelValue, bool, int, uint, text, bytes}
use Rattle.cel_value.specs.declared.cel_type.KeyType.{KeyType}
use Rattle.cel_value.specs.declared.cel_type.KeyType.TheVariants as keys
use Rattle.cel_tree.specs.Checked.{CelChecked, CelReference, CelTypeEntry, of_type}
use Rattle.cel_tree.specs.Tree.{CelTree, constant, ident, select, call, list_literal, map_literal, comprehension, CelTarget, no_target, target, CelTrees, no_trees, tree, CelTreeEntries, no_tree_entries, tree_entry}
use Rattle.cel_overload.specs.Overloads.{IsCall}
use Rattle.cel_overload.specs.declared.overload.Overload.{Overload}
use Rattle.cel_ops.specs.Attributes.{attribute_type}
use Rattle.cel_types.specs.Attributes.{attribute_named}
use Rattle.cel_types.specs.Names.{Scope, joined_name, local, root_of, turn_scope, variable_count, variables_of}
use Rattle.cel_types.specs.declared.typed.Variables.{Variables}
use Rattle.cel_types.specs.declared.typed.Variables.TheVariants as variables

-- how many locals may be in scope, shadowed ones included
abbrev pub most_locals : ℕ
most_locals = 64

-- the types of the locals in scope
abbrev pub Kinds : Type 0
Kinds = Scope ValueType

-- the maps of a message, by the ids of nodes
pub record Maps : Type 0 where
  pub types : FinMap int_cmp CelTypeEntry
  pub refs : FinMap int_cmp CelReference

-- ---- entries of the maps

-- the reference entry is absent, or names the variable and has no value
abbrev pub RefAgrees : Option CelReference → List ℕ → Type 0
RefAgrees None name = Unit {0}
RefAgrees (Some r) name = (r.name ≡ name) × (r.value ≡ None)

-- ---- one rule for each kind of node; the types of its parts are given

-- the type of a constant, by its kind
abbrev pub constant_type : CelValue → Option ValueType
constant_type (bool b) = Some bool_type
constant_type (int i) = Some int_type
constant_type (uint n) = Some uint_type
constant_type (text cs) = Some text_type
constant_type (bytes bs) = Some bytes_type
constant_type _ = None

-- the type of a name: that of its innermost local, or of the attribute
abbrev pub name_type : List ℕ → Option ValueType → Option ValueType
name_type name (Some t) = Some t
name_type name None = option_map attribute_type (attribute_named name)

-- the type of a Select is that of a root's attribute. Otherwise the operand is a map from texts, and the type is that of
-- its values, or bool for a test
abbrev pub SelectRule : Option (List ℕ) → (Operand : ValueType → Type 0) → List ℕ → Bool
    → ValueType → Type 0
SelectRule (Some root) Operand field true t = ⊥
SelectRule (Some root) Operand field false t =
    option_map attribute_type (attribute_named (joined_name root field)) ≡ Some t
SelectRule None Operand field true t = ((s : ValueType) × Operand (map_type keys.Text s)) × (t ≡ bool_type)
SelectRule None Operand field false t = Operand (map_type keys.Text t)

-- whether the call has a target
abbrev pub has_target : CelTarget → Bool
has_target no_target = false
has_target (target on) = true

-- the type is a list type
abbrev pub IsList : ValueType → Type 0
IsList (list_type t) = Unit {0}
IsList _ = ⊥

-- the type of a list literal is a list of its elements' one type; if it is empty, the list type of its
-- entry
abbrev pub ListRule : Option CelTypeEntry → CelTrees → (Elements : ValueType → Type 0)
    → ValueType → Type 0
ListRule entry no_trees Elements t = (entry ≡ Some (of_type t)) × IsList t
ListRule entry (tree first others) Elements t =
    (s : ValueType) × Elements s × (t ≡ list_type s)

-- the type is a map type
abbrev pub IsMap : ValueType → Type 0
IsMap (map_type k t) = Unit {0}
IsMap _ = ⊥

-- the type of a map literal is a map of the one type of its keys and the one type of its values. If it
-- is empty, it is the map type of its entry
abbrev pub MapRule : Option CelTypeEntry → CelTreeEntries
    → (Pairs : ValueType → ValueType → Type 0) → ValueType → Type 0
MapRule entry no_tree_entries Pairs t = (entry ≡ Some (of_type t)) × IsMap t
MapRule entry (tree_entry id key value others) Pairs t = (k : KeyType) × (s : ValueType)
    × Pairs (type_of_key k) s × (t ≡ map_type k s)

-- the types of what the variables get from a range of this type, the innermost first. One variable gets
-- items of a list or keys of a map. Of two, the first gets indices or keys, the second items or values
abbrev pub IsOver : Variables → ValueType → List ValueType → Type 0
IsOver variables.One (list_type s) each = each ≡ s ∷ []
IsOver variables.One (map_type k s) each = each ≡ type_of_key k ∷ []
IsOver variables.Two (list_type s) each = each ≡ s ∷ int_type ∷ []
IsOver variables.Two (map_type k s) each = each ≡ s ∷ type_of_key k ∷ []
IsOver _ _ each = ⊥

-- the first variable's name or the accumulator's is empty, or two names of a comprehension are the same
abbrev pub NamesFault : (x y acc : List ℕ) → Refusal → Type 0
NamesFault x y acc e = ((x ≡ []) × (e ≡ Missing)) ⊎ (((acc ≡ []) × (e ≡ Missing))
    ⊎ (((x ≡ acc) × (e ≡ OutOfRange)) ⊎ ((y ≢ []) × ((x ≡ y) ⊎ (y ≡ acc)) × (e ≡ OutOfRange))))

-- a comprehension over its range: its condition is a bool, and its step has the accumulator's type
pub record LoopRule (x y acc : List ℕ) (Range Init : ValueType → Type 0)
    (Condition Step : List ValueType → ValueType → ValueType → Type 0)
    (Result : ValueType → ValueType → Type 0) (t : ValueType) : Type 0 where
  pub names : (e : Refusal) → NamesFault x y acc e → ⊥
  pub walked : ValueType
  pub each : List ValueType
  pub gathered : ValueType
  pub range : Range walked
  pub over : IsOver (variables_of y) walked each
  pub init : Init gathered
  pub condition : Condition each gathered bool_type
  pub step : Step each gathered gathered
  pub result : Result gathered t

-- ---- expressions

abbrev mutual
  -- with these locals, the expression has the type, by the rule of its node. A call has the result's type of an
  -- overload that takes its operands, the target first
  pub Types : Maps → Kinds → CelTree → ValueType → Type 0
  Types m ks (constant id v) t = constant_type v ≡ Some t
  Types m ks (ident id name) t = name_type name (local name ks) ≡ Some t
  Types m ks (select id operand field test_only) t =
      SelectRule (root_of operand ks) (Types m ks operand) field test_only t
  Types m ks (call id name on args) t =
      (ts : List ValueType) × TypesTarget m ks on (TypesEach m ks args) ts
      × (o : Overload) × IsCall name (has_target on) ts o t
  Types m ks (list_literal id elements) t =
      ListRule (get m.types id) elements (TypesAll m ks elements) t
  Types m ks (map_literal id entries) t =
      MapRule (get m.types id) entries (TypesPairs m ks entries) t
  Types m ks (comprehension id x y acc range init condition step result) t =
      LoopRule x y acc (Types m ks range) (Types m ks init)
      (λ each a. Types m (turn_scope x y acc each a ks) condition)
      (λ each a. Types m (turn_scope x y acc each a ks) step)
      (λ a. Types m ((acc, a) ∷ ks) result) t

  -- the first type is that of the target, if there is one, and `Others` holds of the rest
  pub TypesTarget : Maps → Kinds → CelTarget → (List ValueType → Type 0) → List ValueType → Type 0
  TypesTarget m ks no_target Others ts = Others ts
  TypesTarget m ks (target on) Others [] = ⊥
  TypesTarget m ks (target on) Others (t ∷ ts) = Types m ks on t × Others ts

  -- each expression has the type at its place
  pub TypesEach : Maps → Kinds → CelTrees → List ValueType → Type 0
  TypesEach m ks no_trees [] = Unit {0}
  TypesEach m ks no_trees (t ∷ ts) = ⊥
  TypesEach m ks (tree a others) [] = ⊥
  TypesEach m ks (tree a others) (t ∷ ts) = Types m ks a t × TypesEach m ks others ts

  -- all expressions have this type
  pub TypesAll : Maps → Kinds → CelTrees → ValueType → Type 0
  TypesAll m ks no_trees t = Unit {0}
  TypesAll m ks (tree a others) t = Types m ks a t × TypesAll m ks others t

  -- all keys have the first type, and all values the second
  pub TypesPairs : Maps → Kinds → CelTreeEntries → ValueType → ValueType → Type 0
  TypesPairs m ks no_tree_entries s t = Unit {0}
  TypesPairs m ks (tree_entry id key value others) s t =
      Types m ks key s × Types m ks value t × TypesPairs m ks others s t

-- ---- scopes

-- the greatest of five numbers
abbrev pub greatest : (a b c d e : ℕ) → ℕ
greatest a b c d e = max a (max b (max c (max d e)))

abbrev mutual
  -- the greatest number of the expression's own locals that a node inside has in scope. A
  -- comprehension adds its variables and one for its condition and step, and one for its result
  pub locals_in : CelTree → ℕ
  locals_in (constant id v) = 0
  locals_in (ident id name) = 0
  locals_in (select id operand field test_only) = locals_in operand
  locals_in (call id name on args) = max (locals_in_target on) (locals_in_each args)
  locals_in (list_literal id elements) = locals_in_each elements
  locals_in (map_literal id entries) = locals_in_entries entries
  locals_in (comprehension id x y acc range init condition step result) =
      greatest (locals_in range) (locals_in init) (variable_count (variables_of y) + 1 + locals_in condition)
      (variable_count (variables_of y) + 1 + locals_in step) (1 + locals_in result)

  -- the same for a call's target, if there is one
  pub locals_in_target : CelTarget → ℕ
  locals_in_target no_target = 0
  locals_in_target (target on) = locals_in on

  -- the greatest such number of these expressions
  pub locals_in_each : CelTrees → ℕ
  locals_in_each no_trees = 0
  locals_in_each (tree t ts) = max (locals_in t) (locals_in_each ts)

  -- the greatest such number of these keys and values
  pub locals_in_entries : CelTreeEntries → ℕ
  locals_in_entries no_tree_entries = 0
  locals_in_entries (tree_entry id key value es) =
      max (locals_in key) (max (locals_in value) (locals_in_entries es))

-- ---- checked expressions

-- the maps of a checked expression
abbrev pub maps_of : CelChecked → Maps
maps_of c = record { types = c.types; refs = c.refs }
