-- At which node of an expression a fault of its types is.
use Rattle.std.specs.Prelude.{◌≡◌, ◌⊎◌, ◌+◌, ℕ, ℤ, false, if◌then◌else◌, nat_lt, List, [], ◌∷◌, Option, None, Some}
use Rattle.std.specs.Option.{option_or}
use Rattle.std.specs.FinMap.{get}
use Rattle.proto_wire.specs.Places.{Path}
use Rattle.proto_wire.specs.declared.refusal.Refusal.{Refusal}
use Rattle.proto_wire.specs.declared.refusal.Refusal.TheVariants.{TooLarge, Unsupported}
use Rattle.cel_value.specs.Types.{ValueType}
use Rattle.cel_tree.specs.Checked.{CelChecked}
use Rattle.cel_tree.specs.Places.{NamesNode}
use Rattle.cel_tree.specs.Tree.{CelTree, constant, ident, select, call, list_literal, map_literal, comprehension, CelTarget, no_target, target, CelTrees, no_trees, tree, CelTreeEntries, no_tree_entries, tree_entry}
use Rattle.cel_types.specs.Names.{bare_root, root_of, turn_scope, variable_count, variables_of}
use Rattle.cel_types.specs.Typing.{Kinds, Maps, Types, TypesEach, TypesTarget, constant_type, has_target, maps_of, most_locals}
use Rattle.cel_types.specs.TypingFaults.{AreGot, CallsFault, IdentFault, ItemTypes, KeyTypes, ListFault, LoopFault, MapsFault, NodeTypeFault, SelectFault, SomeTypes}

-- the id of the root
abbrev pub id_of : CelTree → ℤ
id_of (constant id c) = id
id_of (ident id n) = id
id_of (select id o f t) = id
id_of (call id f t xs) = id
id_of (list_literal id es) = id
id_of (map_literal id es) = id
id_of (comprehension id x y acc range init condition step result) = id

-- a fault of the node itself, or of its type entry, whatever the expressions inside have
abbrev pub OwnFault : Maps → Kinds → CelTree → Refusal → Type 0
OwnFault m ks (constant id v) e = ((constant_type v ≡ None) × (e ≡ Unsupported))
    ⊎ NodeTypeFault (get m.types id) (Types m ks (constant id v)) e
OwnFault m ks (ident id name) e = IdentFault (get m.refs id) ks name e
    ⊎ ((bare_root name ks ≡ false)
    × NodeTypeFault (get m.types id) (Types m ks (ident id name)) e)
OwnFault m ks (select id operand field test_only) e =
    SelectFault (get m.refs id) (root_of operand ks) (Types m ks operand) (λ d. ⊥) field test_only e
    ⊎ NodeTypeFault (get m.types id) (Types m ks (select id operand field test_only)) e
OwnFault m ks (call id name on args) e =
    CallsFault name (has_target on) (TypesTarget m ks on (TypesEach m ks args)) (λ d. ⊥) e
    ⊎ NodeTypeFault (get m.types id) (Types m ks (call id name on args)) e
OwnFault m ks (list_literal id elements) e =
    ListFault (get m.types id) elements (SomeTypes m ks elements) (λ d. ⊥) e
    ⊎ NodeTypeFault (get m.types id) (Types m ks (list_literal id elements)) e
OwnFault m ks (map_literal id entries) e =
    MapsFault (get m.types id) entries (KeyTypes m ks entries) (ItemTypes m ks entries) (λ d. ⊥) e
    ⊎ NodeTypeFault (get m.types id) (Types m ks (map_literal id entries)) e
OwnFault m ks (comprehension id x y acc range init condition step result) e =
    LoopFault x y acc (Types m ks range) (Types m ks init)
    (λ each a. Types m (turn_scope x y acc each a ks) condition)
    (λ each a. Types m (turn_scope x y acc each a ks) step)
    (λ d. ⊥) (λ d. ⊥) (λ each a d. ⊥) (λ a d. ⊥) e
    ⊎ NodeTypeFault (get m.types id)
    (Types m ks (comprehension id x y acc range init condition step result)) e

abbrev mutual
  -- the path names a node of the expression that has the fault itself
  pub TypeFaultAt : Maps → Kinds → CelTree → Path → Refusal → Type 0
  TypeFaultAt m ks (constant id v) path e = NamesNode id path × OwnFault m ks (constant id v) e
  TypeFaultAt m ks (ident id name) path e = NamesNode id path × OwnFault m ks (ident id name) e
  TypeFaultAt m ks (select id operand field test_only) path e =
      (NamesNode id path × OwnFault m ks (select id operand field test_only) e)
      ⊎ ((root_of operand ks ≡ None) × TypeFaultAt m ks operand path e)
  TypeFaultAt m ks (call id name on args) path e =
      (NamesNode id path × OwnFault m ks (call id name on args) e)
      ⊎ (TargetFaultAt m ks on path e ⊎ SomeFaultAt m ks args path e)
  TypeFaultAt m ks (list_literal id elements) path e =
      (NamesNode id path × OwnFault m ks (list_literal id elements) e) ⊎ SomeFaultAt m ks elements path e
  TypeFaultAt m ks (map_literal id entries) path e =
      (NamesNode id path × OwnFault m ks (map_literal id entries) e) ⊎ PairFaultAt m ks entries path e
  TypeFaultAt m ks (comprehension id x y acc range init condition step result) path e =
      (NamesNode id path × OwnFault m ks (comprehension id x y acc range init condition step result) e)
      ⊎ ((TypeFaultAt m ks range path e ⊎ TypeFaultAt m ks init path e)
      ⊎ (((each : List ValueType) × (a : ValueType) × AreGot (variables_of y) (Types m ks range) each × Types m ks init a
      × (TypeFaultAt m (turn_scope x y acc each a ks) condition path e
      ⊎ TypeFaultAt m (turn_scope x y acc each a ks) step path e))
      ⊎ ((a : ValueType) × Types m ks init a × TypeFaultAt m ((acc, a) ∷ ks) result path e)))

  -- the same of a call's target, if there is one
  pub TargetFaultAt : Maps → Kinds → CelTarget → Path → Refusal → Type 0
  TargetFaultAt m ks no_target path e = ⊥
  TargetFaultAt m ks (target on) path e = TypeFaultAt m ks on path e

  -- the same of some expression
  pub SomeFaultAt : Maps → Kinds → CelTrees → Path → Refusal → Type 0
  SomeFaultAt m ks no_trees path e = ⊥
  SomeFaultAt m ks (tree t ts) path e = TypeFaultAt m ks t path e ⊎ SomeFaultAt m ks ts path e

  -- the same of some key or value
  pub PairFaultAt : Maps → Kinds → CelTreeEntries → Path → Refusal → Type 0
  PairFaultAt m ks no_tree_entries path e = ⊥
  PairFaultAt m ks (tree_entry id key value es) path e =
      TypeFaultAt m ks key path e ⊎ (TypeFaultAt m ks value path e ⊎ PairFaultAt m ks es path e)

-- the id of a node that has `n` locals in scope, if that is more than it may have, or else what is inside
abbrev pub crowded_here : ℕ → ℤ → (inside : Option ℤ) → Option ℤ
crowded_here n id inside = if nat_lt most_locals n then Some id else inside

abbrev mutual
  -- the id of the first node of an expression that has more locals in scope than it may; none if each node has few. The
  -- expression has `n` locals in scope. In a comprehension, the condition and the step have further ones, its variables and
  -- its accumulator, and the result has the accumulator
  pub first_crowded : ℕ → CelTree → Option ℤ
  first_crowded n (constant id v) = crowded_here n id None
  first_crowded n (ident id name) = crowded_here n id None
  first_crowded n (select id operand field test_only) = crowded_here n id (first_crowded n operand)
  first_crowded n (call id name on args) =
      crowded_here n id (option_or (first_crowded_target n on) (first_crowded_each n args))
  first_crowded n (list_literal id elements) = crowded_here n id (first_crowded_each n elements)
  first_crowded n (map_literal id entries) = crowded_here n id (first_crowded_entry n entries)
  first_crowded n (comprehension id x y acc range init condition step result) = crowded_here n id
      (option_or (first_crowded n range) (option_or (first_crowded n init)
      (option_or (first_crowded (n + (variable_count (variables_of y) + 1)) condition)
      (option_or (first_crowded (n + (variable_count (variables_of y) + 1)) step)
      (first_crowded (n + 1) result)))))

  -- the same of a call's target, if there is one
  pub first_crowded_target : ℕ → CelTarget → Option ℤ
  first_crowded_target n no_target = None
  first_crowded_target n (target on) = first_crowded n on

  -- the same of expressions in order
  pub first_crowded_each : ℕ → CelTrees → Option ℤ
  first_crowded_each n no_trees = None
  first_crowded_each n (tree t ts) = option_or (first_crowded n t) (first_crowded_each n ts)

  -- the same of keys and values in turn
  pub first_crowded_entry : ℕ → CelTreeEntries → Option ℤ
  first_crowded_entry n no_tree_entries = None
  first_crowded_entry n (tree_entry id key value es) =
      option_or (first_crowded n key) (option_or (first_crowded n value) (first_crowded_entry n es))

-- a fault of a checked expression at its place
pub data CheckFaultAt (c : CelChecked) (path : Path) (e : Refusal) : Type 0 where
  too_many_locals : (id : ℤ) → first_crowded 0 c.tree ≡ Some id → NamesNode id path → e ≡ TooLarge → CheckFaultAt c path e
  untyped : TypeFaultAt (maps_of c) [] c.tree path e → CheckFaultAt c path e
