-- When the entries of an expression agree with its types: `google/api/expr/v1alpha1/checked.proto`, CheckedExpr. The law
-- `typed_is_agreeing` says that this is what it means to have a type by the rules, and no fault.
use Rattle.std.specs.Prelude.{◌≡◌, ◌≤◌, ℕ, List, [], ◌∷◌, Option, Some, None}
use Rattle.std.specs.FinMap.{get}
use Rattle.cel_value.specs.Types.{ValueType}
use Rattle.cel_tree.specs.Checked.{CelChecked, CelReference, CelTypeEntry, of_type, dyn_type, unsupported_type}
use Rattle.cel_tree.specs.Tree.{CelTree, constant, ident, select, call, list_literal, map_literal, comprehension, CelTarget, no_target, target, CelTrees, no_trees, tree, CelTreeEntries, no_tree_entries, tree_entry}
use Rattle.cel_types.specs.Names.{joined_name, root_of, turn_scope, variables_of}
use Rattle.cel_types.specs.Typing.{IsOver, Kinds, Maps, RefAgrees, Types, locals_in, maps_of, most_locals}

-- the type entry is absent, is `dyn`, or gives the type
abbrev pub TypeAgrees : Option CelTypeEntry → ValueType → Type 0
TypeAgrees None t = Unit {0}
TypeAgrees (Some dyn_type) t = Unit {0}
TypeAgrees (Some unsupported_type) t = ⊥
TypeAgrees (Some (of_type s)) t = s ≡ t

-- the type entry agrees with each type that the node has
abbrev pub EntryAgrees : Option CelTypeEntry → (Has : ValueType → Type 0) → Type 0
EntryAgrees entry Has = (t : ValueType) → Has t → TypeAgrees entry t

-- the reference entry agrees with the name, if the node has a type
abbrev pub NameAgrees : Option CelReference → List ℕ → (Has : ValueType → Type 0) → Type 0
NameAgrees ref name Has = (t : ValueType) → Has t → RefAgrees ref name

-- for a root's attribute the reference entry agrees; for any other Select, the operand's entries do
abbrev pub SelectAgrees : Option CelReference → Option (List ℕ) → List ℕ
    → (Has : ValueType → Type 0) → (Operand : Type 0) → Type 0
SelectAgrees ref (Some root) field Has Operand = NameAgrees ref (joined_name root field) Has
SelectAgrees ref None field Has Operand = Operand

abbrev mutual
  -- with these locals, the entries of the expression's node and of all nodes inside agree. Entries of
  -- a root under a Select are not used
  pub EntriesAgree : Maps → Kinds → CelTree → Type 0
  EntriesAgree m ks (constant id v) =
      EntryAgrees (get m.types id) (Types m ks (constant id v))
  EntriesAgree m ks (ident id name) =
      EntryAgrees (get m.types id) (Types m ks (ident id name))
      × NameAgrees (get m.refs id) name (Types m ks (ident id name))
  EntriesAgree m ks (select id operand field test_only) =
      EntryAgrees (get m.types id) (Types m ks (select id operand field test_only))
      × SelectAgrees (get m.refs id) (root_of operand ks) field
      (Types m ks (select id operand field test_only)) (EntriesAgree m ks operand)
  EntriesAgree m ks (call id name on args) =
      EntryAgrees (get m.types id) (Types m ks (call id name on args))
      × TargetAgrees m ks on × EachAgrees m ks args
  EntriesAgree m ks (list_literal id elements) =
      EntryAgrees (get m.types id) (Types m ks (list_literal id elements))
      × EachAgrees m ks elements
  EntriesAgree m ks (map_literal id entries) =
      EntryAgrees (get m.types id) (Types m ks (map_literal id entries))
      × PairsAgree m ks entries
  EntriesAgree m ks (comprehension id x y acc range init condition step result) =
      EntryAgrees (get m.types id)
      (Types m ks (comprehension id x y acc range init condition step result))
      × EntriesAgree m ks range × EntriesAgree m ks init
      × ((walked : ValueType) (each : List ValueType) (gathered : ValueType) → Types m ks range walked
      → IsOver (variables_of y) walked each → Types m ks init gathered
      → EntriesAgree m (turn_scope x y acc each gathered ks) condition
      × EntriesAgree m (turn_scope x y acc each gathered ks) step)
      × ((gathered : ValueType) → Types m ks init gathered
      → EntriesAgree m ((acc, gathered) ∷ ks) result)

  -- the entries in a call's target, if there is one, agree
  pub TargetAgrees : Maps → Kinds → CelTarget → Type 0
  TargetAgrees m ks no_target = Unit {0}
  TargetAgrees m ks (target on) = EntriesAgree m ks on

  -- the entries of each expression agree
  pub EachAgrees : Maps → Kinds → CelTrees → Type 0
  EachAgrees m ks no_trees = Unit {0}
  EachAgrees m ks (tree a others) = EntriesAgree m ks a × EachAgrees m ks others

  -- the entries of each key and value agree
  pub PairsAgree : Maps → Kinds → CelTreeEntries → Type 0
  PairsAgree m ks no_tree_entries = Unit {0}
  PairsAgree m ks (tree_entry id key value others) =
      EntriesAgree m ks key × EntriesAgree m ks value × PairsAgree m ks others

-- the checked expression has the type, its entries agree, and no node has too many locals in scope
pub record IsAgreeing (c : CelChecked) (t : ValueType) : Type 0 where
  pub few : locals_in c.tree ≤ most_locals
  pub types : Types (maps_of c) [] c.tree t
  pub entries : EntriesAgree (maps_of c) [] c.tree
