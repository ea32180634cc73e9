-- Elaborated expressions: each node has its type, each name is a local or an attribute, and each
-- call is an overload. Compiling and measuring look up no name and no type again.
use Rattle.std.specs.Prelude.{◌≡◌, ℕ, true, false, List, [], ◌∷◌, length, Option, Some, None, if◌then◌else◌}
use Rattle.std.specs.Str.{bytes_eq}
use Rattle.attributes.specs.declared.attribute.AttrId.{AttrId}
use Rattle.cel_value.specs.Types.{ValueType}
use Rattle.cel_value.specs.Values.{CelValue}
use Rattle.cel_tree.specs.Checked.{CelChecked}
use Rattle.cel_tree.specs.Tree.{CelTree, constant, ident, select, call, list_literal, map_literal, comprehension, CelTarget, no_target, target, CelTrees, no_trees, tree, CelTreeEntries, no_tree_entries, tree_entry}
use Rattle.cel_overload.specs.Overloads.{IsCall}
use Rattle.cel_overload.specs.declared.overload.Overload.{Overload}
use Rattle.cel_types.specs.Attributes.{attribute_named}
use Rattle.cel_types.specs.Names.{Scope, joined_name, root_of, turn_scope, variables_of}
use Rattle.cel_types.specs.declared.typed.Variables.{Variables}
use Rattle.cel_types.specs.Typing.{IsOver, Kinds, Maps, Types, has_target, maps_of}
use Rattle.cel_types.specs.TypingFaults.{IsTyped}

mutual
  -- an expression; the type of each node is first
  pub data TypedTree : Type 0 where
    typed_constant : ValueType → CelValue → TypedTree
    -- a local, by the number of locals outside of it
    typed_local : ValueType → (outside : ℕ) → TypedTree
    typed_attribute : ValueType → AttrId → TypedTree
    -- the value of a map at a name, and whether the map has the name
    typed_field : ValueType → (map : TypedTree) → (name : List ℕ) → TypedTree
    typed_has : ValueType → (map : TypedTree) → (name : List ℕ) → TypedTree
    typed_call : ValueType → Overload → (operands : TypedTrees) → TypedTree
    typed_list : ValueType → (elements : TypedTrees) → TypedTree
    -- a map literal: keys and values in turn
    typed_map : ValueType → (pairs : TypedTrees) → TypedTree
    typed_loop : ValueType → Variables → (range init condition step result : TypedTree) → TypedTree

  -- expressions in order
  pub data TypedTrees : Type 0 where
    no_typed : TypedTrees
    typed : TypedTree → TypedTrees → TypedTrees

-- the type of an expression
abbrev pub kind : TypedTree → ValueType
kind (typed_constant t v) = t
kind (typed_local t outside) = t
kind (typed_attribute t a) = t
kind (typed_field t on name) = t
kind (typed_has t on name) = t
kind (typed_call t o operands) = t
kind (typed_list t elements) = t
kind (typed_map t pairs) = t
kind (typed_loop t vars range init condition step result) = t

-- the types of expressions
abbrev pub kinds : TypedTrees → List ValueType
kinds no_typed = []
kinds (typed e es) = kind e ∷ kinds es

-- the number of locals outside of the innermost local of a name
abbrev pub slot : {A : Type 0} → List ℕ → Scope A → Option ℕ
slot name [] = None
slot name (l ∷ ls) = if bytes_eq l.0 name then Some (length ls) else slot name ls

abbrev mutual
  -- with these locals, the elaborated expression has a type of the expression, and elaborates its
  -- names, calls and parts
  pub Elaborates : Maps → Kinds → CelTree → TypedTree → Type 0
  Elaborates m ks (constant id v) (typed_constant t w) =
      Types m ks (constant id v) t × (v ≡ w)
  Elaborates m ks (ident id name) (typed_local t outside) =
      Types m ks (ident id name) t × (slot name ks ≡ Some outside)
  Elaborates m ks (ident id name) (typed_attribute t a) =
      Types m ks (ident id name) t × (slot name ks ≡ None) × (attribute_named name ≡ Some a)
  Elaborates m ks (select id operand field test_only) (typed_attribute t a) =
      Types m ks (select id operand field test_only) t × (root : List ℕ)
      × (root_of operand ks ≡ Some root) × (attribute_named (joined_name root field) ≡ Some a)
  Elaborates m ks (select id operand field test_only) (typed_field t on name) =
      Types m ks (select id operand field test_only) t × (test_only ≡ false)
      × (root_of operand ks ≡ None) × (field ≡ name) × Elaborates m ks operand on
  Elaborates m ks (select id operand field test_only) (typed_has t on name) =
      Types m ks (select id operand field test_only) t × (test_only ≡ true)
      × (root_of operand ks ≡ None) × (field ≡ name) × Elaborates m ks operand on
  Elaborates m ks (call id name on args) (typed_call t o operands) =
      Types m ks (call id name on args) t × IsCall name (has_target on) (kinds operands) o t
      × ElaboratesTarget m ks on (ElaboratesEach m ks args) operands
  Elaborates m ks (list_literal id elements) (typed_list t es) =
      Types m ks (list_literal id elements) t × ElaboratesEach m ks elements es
  Elaborates m ks (map_literal id entries) (typed_map t pairs) =
      Types m ks (map_literal id entries) t × ElaboratesPairs m ks entries pairs
  Elaborates m ks (comprehension id x y acc range init condition step result)
      (typed_loop t vars r i c s e) =
      Types m ks (comprehension id x y acc range init condition step result) t
      × (vars ≡ variables_of y)
      × (each : List ValueType) × (gathered : ValueType) × IsOver vars (kind r) each
      × (kind i ≡ gathered) × Elaborates m ks range r × Elaborates m ks init i
      × Elaborates m (turn_scope x y acc each gathered ks) condition c
      × Elaborates m (turn_scope x y acc each gathered ks) step s
      × Elaborates m ((acc, gathered) ∷ ks) result e
  Elaborates m ks _ _ = ⊥

  -- the target, if there is one, is elaborated by the first expression, and `Others` holds of the
  -- rest
  pub ElaboratesTarget : Maps → Kinds → CelTarget → (TypedTrees → Type 0) → TypedTrees → Type 0
  ElaboratesTarget m ks no_target Others es = Others es
  ElaboratesTarget m ks (target on) Others no_typed = ⊥
  ElaboratesTarget m ks (target on) Others (typed e es) = Elaborates m ks on e × Others es

  -- the expressions are elaborated in order
  pub ElaboratesEach : Maps → Kinds → CelTrees → TypedTrees → Type 0
  ElaboratesEach m ks no_trees no_typed = Unit {0}
  ElaboratesEach m ks (tree t ts) (typed e es) = Elaborates m ks t e × ElaboratesEach m ks ts es
  ElaboratesEach m ks _ _ = ⊥

  -- keys and values are elaborated in turn
  pub ElaboratesPairs : Maps → Kinds → CelTreeEntries → TypedTrees → Type 0
  ElaboratesPairs m ks no_tree_entries no_typed = Unit {0}
  ElaboratesPairs m ks (tree_entry id key value es) (typed k (typed v others)) =
      Elaborates m ks key k × Elaborates m ks value v × ElaboratesPairs m ks es others
  ElaboratesPairs m ks _ _ = ⊥

-- the checked expression has a type, and this is its elaboration
pub record IsElaborated (c : CelChecked) (e : TypedTree) : Type 0 where
  pub typed : IsTyped c (kind e)
  pub elaborates : Elaborates (maps_of c) [] c.tree e
