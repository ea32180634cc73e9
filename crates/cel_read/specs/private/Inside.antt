-- Trees inside a node; the code reads these in order. If they read, the number of nodes left before
-- is theirs plus the number left after.
use Rattle.std.specs.Prelude.{◌≡◌, ◌+◌, ℕ, ℤ, List, [], ◌∷◌, Option, Some, None}
use Rattle.cel_tree.specs.Tree.{CelTree, CelTrees, CelTreeEntries, no_tree_entries, tree_entry}
use Rattle.cel_tree.specs.Nodes.{Parts, EntryNode, LoopNode, Node, children}
use Rattle.cel_tree.specs.Trees.{IsTree, AreTrees, Makes, node_count, trees_count, entries_count}
use Rattle.cel_tree.specs.View.{LoopParts}

-- the node with its trees inside is this tree; `left` and `rest` are the numbers of nodes left
-- before and after
abbrev pub Inside : ℕ → ℤ → Node → CelTree → ℕ → ℕ → Type 0
Inside depth id node t rest left = (ts : CelTrees) × AreTrees (IsTree depth) (children node) ts
    × Makes id node ts t × (rest + trees_count ts ≡ left)

-- two messages are these trees; `left` and `rest` are the numbers of nodes left before and after
pub record AreTwoTrees (depth : ℕ) (a b : Parts) (t u : CelTree) (rest : ℕ) (left : ℕ)
    : Type 0 where
  pub first : IsTree depth a t
  pub second : IsTree depth b u
  pub count : rest + (node_count t + node_count u) ≡ left

-- the target of a call is this tree; none without parts
abbrev pub IsTarget : ℕ → Parts → Option CelTree → Type 0
IsTarget depth [] None = Unit {0}
IsTarget depth (part ∷ parts) (Some t) = IsTree depth (part ∷ parts) t
IsTarget depth _ _ = ⊥

-- how many nodes the optional target of a call has
abbrev pub target_nodes : Option CelTree → ℕ
target_nodes None = 0
target_nodes (Some t) = node_count t

-- the keys and values of entries are trees
abbrev pub EntryTrees : ℕ → List EntryNode → CelTreeEntries → Type 0
EntryTrees depth [] no_tree_entries = Unit {0}
EntryTrees depth (e ∷ es) (tree_entry id key value others) = (id ≡ e.id)
    × IsTree depth e.key key × IsTree depth e.value value × EntryTrees depth es others
EntryTrees depth _ _ = ⊥

-- the keys and values of entries are trees; `left` and `rest` are the numbers of nodes left before
-- and after
abbrev pub AreEntryTrees : ℕ → List EntryNode → CelTreeEntries → ℕ → ℕ → Type 0
AreEntryTrees depth es entries rest left =
    EntryTrees depth es entries × (rest + entries_count entries ≡ left)

-- the expressions of a comprehension are these trees; `left` and `rest` are the numbers of nodes
-- left before and after
pub record AreLoopTrees (depth : ℕ) (node : LoopNode) (parts : LoopParts) (rest : ℕ) (left : ℕ)
    : Type 0 where
  pub iter_var : parts.iter_var ≡ node.iter_var
  pub iter_var2 : parts.iter_var2 ≡ node.iter_var2
  pub accu_var : parts.accu_var ≡ node.accu_var
  pub iter_range : IsTree depth node.iter_range parts.iter_range
  pub accu_init : IsTree depth node.accu_init parts.accu_init
  pub loop_condition : IsTree depth node.loop_condition parts.loop_condition
  pub loop_step : IsTree depth node.loop_step parts.loop_step
  pub result : IsTree depth node.result parts.result
  pub count : rest + (node_count parts.iter_range + (node_count parts.accu_init
      + (node_count parts.loop_condition + (node_count parts.loop_step
      + node_count parts.result)))) ≡ left

-- the condition, the step and the result of a comprehension
abbrev pub loop_body : LoopNode → List Parts
loop_body node = node.loop_condition ∷ node.loop_step ∷ node.result ∷ []

-- the condition, the step and the result are these trees; `left` and `rest` are the numbers of
-- nodes left before and after
pub record IsLoopBody (depth : ℕ) (node : LoopNode) (t u v : CelTree) (rest : ℕ) (left : ℕ)
    : Type 0 where
  pub condition : IsTree depth node.loop_condition t
  pub step : IsTree depth node.loop_step u
  pub result : IsTree depth node.result v
  pub count : rest + (node_count t + (node_count u + node_count v)) ≡ left
