-- Messages of expressions, level by level: `google/api/expr/v1alpha1/syntax.proto`, Expr.
use Rattle.std.specs.Prelude.{◌≡◌, ◌⊎◌, ◌≤◌, ◌<◌, ◌+◌, ℕ, zero, suc, ℤ, List, [], ◌∷◌}
use Rattle.proto_wire.specs.declared.refusal.Refusal.{Refusal}
use Rattle.proto_wire.specs.declared.refusal.Refusal.TheVariants.{TooLarge}
use Rattle.cel_tree.specs.Tree.{CelTree, constant, ident, select, call, list_literal, map_literal, comprehension, CelTarget, no_target, target, CelTrees, no_trees, tree, CelTreeEntries, no_tree_entries, tree_entry}
use Rattle.cel_tree.specs.Nodes.{Parts, EntryNode, Node, constant_node, ident_node, select_node, call_node, list_node, map_node, loop_node, children, IsNode, NodeFault, IsChild}

-- ---- trees of nodes

-- the entries with these keys and values, which are in turn
abbrev pub MadeEntries : List EntryNode → CelTrees → CelTreeEntries → Type 0
MadeEntries [] no_trees entries = entries ≡ no_tree_entries
MadeEntries (e ∷ es) (tree key (tree value ts)) entries = (others : CelTreeEntries)
    × MadeEntries es ts others × (entries ≡ tree_entry e.id key value others)
MadeEntries _ _ _ = ⊥

-- this tree is the node with these expressions inside, in the order of `children`
abbrev pub Makes : ℤ → Node → CelTrees → CelTree → Type 0
Makes id (constant_node v) no_trees t = t ≡ constant id v
Makes id (ident_node name) no_trees t = t ≡ ident id name
Makes id (select_node o field test_only) (tree operand no_trees) t =
    t ≡ select id operand field test_only
Makes id (call_node function [] args) ts t = t ≡ call id function no_target ts
Makes id (call_node function (part ∷ parts) args) (tree on ts) t =
    t ≡ call id function (target on) ts
Makes id (list_node elements) ts t = t ≡ list_literal id ts
Makes id (map_node es) ts t =
    (entries : CelTreeEntries) × MadeEntries es ts entries × (t ≡ map_literal id entries)
Makes id (loop_node p)
    (tree range (tree init (tree condition (tree step (tree result no_trees))))) t =
    t ≡ comprehension id p.iter_var p.iter_var2 p.accu_var range init condition step result
Makes _ _ _ _ = ⊥

-- each message is the tree at its place
abbrev pub AreTrees : (Parts → CelTree → Type 0) → List Parts → CelTrees → Type 0
AreTrees Below [] no_trees = Unit {0}
AreTrees Below (child ∷ children) (tree t ts) = Below child t × AreTrees Below children ts
AreTrees Below _ _ = ⊥

-- the parts merge to a node, and each expression inside is a tree in `Below`, one level down
pub record IsLevel (Below : Parts → CelTree → Type 0) (parts : Parts) (t : CelTree) : Type 0 where
  pub id : ℤ
  pub node : Node
  pub is : IsNode parts id node
  pub inside : CelTrees
  pub are : AreTrees Below (children node) inside
  pub makes : Makes id node inside t

-- the parts merge to a tree of at most `depth` levels
abbrev pub IsTree : ℕ → Parts → CelTree → Type 0
IsTree zero parts t = ⊥
IsTree (suc depth) parts t = IsLevel (IsTree depth) parts t

-- a fault of the node's own message, or of an expression inside; several faults are possible at
-- once
pub data TreeLevelFault (Below : Parts → Refusal → Type 0) (parts : Parts) (e : Refusal) : Type 0
  where
    in_node : NodeFault parts e → TreeLevelFault Below parts e
    in_child : (child : Parts) → IsChild parts child → Below child e → TreeLevelFault Below parts e

-- a fault of a tree that may have `depth` levels; below the last level any expression is too deep,
-- whatever its bytes are
abbrev pub TreeFault : ℕ → Parts → Refusal → Type 0
TreeFault zero parts e = e ≡ TooLarge
TreeFault (suc depth) parts e = TreeLevelFault (TreeFault depth) parts e

-- ---- numbers of nodes

abbrev mutual
  -- how many nodes a tree has
  pub node_count : CelTree → ℕ
  node_count (constant id v) = 1
  node_count (ident id name) = 1
  node_count (select id operand field test_only) = 1 + node_count operand
  node_count (call id function on args) = 1 + (target_count on + trees_count args)
  node_count (list_literal id elements) = 1 + trees_count elements
  node_count (map_literal id entries) = 1 + entries_count entries
  node_count (comprehension id x y acc range init condition step result) =
      1 + (node_count range
      + (node_count init + (node_count condition + (node_count step + node_count result))))

  -- how many nodes a call's target has; 0 without one
  pub target_count : CelTarget → ℕ
  target_count no_target = 0
  target_count (target on) = node_count on

  -- how many nodes these expressions have together
  pub trees_count : CelTrees → ℕ
  trees_count no_trees = 0
  trees_count (tree t ts) = node_count t + trees_count ts

  -- how many nodes the keys and values of these entries have together; an entry is not a node
  pub entries_count : CelTreeEntries → ℕ
  entries_count no_tree_entries = 0
  entries_count (tree_entry id key value es) =
      node_count key + (node_count value + entries_count es)

-- the messages together have at least so many nodes
abbrev pub AllHave : (Parts → ℕ → Type 0) → List Parts → ℕ → Type 0
AllHave Has [] n = n ≡ 0
AllHave Has (child ∷ children) n =
    (one others : ℕ) × Has child one × AllHave Has children others × (n ≡ one + others)

-- the parts have at least so many nodes. An expression counts as one; if its own message reads,
-- those inside count too, down to the depth
abbrev pub HasNodes : ℕ → Parts → ℕ → Type 0
HasNodes zero parts n = n ≤ 1
HasNodes (suc depth) parts n = (n ≤ 1)
    ⊎ ((id : ℤ) × (node : Node) × (inside : ℕ) × IsNode parts id node
    × AllHave (HasNodes depth) (children node) inside × (n ≡ 1 + inside))

-- the parts have more nodes than `most`
abbrev pub NodesFault : ℕ → ℕ → Parts → Refusal → Type 0
NodesFault depth most parts e =
    (n : ℕ) × HasNodes depth parts n × (most < n) × (e ≡ TooLarge)
