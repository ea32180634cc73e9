-- Numbers of nodes: those of a message's tree are there, and no more.
use Rattle.std.proofs.Common.{◌≡◌, ◌⊎◌, inl, inr, ◌<◌, ◌+◌, ℕ, zero, suc, ℤ, List, [], ◌∷◌, Contains, arith, refl}
use Rattle.proto_wire.specs.declared.refusal.Refusal.{Refusal}
use Rattle.proto_wire.specs.declared.refusal.Refusal.TheVariants.{TooLarge}
use Rattle.cel_tree.specs.Tree.{CelTree, CelTrees, no_trees, tree, CelTreeEntries}
use Rattle.cel_tree.specs.Nodes.{Parts, EntryNode, Node, constant_node, ident_node, select_node, call_node, list_node, map_node, loop_node, children, IsNode}
use Rattle.cel_tree.specs.Trees.{MadeEntries, Makes, AreTrees, IsTree, TreeFault, NodesFault, in_child, node_count, trees_count, entries_count, AllHave, HasNodes}
use Rattle.cel_read.proofs.Basics.{contains_first, contains_later}
use Rattle.cel_read.proofs.ChildLaws.{child_stands}

-- ---- the node and the trees inside it

made_entries_count : (es : List EntryNode) (ts : CelTrees) (entries : CelTreeEntries)
    → MadeEntries es ts entries → entries_count entries ≡ trees_count ts
made_entries_count [] no_trees entries made = rw made refl
made_entries_count [] (tree t ts) entries made = absurd made
made_entries_count (e ∷ es) no_trees entries made = absurd made
made_entries_count (e ∷ es) (tree key no_trees) entries made = absurd made
made_entries_count (e ∷ es) (tree key (tree value ts)) entries (others, made, is) =
    rw is (let rest : entries_count others ≡ trees_count ts = made_entries_count es ts others made in omega (arith, rest))

-- a tree has one node more than those inside it
pub made_count : (id : ℤ) (node : Node) (ts : CelTrees) (t : CelTree) → Makes id node ts t
    → node_count t ≡ 1 + trees_count ts
made_count id (constant_node v) no_trees t made = rw made refl
made_count id (constant_node v) (tree a ts) t made = absurd made
made_count id (ident_node name) no_trees t made = rw made refl
made_count id (ident_node name) (tree a ts) t made = absurd made
made_count id (select_node o f b) no_trees t made = absurd made
made_count id (select_node o f b) (tree a no_trees) t made = rw made (omega arith)
made_count id (select_node o f b) (tree a (tree d ts)) t made = absurd made
made_count id (call_node f [] args) ts t made = rw made (omega arith)
made_count id (call_node f (p ∷ ps) args) no_trees t made = absurd made
made_count id (call_node f (p ∷ ps) args) (tree a ts) t made = rw made (omega arith)
made_count id (list_node elements) ts t made = rw made refl
made_count id (map_node es) ts t (entries, made, is) =
    rw is (let same : entries_count entries ≡ trees_count ts = made_entries_count es ts entries made in omega (arith, same))
made_count id (loop_node p) no_trees t made = absurd made
made_count id (loop_node p) (tree a no_trees) t made = absurd made
made_count id (loop_node p) (tree a (tree b no_trees)) t made = absurd made
made_count id (loop_node p) (tree a (tree b (tree c no_trees))) t made = absurd made
made_count id (loop_node p) (tree a (tree b (tree c (tree d no_trees)))) t made = absurd made
made_count id (loop_node p) (tree a (tree b (tree c (tree d (tree e no_trees))))) t made = rw made (omega arith)
made_count id (loop_node p) (tree a (tree b (tree c (tree d (tree e (tree f ts)))))) t made = absurd made

-- ---- nodes that are there

-- messages have none, at least
pub none_there : (depth : ℕ) (parts : Parts) → HasNodes depth parts 0
none_there zero parts = omega arith
none_there (suc depth) parts = inl (omega arith)

-- an expression is one
pub one_there : (depth : ℕ) (parts : Parts) → HasNodes depth parts 1
one_there zero parts = omega arith
one_there (suc depth) parts = inl (omega arith)

all_none : (depth : ℕ) (cs : List Parts) → AllHave (HasNodes depth) cs 0
all_none depth [] = refl
all_none depth (c ∷ cs) = (0, 0, none_there depth c, all_none depth cs, refl)

-- those of one level, where those one level down are there
all_there : (depth : ℕ) → ((parts : Parts) (t : CelTree) → IsTree depth parts t → HasNodes depth parts (node_count t))
    → (cs : List Parts) (ts : CelTrees) → AreTrees (IsTree depth) cs ts → AllHave (HasNodes depth) cs (trees_count ts)
all_there depth below [] no_trees are = refl
all_there depth below [] (tree t ts) are = absurd are
all_there depth below (c ∷ cs) no_trees are = absurd are
all_there depth below (c ∷ cs) (tree t ts) are =
    (node_count t, trees_count ts, below c t are.0, all_there depth below cs ts are.1, refl)

-- a tree's nodes are there
pub nodes_there : (depth : ℕ) (parts : Parts) (t : CelTree) → IsTree depth parts t
    → HasNodes depth parts (node_count t)
nodes_there zero parts t is = absurd is
nodes_there (suc depth) parts t is = inr (
  is.id,
  is.node,
  trees_count is.inside,
  is.is,
  all_there depth (nodes_there depth) (children is.node) is.inside is.are,
  made_count is.id is.node is.inside t is.makes,
)

-- ---- one of the trees inside fails

-- a tree has a fault, or more nodes than are left
abbrev pub TreeFails : ℕ → ℕ → Parts → Refusal → Type 0
TreeFails depth left parts e = TreeFault depth parts e ⊎ NodesFault depth left parts e

-- the first of the trees that does not read has a fault, or more nodes than are left
abbrev pub SomeFails : ℕ → ℕ → List Parts → Refusal → Type 0
SomeFails depth left [] e = ⊥
SomeFails depth left (child ∷ children) e = TreeFails depth left child e
    ⊎ ((t : CelTree) × (rest : ℕ) × IsTree depth child t × (rest + node_count t ≡ left)
    × SomeFails depth rest children e)

module _ (depth : ℕ) where
  some_splits : (cs : List Parts) (left : ℕ) (e : Refusal) → SomeFails depth left cs e
      → ((child : Parts) × Contains cs child × TreeFault depth child e)
      ⊎ ((n : ℕ) × AllHave (HasNodes depth) cs n × (left < n) × (e ≡ TooLarge))
  some_splits [] left e bad = absurd bad
  some_splits (c ∷ cs) left e (inl (inl bad)) = inl (c, contains_first c cs, bad)
  some_splits (c ∷ cs) left e (inl (inr (n, has, more, is))) =
      inr (n + 0, (n, 0, has, all_none depth cs, refl), omega (arith, more), is)
  some_splits (c ∷ cs) left e (inr (t, rest, read, sum, later)) = elim (some_splits cs rest e later) [
    | inl (child, here, bad) ↦ inl (child, contains_later c child cs here, bad)
    | inr (n, has, more, is) ↦ inr (
      node_count t + n,
      (node_count t, n, nodes_there depth c t read, has, refl),
      omega (arith, sum, more),
      is,
    )
  ]

  -- then the node fails
  pub node_fails : (parts : Parts) (id : ℤ) (node : Node) (rest left : ℕ) (e : Refusal) → IsNode parts id node
      → rest + 1 ≡ left → SomeFails depth rest (children node) e → TreeFails (suc depth) left parts e
  node_fails parts id node rest left e is sum bad = elim (some_splits (children node) rest e bad) [
    | inl (child, here, fault) ↦ inl (in_child child (child_stands parts id node child is here) fault)
    | inr (n, has, more, at) ↦ inr (1 + n, inr (id, node, n, is, has, refl), omega (arith, sum, more), at)
  ]
