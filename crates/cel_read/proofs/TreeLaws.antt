-- The payloads of a tree are one or have a fault, never both, and are one tree at most; and they have no more nodes than
-- it.
use Rattle.std.proofs.Common.{◌≡◌, ◌<◌, ◌≤◌, ◌+◌, ◌⊎◌, inl, inr, ℕ, zero, suc, ℤ, List, [], ◌∷◌, Contains, arith, refl, sym, ap, subst, ◌∙◌}
use Rattle.proto_wire.specs.declared.refusal.Refusal.{Refusal}
use Rattle.proto_wire.specs.declared.refusal.Refusal.TheVariants.{TooLarge}
use Rattle.cel_tree.specs.Tree.{CelTree, constant, ident, select, call, list_literal, map_literal, comprehension, no_target, target, CelTrees, no_trees, tree, CelTreeEntries, no_tree_entries, tree_entry}
use Rattle.cel_tree.specs.Nodes.{Parts, EntryNode, Node, constant_node, ident_node, select_node, call_node, list_node, map_node, loop_node, children, entry_children, IsNode}
use Rattle.cel_tree.specs.Trees.{MadeEntries, Makes, AreTrees, IsTree, in_node, in_child, TreeFault, node_count, trees_count, AllHave, HasNodes}
use Rattle.cel_read.proofs.Basics.{contains_first, contains_later, contains_cases}
use Rattle.cel_read.proofs.ChildLaws.{child_stands, child_inside}
use Rattle.cel_read.proofs.Counting.{made_count}
use Rattle.cel_read.proofs.NodeLaws.{node_total, node_disjoint, node_unique}

-- ---- of one level

module _ (Below : Parts → CelTree → Type 0) where
  -- the trees inside make a tree
  entries_made : (es : List EntryNode) (ts : CelTrees) → AreTrees Below (entry_children es) ts
      → (entries : CelTreeEntries) × MadeEntries es ts entries
  entries_made [] no_trees are = (no_tree_entries, refl)
  entries_made [] (tree t ts) are = absurd are
  entries_made (e ∷ es) no_trees are = absurd are
  entries_made (e ∷ es) (tree key no_trees) are = absurd are.1
  entries_made (e ∷ es) (tree key (tree value ts)) are =
      let others = entries_made es ts are.1.1 in
      (tree_entry e.id key value others.0, (others.0, others.1, refl))

  made : (id : ℤ) (node : Node) (ts : CelTrees) → AreTrees Below (children node) ts → (t : CelTree) × Makes id node ts t
  made id (constant_node v) no_trees are = (constant id v, refl)
  made id (constant_node v) (tree a ts) are = absurd are
  made id (ident_node name) no_trees are = (ident id name, refl)
  made id (ident_node name) (tree a ts) are = absurd are
  made id (select_node o f b) no_trees are = absurd are
  made id (select_node o f b) (tree a no_trees) are = (select id a f b, refl)
  made id (select_node o f b) (tree a (tree d ts)) are = absurd are.1
  made id (call_node f [] args) ts are = (call id f no_target ts, refl)
  made id (call_node f (p ∷ ps) args) no_trees are = absurd are
  made id (call_node f (p ∷ ps) args) (tree a ts) are = (call id f (target a) ts, refl)
  made id (list_node elements) ts are = (list_literal id ts, refl)
  made id (map_node es) ts are =
      let entries = entries_made es ts are in
      (map_literal id entries.0, (entries.0, entries.1, refl))
  made id (loop_node p) no_trees are = absurd are
  made id (loop_node p) (tree a no_trees) are = absurd are.1
  made id (loop_node p) (tree a (tree b no_trees)) are = absurd are.1.1
  made id (loop_node p) (tree a (tree b (tree c no_trees))) are = absurd are.1.1.1
  made id (loop_node p) (tree a (tree b (tree c (tree d no_trees)))) are = absurd are.1.1.1.1
  made id (loop_node p) (tree a (tree b (tree c (tree d (tree e no_trees))))) are =
      (comprehension id p.iter_var p.iter_var2 p.accu_var a b c d e, refl)
  made id (loop_node p) (tree a (tree b (tree c (tree d (tree e (tree f ts)))))) are = absurd are.1.1.1.1.1

  module _ (Fails : Parts → Refusal → Type 0) where
    inside_total : ((parts : Parts) → ((t : CelTree) × Below parts t) ⊎ ((e : Refusal) × Fails parts e))
        → (cs : List Parts)
        → ((ts : CelTrees) × AreTrees Below cs ts) ⊎ ((child : Parts) × Contains cs child × (e : Refusal) × Fails child e)
    inside_total total [] = inl (no_trees, tt)
    inside_total total (c ∷ cs) = elim (total c) [
      | inr (e, bad) ↦ inr (c, contains_first c cs, e, bad)
      | inl (t, is) ↦ elim (inside_total total cs) [
        | inl (ts, are) ↦ inl (tree t ts, (is, are))
        | inr (child, here, e, bad) ↦ inr (child, contains_later c child cs here, e, bad)
      ]
    ]

    inside_disjoint : ((parts : Parts) (t : CelTree) (e : Refusal) → Below parts t → Fails parts e → ⊥)
        → (cs : List Parts) (ts : CelTrees) (child : Parts) (e : Refusal)
        → AreTrees Below cs ts → Contains cs child → Fails child e → ⊥
    inside_disjoint disjoint [] ts child e are here bad = let lt : here.0 < 0 = here.1 in absurd (omega arith)
    inside_disjoint disjoint (c ∷ cs) no_trees child e are here bad = are
    inside_disjoint disjoint (c ∷ cs) (tree t ts) child e are here bad = elim (contains_cases c child cs here) [
      | inl same ↦ let P : Parts → Type 0 = λ q. Fails q e in disjoint c t e are.0 (subst P (sym same) bad)
      | inr later ↦ inside_disjoint disjoint cs ts child e are.1 later bad
    ]

  inside_unique : ((parts : Parts) (t u : CelTree) → Below parts t → Below parts u → t ≡ u)
      → (cs : List Parts) (ts us : CelTrees) → AreTrees Below cs ts → AreTrees Below cs us → ts ≡ us
  inside_unique unique [] no_trees no_trees a b = refl
  inside_unique unique [] no_trees (tree u us) a b = absurd b
  inside_unique unique [] (tree t ts) us a b = absurd a
  inside_unique unique (c ∷ cs) no_trees us a b = absurd a
  inside_unique unique (c ∷ cs) (tree t ts) no_trees a b = absurd b
  inside_unique unique (c ∷ cs) (tree t ts) (tree u us) a b =
      let first : t ≡ u = unique c t u a.0 b.0 in
      let others : ts ≡ us = inside_unique unique cs ts us a.1 b.1 in
      cc

-- the trees inside make one tree
entries_same : (es : List EntryNode) (ts : CelTrees) (a b : CelTreeEntries) → MadeEntries es ts a → MadeEntries es ts b → a ≡ b
entries_same [] no_trees a b x y = x ∙ sym y
entries_same [] (tree t ts) a b x y = absurd x
entries_same (e ∷ es) no_trees a b x y = absurd x
entries_same (e ∷ es) (tree key no_trees) a b x y = absurd x
entries_same (e ∷ es) (tree key (tree value ts)) a b (others, made, is) (others', made', is') =
    is ∙ ap (tree_entry e.id key value) (entries_same es ts others others' made made') ∙ sym is'

made_same : (id : ℤ) (node : Node) (ts : CelTrees) (t u : CelTree) → Makes id node ts t → Makes id node ts u → t ≡ u
made_same id (constant_node v) no_trees t u x y = x ∙ sym y
made_same id (constant_node v) (tree a ts) t u x y = absurd x
made_same id (ident_node name) no_trees t u x y = x ∙ sym y
made_same id (ident_node name) (tree a ts) t u x y = absurd x
made_same id (select_node o f b) no_trees t u x y = absurd x
made_same id (select_node o f b) (tree a no_trees) t u x y = x ∙ sym y
made_same id (select_node o f b) (tree a (tree d ts)) t u x y = absurd x
made_same id (call_node f [] args) ts t u x y = x ∙ sym y
made_same id (call_node f (p ∷ ps) args) no_trees t u x y = absurd x
made_same id (call_node f (p ∷ ps) args) (tree a ts) t u x y = x ∙ sym y
made_same id (list_node elements) ts t u x y = x ∙ sym y
made_same id (map_node es) ts t u (a, x, is) (b, y, is') = is ∙ ap (map_literal id) (entries_same es ts a b x y) ∙ sym is'
made_same id (loop_node p) no_trees t u x y = absurd x
made_same id (loop_node p) (tree a no_trees) t u x y = absurd x
made_same id (loop_node p) (tree a (tree b no_trees)) t u x y = absurd x
made_same id (loop_node p) (tree a (tree b (tree c no_trees))) t u x y = absurd x
made_same id (loop_node p) (tree a (tree b (tree c (tree d no_trees)))) t u x y = absurd x
made_same id (loop_node p) (tree a (tree b (tree c (tree d (tree e no_trees))))) t u x y = x ∙ sym y
made_same id (loop_node p) (tree a (tree b (tree c (tree d (tree e (tree f ts)))))) t u x y = absurd x

-- ---- all levels

pub tree_total : (depth : ℕ) (parts : Parts) → ((t : CelTree) × IsTree depth parts t) ⊎ ((e : Refusal) × TreeFault depth parts e)
tree_total zero parts = inr (TooLarge, refl)
tree_total (suc depth) parts = elim (node_total parts) [
  | inr (e, bad) ↦ inr (e, in_node bad)
  | inl (id, node, is) ↦ elim (inside_total (IsTree depth) (TreeFault depth) (tree_total depth) (children node)) [
    | inr (child, here, e, bad) ↦ inr (e, in_child child (child_stands parts id node child is here) bad)
    | inl (ts, are) ↦
        let t = made (IsTree depth) id node ts are in
        inl (t.0, record { id = id; node = node; is = is; inside = ts; are = are; makes = t.1 })
  ]
]

pub tree_disjoint : (depth : ℕ) (parts : Parts) (t : CelTree) (e : Refusal) → IsTree depth parts t → TreeFault depth parts e → ⊥
tree_disjoint zero parts t e is bad = is
tree_disjoint (suc depth) parts t e is (in_node bad) = node_disjoint parts is.id is.node e is.is bad
tree_disjoint (suc depth) parts t e is (in_child child stands bad) =
    inside_disjoint (IsTree depth) (TreeFault depth) (tree_disjoint depth) (children is.node) is.inside child e is.are
    (child_inside parts is.id is.node child is.is stands) bad

pub tree_unique : (depth : ℕ) (parts : Parts) (t u : CelTree) → IsTree depth parts t → IsTree depth parts u → t ≡ u
tree_unique zero parts t u a b = absurd a
tree_unique (suc depth) parts t u a b =
    let same : (b.id, b.node) ≡ (a.id, a.node) = node_unique parts (b.id, b.node) (a.id, a.node) b.is a.is in
    let P : ℤ × Node → Type 0 = λ x. AreTrees (IsTree depth) (children x.1) b.inside × Makes x.0 x.1 b.inside u in
    let here = subst P same (b.are, b.makes) in
    let inside : b.inside ≡ a.inside = inside_unique (IsTree depth) (tree_unique depth) (children a.node) b.inside a.inside here.0 a.are in
    let Q : CelTrees → Type 0 = λ ts. Makes a.id a.node ts u in
    made_same a.id a.node a.inside t u a.makes (subst Q inside here.1)

-- ---- numbers of nodes

all_most : (depth : ℕ) → ((parts : Parts) (t : CelTree) (n : ℕ) → IsTree depth parts t → HasNodes depth parts n → n ≤ node_count t)
    → (cs : List Parts) (ts : CelTrees) (n : ℕ) → AreTrees (IsTree depth) cs ts → AllHave (HasNodes depth) cs n
    → n ≤ trees_count ts
all_most depth below [] no_trees n are has = rw has (omega arith)
all_most depth below [] (tree t ts) n are has = absurd are
all_most depth below (c ∷ cs) no_trees n are has = absurd are
all_most depth below (c ∷ cs) (tree t ts) n are (one, others, has, rest, sum) =
    let first : one ≤ node_count t = below c t one are.0 has in
    let later : others ≤ trees_count ts = all_most depth below cs ts others are.1 rest in
    omega (arith, first, later, sum)

-- a message is one node, and so are those inside it
same_inside : (depth : ℕ) (parts : Parts) (x y : ℤ × Node) (inside : ℕ) → IsNode parts x.0 x.1 → IsNode parts y.0 y.1
    → AllHave (HasNodes depth) (children x.1) inside → AllHave (HasNodes depth) (children y.1) inside
same_inside depth parts x y inside a b have =
    let P : ℤ × Node → Type 0 = λ z. AllHave (HasNodes depth) (children z.1) inside in
    subst P (node_unique parts x y a b) have

-- a tree's message has no more nodes than the tree
pub nodes_most : (depth : ℕ) (parts : Parts) (t : CelTree) (n : ℕ) → IsTree depth parts t → HasNodes depth parts n → n ≤ node_count t
nodes_most zero parts t n is has = absurd is
nodes_most (suc depth) parts t n is (inl few) =
    let count : node_count t ≡ 1 + trees_count is.inside = made_count is.id is.node is.inside t is.makes in
    omega (arith, few, count)
nodes_most (suc depth) parts t n is (inr (id, node, inside, also, have, sum)) =
    let count : node_count t ≡ 1 + trees_count is.inside = made_count is.id is.node is.inside t is.makes in
    let most : inside ≤ trees_count is.inside =
    all_most depth (nodes_most depth) (children is.node) is.inside inside is.are
    (same_inside depth parts (id, node) (is.id, is.node) inside also is.is have) in
    omega (arith, count, most, sum)
