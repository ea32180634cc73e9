-- The constants of a checked expression's tree have the types of their kinds.
use Rattle.std.proofs.Common.{inl, inr, ℕ, zero, suc, ℤ, List, [], ◌∷◌}
use Rattle.std.proofs.lemmas.Str.{scalars-chars}
use Rattle.proto_wire.specs.Fields.{Wire}
use Rattle.proto_wire.specs.Oneof.{member_run}
use Rattle.proto_wire.specs.Values.{bytes_at, payloads}
use Rattle.cel_value.specs.Values.{CelValue}
use Rattle.cel_tree.specs.Checked.{CelChecked}
use Rattle.cel_tree.specs.Constants.{constants, constant_keys, ConstantSays, IsConstant}
use Rattle.cel_tree.specs.GoodConstants.{IsGoodConstant, HasGoodConstants, AreGood, EntriesAreGood}
use Rattle.cel_tree.specs.Message.{tree_depth, checked_field, IsExprOf, ExprParts, checked_parts, unchecked_parts}
use Rattle.cel_tree.specs.Nodes.{Parts, EntryNode, Node, constant_node, ident_node, select_node, call_node, list_node, map_node, loop_node, children, node_kinds, kind_keys, KindSays, MemberSays, IsNode}
use Rattle.proto_wire.specs.Reading.{Never}
use Rattle.cel_tree.specs.Tree.{CelTree, CelTrees, no_trees, tree, CelTreeEntries}
use Rattle.cel_tree.specs.Trees.{MadeEntries, Makes, AreTrees, IsTree}
use Rattle.cel_tree.specs.declared.kinds.ConstantKind.{ConstantKind}
use Rattle.cel_tree.specs.declared.kinds.ConstantKind.TheVariants as constant_kinds
use Rattle.cel_tree.specs.declared.kinds.NodeKind.{NodeKind}
use Rattle.cel_tree.specs.declared.kinds.NodeKind.TheVariants as kinds
use Rattle.cel_read.proofs.Bounds.{AreSmall, merges_small, member_run_small, varint_below, int64_fits}
use Rattle.proto_wire.proofs.Standing.{oneof_opened}

-- ---- constants

says_good : (kind : ConstantKind) (n : ℕ) (run : List Wire) (v : CelValue) → AreSmall run → ConstantSays kind n run v
    → IsGoodConstant v
says_good constant_kinds.Bool n run v small says = rw says tt
says_good constant_kinds.Int n run v small says = rw says (int64_fits n run small)
says_good constant_kinds.Uint n run v small says = rw says (varint_below n run small)
says_good constant_kinds.Text n run v small says = rw says.1 (scalars-chars (bytes_at n run) says.0)
says_good constant_kinds.Bytes n run v small says = rw says tt

constant_good : (parts : List (List ℕ)) (v : CelValue) → IsConstant parts v → IsGoodConstant v
constant_good parts v (fs, message, says) = elim (oneof_opened constants Never ConstantSays fs v says) [
  | inl never ↦ absurd never
  | inr (n, kind, last, is, member) ↦ says_good kind n (member_run constant_keys fs) v
      (member_run_small constant_keys fs (merges_small parts fs message.0)) member
]

-- ---- nodes

abbrev pub NodeIsGood : Node → Type 0
NodeIsGood (constant_node v) = IsGoodConstant v
NodeIsGood _ = Unit {0}

kind_good : (kind : NodeKind) (parts : Parts) (node : Node) → KindSays kind parts node → NodeIsGood node
kind_good kinds.Constant parts node (v, is, same) = rw same (constant_good parts v is)
kind_good kinds.Ident parts node (fs, message, (utf8, same)) = rw same tt
kind_good kinds.Select parts node (fs, message, (utf8, there, same)) = rw same tt
kind_good kinds.Call parts node (fs, message, (utf8, same)) = rw same tt
kind_good kinds.List parts node (fs, message, (plain, same)) = rw same tt
kind_good kinds.Struct parts node (fs, message, (plain, es, are, same)) = rw same tt
kind_good kinds.Comprehension parts node (fs, message, (names, there, same)) = rw same tt

node_good : (parts : Parts) (id : ℤ) (node : Node) → IsNode parts id node → NodeIsGood node
node_good parts id node (fs, message, (same, says)) = elim (oneof_opened node_kinds Never MemberSays fs node says) [
  | inl never ↦ absurd never
  | inr (n, kind, last, is, member) ↦ kind_good kind (payloads n (member_run kind_keys fs)) node member
]

-- ---- trees

entries_good : (es : List EntryNode) (ts : CelTrees) (entries : CelTreeEntries) → AreGood ts → MadeEntries es ts entries
    → EntriesAreGood entries
entries_good [] no_trees entries good made = rw made tt
entries_good [] (tree t ts) entries good made = absurd made
entries_good (e ∷ es) no_trees entries good made = absurd made
entries_good (e ∷ es) (tree key no_trees) entries good made = absurd made
entries_good (e ∷ es) (tree key (tree value ts)) entries (first, (second, good)) (others, made, is) =
    rw is (first, second, entries_good es ts others good made)

made_good : (id : ℤ) (node : Node) (ts : CelTrees) (t : CelTree) → NodeIsGood node → AreGood ts → Makes id node ts t
    → HasGoodConstants t
made_good id (constant_node v) no_trees t own good made = rw made own
made_good id (constant_node v) (tree a ts) t own good made = absurd made
made_good id (ident_node name) no_trees t own good made = rw made tt
made_good id (ident_node name) (tree a ts) t own good made = absurd made
made_good id (select_node o f b) no_trees t own good made = absurd made
made_good id (select_node o f b) (tree a no_trees) t own good made = rw made good.0
made_good id (select_node o f b) (tree a (tree d ts)) t own good made = absurd made
made_good id (call_node f [] args) ts t own good made = rw made (tt, good)
made_good id (call_node f (p ∷ ps) args) no_trees t own good made = absurd made
made_good id (call_node f (p ∷ ps) args) (tree a ts) t own good made = rw made (good.0, good.1)
made_good id (list_node elements) ts t own good made = rw made good
made_good id (map_node es) ts t own good (entries, made, is) = rw is (entries_good es ts entries good made)
made_good id (loop_node p) no_trees t own good made = absurd made
made_good id (loop_node p) (tree a no_trees) t own good made = absurd made
made_good id (loop_node p) (tree a (tree b no_trees)) t own good made = absurd made
made_good id (loop_node p) (tree a (tree b (tree c no_trees))) t own good made = absurd made
made_good id (loop_node p) (tree a (tree b (tree c (tree d no_trees)))) t own good made = absurd made
made_good id (loop_node p) (tree a (tree b (tree c (tree d (tree e no_trees))))) t own (x, (y, (z, (v, (w, none))))) made =
    rw made (x, y, z, v, w)
made_good id (loop_node p) (tree a (tree b (tree c (tree d (tree e (tree f ts)))))) t own good made = absurd made

inside_good : (Below : Parts → CelTree → Type 0) → ((parts : Parts) (t : CelTree) → Below parts t → HasGoodConstants t)
    → (cs : List Parts) (ts : CelTrees) → AreTrees Below cs ts → AreGood ts
inside_good Below below [] no_trees are = tt
inside_good Below below [] (tree t ts) are = absurd are
inside_good Below below (c ∷ cs) no_trees are = absurd are
inside_good Below below (c ∷ cs) (tree t ts) are = (below c t are.0, inside_good Below below cs ts are.1)

tree_good : (depth : ℕ) (parts : Parts) (t : CelTree) → IsTree depth parts t → HasGoodConstants t
tree_good zero parts t is = absurd is
tree_good (suc depth) parts t is =
    made_good is.id is.node is.inside t (node_good parts is.id is.node is.is)
    (inside_good (IsTree depth) (tree_good depth) (children is.node) is.inside is.are) is.makes

-- the constants of an expression are good, whether it has entries or not
pub expr_good : (parts : ExprParts) (c : CelChecked) → IsExprOf parts c → HasGoodConstants c.tree
expr_good (checked_parts parts) c (fs, message, says) = tree_good tree_depth (payloads checked_field.expr fs) c.tree says.tree
expr_good (unchecked_parts parts) c is = tree_good tree_depth parts c.tree is.tree
