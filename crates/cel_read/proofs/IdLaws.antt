-- The ids of a checked expression are int64.
use Rattle.std.proofs.Common.{◌≡◌, inl, inr, ℕ, zero, suc, ℤ, true, false, cond, List, [], ◌∷◌, ◌++◌, reverse, Some, None, IsSomeAnd, MatchOption, refl, sym, ◌∙◌}
use Rattle.std.proofs.lemmas.List.{reverse-append}
use Rattle.std.specs.Cmp.{int_cmp_total}
use Rattle.std.specs.FinMap.{FinMap, find, get, get-from_entries, int_cmp-IsAntisymmetric}
use Rattle.std.specs.List.{AllZip}
use Rattle.std.specs.Ordering.{int_cmp, eq_by_cmp}
use Rattle.proto_wire.specs.Maps.{Entry, int64, AreEntries, map_of, IsMap}
use Rattle.proto_wire.specs.Oneof.{member_run}
use Rattle.proto_wire.specs.Values.{payloads}
use Rattle.proto_wire.proofs.MapOrder.{tie}
use Rattle.cel_value.specs.Types.{IsInt64}
use Rattle.cel_tree.specs.Checked.{CelChecked}
use Rattle.cel_tree.specs.Ids.{HasIds, AllHaveIds, EntriesHaveIds, MapHasIds, IdsAreInt64}
use Rattle.cel_tree.specs.Message.{tree_depth, checked_field, IsChecked}
use Rattle.cel_tree.specs.Nodes.{Parts, EntryNode, Node, constant_node, ident_node, select_node, call_node, list_node, map_node, loop_node, children, node_kinds, kind_keys, KindSays, MemberSays, IsNode, entry_field, struct_field, node_field}
use Rattle.cel_tree.specs.Nodes as nodes
use Rattle.proto_wire.specs.Reading.{Never}
use Rattle.cel_tree.specs.References.{IsReference}
use Rattle.cel_tree.specs.Tree.{CelTree, CelTrees, no_trees, tree, CelTreeEntries}
use Rattle.cel_tree.specs.Trees.{MadeEntries, Makes, AreTrees, IsTree}
use Rattle.cel_tree.specs.TypeEntries.{IsTypeEntry}
use Rattle.cel_tree.specs.declared.kinds.NodeKind.{NodeKind}
use Rattle.cel_tree.specs.declared.kinds.NodeKind.TheVariants as kinds
use Rattle.cel_read.proofs.Bounds.{merges_small, int64_fits}
use Rattle.proto_wire.proofs.Standing.{oneof_opened}

-- ---- nodes

abbrev pub EntriesFit : List EntryNode → Type 0
EntriesFit [] = Unit {0}
EntriesFit (e ∷ es) = IsInt64 e.id × EntriesFit es

abbrev pub NodeFits : Node → Type 0
NodeFits (map_node es) = EntriesFit es
NodeFits _ = Unit {0}

entries_fit : (parts : List (List ℕ)) (es : List EntryNode) → AllZip nodes.IsMapEntry parts es → EntriesFit es
entries_fit [] [] are = tt
entries_fit [] (e ∷ es) are = absurd are
entries_fit (part ∷ parts) [] are = absurd are
entries_fit (part ∷ parts) (e ∷ es) ((fs, message, says), are) =
    (rw says.id (int64_fits entry_field.id fs (merges_small (part ∷ []) fs message.0)), entries_fit parts es are)

kind_fits : (kind : NodeKind) (parts : Parts) (node : Node) → KindSays kind parts node → NodeFits node
kind_fits kinds.Constant parts node (v, is, same) = rw same tt
kind_fits kinds.Ident parts node (fs, message, (utf8, same)) = rw same tt
kind_fits kinds.Select parts node (fs, message, (utf8, there, same)) = rw same tt
kind_fits kinds.Call parts node (fs, message, (utf8, same)) = rw same tt
kind_fits kinds.List parts node (fs, message, (plain, same)) = rw same tt
kind_fits kinds.Struct parts node (fs, message, (plain, es, are, same)) = rw same (entries_fit (payloads struct_field.entries fs) es are)
kind_fits kinds.Comprehension parts node (fs, message, (names, there, same)) = rw same tt

node_fits : (parts : Parts) (id : ℤ) (node : Node) → IsNode parts id node → IsInt64 id × NodeFits node
node_fits parts id node (fs, message, (same, says)) = (
  rw same (int64_fits node_field.id fs (merges_small parts fs message.0)),
  elim (oneof_opened node_kinds Never MemberSays fs node says) [
    | inl never ↦ absurd never
    | inr (n, kind, last, is, member) ↦ kind_fits kind (payloads n (member_run kind_keys fs)) node member
  ],
)

-- ---- trees

made_entries : (es : List EntryNode) (ts : CelTrees) (entries : CelTreeEntries) → EntriesFit es → AllHaveIds ts
    → MadeEntries es ts entries → EntriesHaveIds entries
made_entries [] no_trees entries own fit made = rw made tt
made_entries [] (tree t ts) entries own fit made = absurd made
made_entries (e ∷ es) no_trees entries own fit made = absurd made
made_entries (e ∷ es) (tree key no_trees) entries own fit made = absurd made
made_entries (e ∷ es) (tree key (tree value ts)) entries own (first, (second, fit)) (others, made, is) =
    rw is (own.0, first, second, made_entries es ts others own.1 fit made)

made_fits : (id : ℤ) (node : Node) (ts : CelTrees) (t : CelTree) → IsInt64 id → NodeFits node → AllHaveIds ts
    → Makes id node ts t → HasIds t
made_fits id (constant_node v) no_trees t is own fit made = rw made is
made_fits id (constant_node v) (tree a ts) t is own fit made = absurd made
made_fits id (ident_node name) no_trees t is own fit made = rw made is
made_fits id (ident_node name) (tree a ts) t is own fit made = absurd made
made_fits id (select_node o f b) no_trees t is own fit made = absurd made
made_fits id (select_node o f b) (tree a no_trees) t is own fit made = rw made (is, fit.0)
made_fits id (select_node o f b) (tree a (tree d ts)) t is own fit made = absurd made
made_fits id (call_node f [] args) ts t is own fit made = rw made (is, tt, fit)
made_fits id (call_node f (p ∷ ps) args) no_trees t is own fit made = absurd made
made_fits id (call_node f (p ∷ ps) args) (tree a ts) t is own fit made = rw made (is, fit.0, fit.1)
made_fits id (list_node elements) ts t is own fit made = rw made (is, fit)
made_fits id (map_node es) ts t is own fit (entries, made, same) = rw same (is, made_entries es ts entries own fit made)
made_fits id (loop_node p) no_trees t is own fit made = absurd made
made_fits id (loop_node p) (tree a no_trees) t is own fit made = absurd made
made_fits id (loop_node p) (tree a (tree b no_trees)) t is own fit made = absurd made
made_fits id (loop_node p) (tree a (tree b (tree c no_trees))) t is own fit made = absurd made
made_fits id (loop_node p) (tree a (tree b (tree c (tree d no_trees)))) t is own fit made = absurd made
made_fits id (loop_node p) (tree a (tree b (tree c (tree d (tree e no_trees))))) t is own (x, (y, (z, (v, (w, none))))) made =
    rw made (is, x, y, z, v, w)
made_fits id (loop_node p) (tree a (tree b (tree c (tree d (tree e (tree f ts)))))) t is own fit made = absurd made

inside_fits : (Below : Parts → CelTree → Type 0) → ((parts : Parts) (t : CelTree) → Below parts t → HasIds t)
    → (cs : List Parts) (ts : CelTrees) → AreTrees Below cs ts → AllHaveIds ts
inside_fits Below below [] no_trees are = tt
inside_fits Below below [] (tree t ts) are = absurd are
inside_fits Below below (c ∷ cs) no_trees are = absurd are
inside_fits Below below (c ∷ cs) (tree t ts) are = (below c t are.0, inside_fits Below below cs ts are.1)

tree_fits : (depth : ℕ) (parts : Parts) (t : CelTree) → IsTree depth parts t → HasIds t
tree_fits zero parts t is = absurd is
tree_fits (suc depth) parts t is =
    let own = node_fits parts is.id is.node is.is in
    made_fits is.id is.node is.inside t own.0 own.1
    (inside_fits (IsTree depth) (tree_fits depth) (children is.node) is.inside is.are) is.makes

-- ---- maps

abbrev pub KeysFit : List (Entry int64) → Type 0
KeysFit [] = Unit {0}
KeysFit (e ∷ es) = IsInt64 e.0 × KeysFit es

keys_append : (es ds : List (Entry int64)) → KeysFit es → KeysFit ds → KeysFit (es ++ ds)
keys_append [] ds a b = b
keys_append (e ∷ es) ds a b = (a.0, keys_append es ds a.1 b)

keys_reverse : (es : List (Entry int64)) → KeysFit es → KeysFit (reverse es)
keys_reverse [] fit = tt
keys_reverse (e ∷ es) fit =
    rw (reverse-append (e ∷ []) es) (keys_append (reverse es) (e ∷ []) (keys_reverse es fit.1) (fit.0, tt))

keys_fit : (parts : List (List ℕ)) (es : List (Entry int64)) → AreEntries int64 parts es → KeysFit es
keys_fit [] [] are = tt
keys_fit [] (e ∷ es) are = absurd are
keys_fit (part ∷ parts) [] are = absurd are
keys_fit (part ∷ parts) (e ∷ es) ((fs, message, reads, is), are) =
    (rw is (int64_fits 1 fs (merges_small (part ∷ []) fs message.0)), keys_fit parts es are)

found_fits : (id : ℤ) (es : List (Entry int64)) (parts : List (List ℕ)) → KeysFit es
    → find int_cmp id es ≡ Some parts → IsInt64 id
found_fits id [] parts fit at = let clash : None ≡ Some parts = at in absurd cc
found_fits id (e ∷ es) parts fit at = elim (eq_by_cmp int_cmp id e.0) as (λ b. eq_by_cmp int_cmp id e.0 ≡ b
    → cond b (Some e.1) (find int_cmp id es) ≡ Some parts → IsInt64 id) [
      | true ↦ λ tied there. rw (tie int_cmp int_cmp_total int_cmp-IsAntisymmetric id e.0 tied) fit.0
      | false ↦ λ apart there. found_fits id es parts fit.1 there
    ] refl at

map_fits : {V : Type 0} (IsValue : List (List ℕ) → V → Type 0) (parts : List (List ℕ)) (m : FinMap int_cmp V)
    → IsMap int64 IsValue parts m → MapHasIds m
map_fits IsValue parts m (es, are, values) id v at =
    elim (get (map_of int64 es) id) as (λ o. get (map_of int64 es) id ≡ o
    → MatchOption o (get m id ≡ None) (λ ps. IsSomeAnd (get m id) (IsValue ps)) → IsInt64 id) [
      | None ↦ λ named none. let clash : Some v ≡ None = sym at ∙ none in absurd cc
      | Some ps ↦ λ named there. found_fits id (reverse es) ps (keys_reverse es (keys_fit parts es are))
          (sym (get-from_entries int_cmp_total (reverse es) id) ∙ named)
    ] refl (values id)

pub checked_ids : (parts : List (List ℕ)) (c : CelChecked) → IsChecked parts c → IdsAreInt64 c
checked_ids parts c (fs, message, says) = (
  tree_fits tree_depth (payloads checked_field.expr fs) c.tree says.tree,
  map_fits (IsTypeEntry tree_depth) (payloads checked_field.type_map fs) c.types says.types,
  map_fits IsReference (payloads checked_field.reference_map fs) c.refs says.refs,
)
