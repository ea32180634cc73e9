-- The trees inside a node, as the code reads them one after the other.
use Rattle.std.proofs.Common.{◌≡◌, ◌-◌, ◌+◌, ◌<◌, ◌++◌, ◌∙◌, inl, inr, ℕ, zero, suc, ℤ, List, [], ◌∷◌, Bor, length, take, get_or, Option, Some, None, SFits, w64, to_z, of_z, to_z-of_z, rules, arith, refl, ap, ap₂, subst}
use Rattle.std.specs.declared.alloc.Global.{Global}
use Rattle.std.specs.declared.boxed.Box.{Box}
use Rattle.std.specs.declared.sync.ArcStr.{ArcStr}
use Rattle.std.specs.declared.vec.Vec.{Vec}
use Rattle.proto_wire.specs.Merge.{parts_view}
use Rattle.proto_wire.specs.Places.{Path}
use Rattle.proto_wire.specs.declared.refusal.Refusal.{Refusal}
use Rattle.cel_value.specs.Texts.{text_view}
use Rattle.cel_tree.specs.Tree.{CelTree, constant, ident, select, call, map_literal, comprehension, CelTrees, no_trees, tree, CelTreeEntries, no_tree_entries, tree_entry}
use Rattle.cel_tree.specs.Nodes as nodes
use Rattle.cel_tree.specs.Nodes.{Parts, Node, constant_node, ident_node, select_node, call_node, map_node, loop_node, children, entry_children, if_there, singles, IsNode}
use Rattle.cel_tree.specs.Trees.{MadeEntries, AreTrees, IsTree, node_count, trees_count, entries_count}
use Rattle.cel_tree.specs.View.{constant_view, tree_view, loop_of, target_of, LoopParts}
use Rattle.cel_tree.specs.private.TreeViews.{trees_view, tree_entries_view, loop_view, boxed_view}
use Rattle.cel_read.specs.private.EntryViews.{entry_nodes_view}
use Rattle.cel_read.specs.Places.{NamesExpr, OwnFault, SomeFaultAt, TreeFaultAt}
use Rattle.cel_read.specs.private.Inside.{Inside, IsTarget, target_nodes, EntryTrees, AreEntryTrees, AreLoopTrees, AreTwoTrees}
use Rattle.cel_read.specs.declared.parsed.EntryNode.{EntryNode}
use Rattle.cel_tree.specs.declared.tree.Constant as constants
use Rattle.cel_tree.specs.declared.tree.TreeEntry.{TreeEntry}
use Rattle.cel_tree.specs.declared.tree.Comprehension as loops
use Rattle.cel_tree.specs.declared.tree.Tree.{Tree, Constant, Ident, Select, Call, Map, Comprehension, the_lemmas}
use Rattle.cel_read.proofs.Counting.{made_count}

-- ---- how trees are seen

view_constant : (id : ℤ) (c : constants.Constant) → tree_view (Constant id c) ≡ constant id (constant_view c)
view_constant id c = search (rules, the_lemmas)

view_ident : (id : ℤ) (n : ArcStr Global) → tree_view (Ident id n) ≡ ident id (text_view n)
view_ident id n = search (rules, the_lemmas)

view_select : (id : ℤ) (o : Box Tree Global) (f : ArcStr Global) (t : _)
    → tree_view (Select id o f t) ≡ select id (tree_view o.value) (text_view f) t
view_select id o f t = search (rules, the_lemmas)

view_call : (id : ℤ) (f : ArcStr Global) (on : Option (Box Tree Global)) (args : Vec Tree Global)
    → tree_view (Call id f on args) ≡ call id (text_view f) (target_of (boxed_view on)) (trees_view args.items)
view_call id f None args = search (rules, the_lemmas)
view_call id f (Some on) args = search (rules, the_lemmas)

view_map : (id : ℤ) (es : Vec TreeEntry Global) → tree_view (Map id es) ≡ map_literal id (tree_entries_view es.items)
view_map id es = search (rules, the_lemmas)

view_comprehension : (id : ℤ) (b : Box loops.Comprehension Global)
    → tree_view (Comprehension id b) ≡ loop_of id (loop_view b.value)
view_comprehension id b = search (rules, the_lemmas)

-- an id is the one that was written
pub same_id : (id : ℤ) → SFits w64 id → to_z w64 (of_z w64 id) ≡ id
same_id id fits = to_z-of_z fits

module _ (depth : ℕ) (id : ℤ) (fits : SFits w64 id) where
  pub inside_constant : (c : constants.Constant) (left : ℕ)
      → Inside depth id (constant_node (constant_view c)) (tree_view (Constant (to_z w64 (of_z w64 id)) c)) left left
  inside_constant c left = rw (same_id id fits, view_constant id c) (no_trees, tt, refl, omega arith)

  pub inside_ident : (n : ArcStr Global) (left : ℕ)
      → Inside depth id (ident_node (text_view n)) (tree_view (Ident (to_z w64 (of_z w64 id)) n)) left left
  inside_ident n left = rw (same_id id fits, view_ident id n) (no_trees, tt, refl, omega arith)

  pub inside_select : (o : Parts) (b : Box Tree Global) (f : ArcStr Global) (t : _) (rest left : ℕ)
      → IsTree depth o (tree_view b.value) → rest + node_count (tree_view b.value) ≡ left
      → Inside depth id (select_node o (text_view f) t) (tree_view (Select (to_z w64 (of_z w64 id)) b f t)) rest left
  inside_select o b f t rest left is sum =
      rw (same_id id fits, view_select id b f t) (tree (tree_view b.value) no_trees, (is, tt), refl, omega (arith, sum))

  call_inside : (name : List ℕ) (on : Parts) (args : List (List ℕ)) (o : Option CelTree) (ts : CelTrees) (rest mid left : ℕ)
      → IsTarget depth on o → mid + target_nodes o ≡ left
      → AreTrees (IsTree depth) (singles args) ts → rest + trees_count ts ≡ mid
      → Inside depth id (call_node name on args) (call id name (target_of o) ts) rest left
  call_inside name [] args None ts rest mid left at sum are more = (ts, are, refl, omega (arith, sum, more))
  call_inside name [] args (Some t) ts rest mid left at sum are more = absurd at
  call_inside name (p ∷ ps) args None ts rest mid left at sum are more = absurd at
  call_inside name (p ∷ ps) args (Some t) ts rest mid left at sum are more =
      (tree t ts, (at, are), refl, omega (arith, sum, more))

  pub inside_call : (f : ArcStr Global) (on : Parts) (args : List (List ℕ)) (o : Option (Box Tree Global)) (ts : Vec Tree Global)
      (rest mid left : ℕ) → IsTarget depth on (boxed_view o) → mid + target_nodes (boxed_view o) ≡ left
      → AreTrees (IsTree depth) (singles args) (trees_view ts.items) → rest + trees_count (trees_view ts.items) ≡ mid
      → Inside depth id (call_node (text_view f) on args) (tree_view (Call (to_z w64 (of_z w64 id)) f o ts)) rest left
  inside_call f on args o ts rest mid left at sum are more =
      rw (same_id id fits, view_call id f o ts)
      (call_inside (text_view f) on args (boxed_view o) (trees_view ts.items) rest mid left at sum are more)

  entry_trees : (es : List nodes.EntryNode) (entries : CelTreeEntries) → EntryTrees depth es entries
      → (ts : CelTrees) × AreTrees (IsTree depth) (entry_children es) ts × MadeEntries es ts entries
      × (trees_count ts ≡ entries_count entries)
  entry_trees [] no_tree_entries are = (no_trees, tt, refl, refl)
  entry_trees [] (tree_entry i k v others) are = absurd are
  entry_trees (e ∷ es) no_tree_entries are = absurd are
  entry_trees (e ∷ es) (tree_entry i k v others) (same, key, value, rest) =
      let later = entry_trees es others rest in
      let sum : trees_count later.0 ≡ entries_count others = later.3 in (
        tree k (tree v later.0),
        (key, (value, later.1)),
        (others, later.2, ap (λ j. tree_entry j k v others) same),
        omega (arith, sum),
      )

  pub inside_map : (es : List nodes.EntryNode) (xs : Vec TreeEntry Global) (rest left : ℕ)
      → AreEntryTrees depth es (tree_entries_view xs.items) rest left
      → Inside depth id (map_node es) (tree_view (Map (to_z w64 (of_z w64 id)) xs)) rest left
  inside_map es xs rest left are =
      let made = entry_trees es (tree_entries_view xs.items) are.0 in
      let count : trees_count made.0 ≡ entries_count (tree_entries_view xs.items) = made.3 in
      let sum : rest + entries_count (tree_entries_view xs.items) ≡ left = are.1 in
      rw (same_id id fits, view_map id xs)
      (made.0, made.1, (tree_entries_view xs.items, made.2, refl), omega (arith, count, sum))

  loop_inside : (p : nodes.LoopNode) (q : LoopParts) (rest left : ℕ) → AreLoopTrees depth p q rest left
      → Inside depth id (loop_node p) (loop_of id q) rest left
  loop_inside p q rest left are =
      let sum = are.count in (
        tree q.iter_range (tree q.accu_init (tree q.loop_condition (tree q.loop_step (tree q.result no_trees)))),
        (are.iter_range, (are.accu_init, (are.loop_condition, (are.loop_step, (are.result, tt))))),
        ap₂ (λ x y. comprehension id x y q.accu_var q.iter_range q.accu_init q.loop_condition q.loop_step q.result) are.iter_var are.iter_var2
            ∙ ap (λ acc. comprehension id p.iter_var p.iter_var2 acc q.iter_range q.accu_init q.loop_condition q.loop_step q.result) are.accu_var,
        omega (arith, sum),
      )

  pub inside_loop : (p : nodes.LoopNode) (b : Box loops.Comprehension Global) (rest left : ℕ)
      → AreLoopTrees depth p (loop_view b.value) rest left
      → Inside depth id (loop_node p) (tree_view (Comprehension (to_z w64 (of_z w64 id)) b)) rest left
  inside_loop p b rest left are =
      rw (same_id id fits, view_comprehension id b) (loop_inside p (loop_view b.value) rest left are)

-- ---- one level, where one is left

pub own_at : (depth left : ℕ) (parts : Parts) (path : Path) (e : Refusal) → NamesExpr parts path
    → OwnFault depth left parts e → TreeFaultAt depth left parts path e
own_at zero left parts path e names bad = (names, bad)
own_at (suc depth) left parts path e names bad = inl (names, bad)

pub tree_found : (depth : ℕ) (parts : Parts) (id : ℤ) (node : Node) (t : CelTree) (rest mid left : ℕ) → 0 < depth
    → IsNode parts id node → mid + 1 ≡ left → Inside (depth - 1) id node t rest mid
    → IsTree depth parts t × (rest + node_count t ≡ left)
tree_found zero parts id node t rest mid left more is sum inside = absurd (omega arith)
tree_found (suc depth) parts id node t rest mid left more is sum inside =
    let less : suc depth - 1 ≡ depth = omega arith in
    let here : Inside depth id node t rest mid = rw less at inside in
    let count : node_count t ≡ 1 + trees_count here.0 = made_count id node here.0 t here.2 in
    let rest_sum : rest + trees_count here.0 ≡ mid = here.3 in
    (record { id = id; node = node; is = is; inside = here.0; are = here.1; makes = here.2 }, omega (arith, count, rest_sum, sum))

pub inside_at : (depth : ℕ) (parts : Parts) (id : ℤ) (node : Node) (mid left : ℕ) (path : Path) (e : Refusal) → 0 < depth
    → IsNode parts id node → mid + 1 ≡ left → SomeFaultAt (depth - 1) mid (children node) path e
    → TreeFaultAt depth left parts path e
inside_at zero parts id node mid left path e more is sum bad = absurd (omega arith)
inside_at (suc depth) parts id node mid left path e more is sum bad =
    let less : suc depth - 1 ≡ depth = omega arith in
    let below : SomeFaultAt depth mid (children node) path e = rw less at bad in
    inr (id, node, mid, is, sum, below)

-- ---- loops

module _ (depth : ℕ) where
  -- trees of which the first read
  pub first_at : (cs ds : List Parts) (left : ℕ) (path : Path) (e : Refusal) → SomeFaultAt depth left cs path e
      → SomeFaultAt depth left (cs ++ ds) path e
  first_at [] ds left path e bad = absurd bad
  first_at (c ∷ cs) ds left path e (inl bad) = inl bad
  first_at (c ∷ cs) ds left path e (inr (t, rest, read, sum, later)) =
      inr (t, rest, read, sum, first_at cs ds rest path e later)

  -- trees of which the first two read
  pub past_two : (a b : Parts) (cs : List Parts) (t u : CelTree) (rest left : ℕ) (path : Path) (e : Refusal)
      → AreTwoTrees depth a b t u rest left → SomeFaultAt depth rest cs path e → SomeFaultAt depth left (a ∷ b ∷ cs) path e
  past_two a b cs t u rest left path e both bad =
      let sum : rest + (node_count t + node_count u) ≡ left = both.count in
      inr (t, rest + node_count u, both.first, omega (arith, sum), inr (u, rest, both.second, refl, bad))

  -- the target of a call reads
  pub past_target : (on : Parts) (o : Option CelTree) (cs : List Parts) (rest left : ℕ) (path : Path) (e : Refusal)
      → IsTarget depth on o → rest + target_nodes o ≡ left → SomeFaultAt depth rest cs path e
      → SomeFaultAt depth left (if_there on ++ cs) path e
  past_target [] None cs rest left path e at sum bad =
      let same : rest ≡ left = omega (arith, sum) in
      subst (λ n. SomeFaultAt depth n cs path e) same bad
  past_target [] (Some t) cs rest left path e at sum bad = absurd at
  past_target (p ∷ ps) None cs rest left path e at sum bad = absurd at
  past_target (p ∷ ps) (Some t) cs rest left path e at sum bad = inr (t, rest, at, sum, bad)

  -- the tree at a place fails
  pub trees_at : (slices : List (Bor (List ℕ))) (i : ℕ) (d : Bor (List ℕ)) (ts : CelTrees) (rest left : ℕ) (path : Path)
      (e : Refusal) → i < length slices → AreTrees (IsTree depth) (singles (parts_view (take i slices))) ts
      → rest + trees_count ts ≡ left → TreeFaultAt depth rest ((get_or slices i d).now ∷ []) path e
      → SomeFaultAt depth left (singles (parts_view slices)) path e
  trees_at [] i d ts rest left path e within are sum bad = absurd (omega (arith, within))
  trees_at (s ∷ slices) zero d no_trees rest left path e within are sum bad =
      let same : rest ≡ left = omega (arith, sum) in
      let P : ℕ → Type 0 = λ n. TreeFaultAt depth n (s.now ∷ []) path e in
      inl (subst P same bad)
  trees_at (s ∷ slices) zero d (tree t ts) rest left path e within are sum bad = absurd are
  trees_at (s ∷ slices) (suc i) d no_trees rest left path e within are sum bad = absurd are
  trees_at (s ∷ slices) (suc i) d (tree t ts) rest left path e within are sum bad = inr (
    t,
    rest + trees_count ts,
    are.0,
    omega (arith, sum),
    trees_at slices i d ts rest (rest + trees_count ts) path e (omega (arith, within)) are.1 refl bad,
  )

  -- one tree more
  pub trees_push : (slices : List (Bor (List ℕ))) (ts : List Tree) (s : Bor (List ℕ)) (t : Tree)
      → AreTrees (IsTree depth) (singles (parts_view slices)) (trees_view ts) → IsTree depth (s.now ∷ []) (tree_view t)
      → AreTrees (IsTree depth) (singles (parts_view (slices ++ s ∷ []))) (trees_view (ts ++ t ∷ []))
  trees_push [] [] s t are is = (is, tt)
  trees_push [] (u ∷ ts) s t are is = absurd are
  trees_push (r ∷ slices) [] s t are is = absurd are
  trees_push (r ∷ slices) (u ∷ ts) s t are is = (are.0, trees_push slices ts s t are.1 is)

  -- the key or the value of the entry at a place fails
  pub entries_at : (ns : List EntryNode) (i : ℕ) (d : EntryNode) (es : CelTreeEntries) (rest left : ℕ) (path : Path)
      (e : Refusal)
      → i < length ns → EntryTrees depth (entry_nodes_view (take i ns)) es
      → rest + entries_count es ≡ left
      → SomeFaultAt depth rest (parts_view (get_or ns i d).key.items ∷ parts_view (get_or ns i d).value.items ∷ []) path e
      → SomeFaultAt depth left (entry_children (entry_nodes_view ns)) path e
  entries_at [] i d es rest left path e within are sum bad = absurd (omega (arith, within))
  entries_at (n ∷ ns) zero d no_tree_entries rest left path e within are sum bad =
      let same : rest ≡ left = omega (arith, sum) in
      let P : ℕ → Type 0 = λ k. SomeFaultAt depth k (entry_children (entry_nodes_view (n ∷ ns))) path e in
      subst P same (first_at (parts_view n.key.items ∷ parts_view n.value.items ∷ [])
      (entry_children (entry_nodes_view ns)) rest path e bad)
  entries_at (n ∷ ns) zero d (tree_entry i k v es) rest left path e within are sum bad = absurd are
  entries_at (n ∷ ns) (suc i) d no_tree_entries rest left path e within are sum bad = absurd are
  entries_at (n ∷ ns) (suc i) d (tree_entry j k v es) rest left path e within (same, key, value, others) sum bad = inr (
    k,
    rest + (node_count v + entries_count es),
    key,
    omega (arith, sum),
    inr (
      v,
      rest + entries_count es,
      value,
      omega arith,
      entries_at ns i d es rest (rest + entries_count es) path e (omega (arith, within)) others refl bad,
    ),
  )

  -- one entry more
  pub entry_trees_push : (ns : List EntryNode) (xs : List TreeEntry) (n : EntryNode) (x : TreeEntry)
      → EntryTrees depth (entry_nodes_view ns) (tree_entries_view xs) → x.id ≡ n.id
      → IsTree depth (parts_view n.key.items) (tree_view x.key) → IsTree depth (parts_view n.value.items) (tree_view x.value)
      → EntryTrees depth (entry_nodes_view (ns ++ n ∷ [])) (tree_entries_view (xs ++ x ∷ []))
  entry_trees_push [] [] n x are same key value = (same, key, value, tt)
  entry_trees_push [] (y ∷ xs) n x are same key value = absurd are
  entry_trees_push (m ∷ ns) [] n x are same key value = absurd are
  entry_trees_push (m ∷ ns) (y ∷ xs) n x (i, k, v, rest) same key value = (i, k, v, entry_trees_push ns xs n x rest same key value)

pub trees_push_count : (ts : List Tree) (t : Tree)
    → trees_count (trees_view (ts ++ t ∷ [])) ≡ trees_count (trees_view ts) + node_count (tree_view t)
trees_push_count [] t = omega arith
trees_push_count (u ∷ ts) t =
    let rest : trees_count (trees_view (ts ++ t ∷ [])) ≡ trees_count (trees_view ts) + node_count (tree_view t) = trees_push_count ts t in
    omega (arith, rest)

pub entries_push_count : (xs : List TreeEntry) (x : TreeEntry)
    → entries_count (tree_entries_view (xs ++ x ∷ [])) ≡ entries_count (tree_entries_view xs) + (node_count (tree_view x.key) + node_count (tree_view x.value))
entries_push_count [] x = omega arith
entries_push_count (y ∷ xs) x =
    let rest : entries_count (tree_entries_view (xs ++ x ∷ [])) ≡ entries_count (tree_entries_view xs) + (node_count (tree_view x.key) + node_count (tree_view x.value)) = entries_push_count xs x in
    omega (arith, rest)
