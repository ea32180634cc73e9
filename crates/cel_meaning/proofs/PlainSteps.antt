-- What the single steps of the plain evaluator come to.
use Rattle.std.proofs.Common.{◌≡◌, ◌<◌, ◌+◌, ◌&&◌, ℕ, ℤ, IsTrue, true, false, List, [], ◌∷◌, ◌++◌, drop, length, get_or, map, Option, Some, None, option_map, is_some, refl, sym, ap, ◌∙◌}
use Rattle.std.proofs.lemmas.List.{append_assoc, append-nil, drop_more, map-append}
use Rattle.std.specs.FinMap.{entries, entries-from_sorted, from_sorted, is_sorted}
use Rattle.std.specs.declared.alloc.Global.{Global}
use Rattle.std.specs.declared.sync.ArcStr.{ArcStr}
use Rattle.attributes.specs.Headers.{headers_view, name_cmp}
use Rattle.attributes.specs.Request.{RequestValue}
use Rattle.attributes.proofs.TextOrder.{t_from_true}
use Rattle.cel_ops.specs.Attributes.{header_entries}
use Rattle.cel_ops.specs.Collections.{entry_before, map_literal, written_entries}
use Rattle.cel_ops.specs.private.Gathering.{some_error}
use Rattle.cel_ops.specs.Strict.{all_values, gather, gathered_after}
use Rattle.cel_overload.specs.Functions.{function_named}
use Rattle.cel_tree.specs.Tree.{CelTarget, CelTrees, call, no_target, target}
use Rattle.cel_tree.specs.View.{LoopParts, tree_view}
use Rattle.cel_tree.specs.private.TreeViews.{tree_entries_view, trees_view}
use Rattle.cel_tree.specs.declared.tree.Tree.{Tree}
use Rattle.cel_tree.specs.declared.tree.TreeEntry.{TreeEntry}
use Rattle.cel_value.specs.Items.{item_at, joined_items}
use Rattle.cel_value.specs.Keys.{key_of_value}
use Rattle.cel_value.specs.Values.{CelKey, CelValue, CelValues, no_items, item, CelEntries, CelAnswer, fails, value}
use Rattle.cel_value.specs.View.{answer_view, pairs_view, value_view, values_view}
use Rattle.cel_value.specs.declared.value.Value.{Value}
use Rattle.cel_meaning.specs.declared.elements.Turn.{Turn}
use Rattle.cel_types.specs.Meaning.{call_answer}
use Rattle.cel_meaning.specs.Origin.{CelAround, CelPlaced, call_place, in_result, placed, placed_before, placed_each, placed_entries, placed_target, placed_turn, settled}
use Rattle.cel_meaning.specs.Places.{placed_view}
use Rattle.cel_meaning.specs.declared.place.Placed.{Placed}
use Rattle.cel_meaning.specs.private.Plain.{are_pairs, behind, turn_around, turn_view, turns}
use Rattle.cel_ops.proofs.Operands.{gather_error as erring}
pub use Rattle.cel_value.proofs.Items.{ranged, is_ranged, at_ranged, joined_none, some_left}
use Rattle.cel_ops.proofs.AttributeTypes.{seen_pairs}

-- ---- headers as they are kept

-- where they stand by ascending name, they are the map that they are seen as
pub seen_headers : (ps : List (ArcStr Global × ArcStr Global))
    → IsTrue (is_sorted name_cmp (headers_view ps))
    → header_entries (entries (from_sorted {R = name_cmp} (headers_view ps))) ≡ pairs_view ps
seen_headers ps sorted =
    ap header_entries (entries-from_sorted name_cmp (headers_view ps) (t_from_true _ sorted))
    ∙ seen_pairs ps

-- ---- elements of a range

-- the items are the first of the elements
abbrev pub Begin : CelValues → List Value → Type 0
Begin vs items = (rest : CelValues) × (joined_items (values_view items) rest ≡ vs)

joined_more : (items : List Value) (x : Value) (rest : CelValues)
    → joined_items (values_view (items ++ x ∷ [])) rest
    ≡ joined_items (values_view items) (item (value_view x) rest)
joined_more [] x rest = refl
joined_more (y ∷ items) x rest = ap (item (value_view y)) (joined_more items x rest)

-- the element behind the first ones is the first of the rest
behind_items : (items : List Value) (rest : CelValues)
    → item_at (joined_items (values_view items) rest) (length items) ≡ item_at rest 0
behind_items [] rest = refl
behind_items (x ∷ items) rest = behind_items items rest

pub one_more : (vs : CelValues) (items : List Value) (x : Value)
    → Some (value_view x) ≡ item_at vs (length items) → Begin vs items → Begin vs (items ++ x ∷ [])
one_more vs items x at (no_items, is) =
    absurd (let none : Some (value_view x) ≡ None =
    at ∙ ap (λ l. item_at l (length items)) (sym is) ∙ behind_items items no_items in cc)
one_more vs items x at (item w rest, is) =
    let first : Some (value_view x) ≡ Some w =
    at ∙ ap (λ l. item_at l (length items)) (sym is) ∙ behind_items items (item w rest) in
    let same : value_view x ≡ w = cc in
    (rest, joined_more items x rest ∙ ap (λ v. joined_items (values_view items) (item v rest)) same ∙ is)

pub no_more : (vs : CelValues) (items : List Value) → None ≡ item_at vs (length items)
    → Begin vs items → vs ≡ values_view items
no_more vs items at (no_items, is) = sym is ∙ joined_none (values_view items)
no_more vs items at (item w rest, is) =
    absurd (let some : None ≡ Some w =
    at ∙ ap (λ l. item_at l (length items)) (sym is) ∙ behind_items items (item w rest) in cc)

-- ---- turns of a comprehension

-- the turns that are left: the next one, and those behind it
pub next_turn : (p : LoopParts) (r : RequestValue) (c : CelAround) (each : List Turn) (i : ℕ)
    (t : Turn) (a : CelPlaced) → i < length each → t ≡ get_or each i t
    → turns p r c i (map turn_view (drop i each)) a
    ≡ placed_turn (placed r (turn_around p c i (turn_view t) a) p.loop_condition)
    (placed r (turn_around p c i (turn_view t) a) p.loop_step)
    (turns p r c (i + 1) (map turn_view (drop (i + 1) each)))
    (placed r (in_result p.accu_var a c) p.result)
next_turn p r c each i t a within here =
    let first : drop i each ≡ t ∷ drop (i + 1) each = rw (← here) at (drop_more each i t within) in
    ap (λ ts. turns p r c i (map turn_view ts) a) first

-- ---- map literals

both_there : (k : Option CelKey) (v : CelValue) (es : Option CelEntries)
    → is_some (entry_before k v es) ≡ (is_some k && is_some es)
both_there None v es = refl
both_there (Some k) v None = refl
both_there (Some k) v (Some es) = refl

written : (answers : List CelAnswer) → some_error answers ≡ false
    → (vs : CelValues) × (gather answers ≡ all_values vs)
    × (is_some (written_entries vs) ≡ are_pairs answers)
written [] none = (no_items, refl, refl)
written (fails e ∷ answers) none = cc
written (value k ∷ []) none = (item k no_items, refl, refl)
written (value k ∷ fails e ∷ answers) none = cc
written (value k ∷ value v ∷ answers) none =
    let inner = written answers none in (
      item k (item v inner.0),
      ap (λ g. gathered_after k (gathered_after v g)) inner.1,
      both_there (key_of_value k) v (written_entries inner.0)
          ∙ ap (λ b. is_some (key_of_value k) && b) inner.2,
    )

still_some : {A B : Type 0} → (f : A → B) (o : Option A) → is_some (option_map f o) ≡ is_some o
still_some f None = refl
still_some f (Some x) = refl

-- a map literal with an error among its operands has an answer
pub error_made : (answers : List CelAnswer) → some_error answers ≡ true
    → is_some (map_literal answers) ≡ true
error_made answers some = rw (erring answers some).1 refl

-- one without has an answer where keys and values stand in turn
pub pairs_made : (answers : List CelAnswer) → some_error answers ≡ false
    → is_some (map_literal answers) ≡ are_pairs answers
pairs_made answers none =
    let all = written answers none in rw all.1 (still_some _ (written_entries all.0) ∙ all.2)

-- ---- expressions one after the other

pub behind_more : (operands : List CelPlaced) (a : CelPlaced) (o : Option (List CelPlaced))
    → behind operands (placed_before (Some a) o) ≡ behind (operands ++ a ∷ []) o
behind_more operands a None = refl
behind_more operands a (Some others) = ap Some (sym (append_assoc operands (a ∷ []) others))

pub one_more_operand : (operands : List Placed) (a : Placed) (o : Option (List CelPlaced))
    → behind (map placed_view operands) (placed_before (Some (placed_view a)) o)
    ≡ behind (map placed_view (operands ++ a ∷ [])) o
one_more_operand operands a o =
    behind_more (map placed_view operands) (placed_view a) o
    ∙ ap (λ l. behind l o) (sym (map-append placed_view operands (a ∷ [])))

pub two_more : (operands : List Placed) (a b : Placed) (o : Option (List CelPlaced))
    → behind (map placed_view operands) (placed_before (Some (placed_view a)) (placed_before (Some (placed_view b)) o))
    ≡ behind (map placed_view ((operands ++ a ∷ []) ++ b ∷ [])) o
two_more operands a b o =
    behind_more (map placed_view operands) (placed_view a) (placed_before (Some (placed_view b)) o)
    ∙ (behind_more (map placed_view operands ++ placed_view a ∷ []) (placed_view b) o
    ∙ ap (λ l. behind l o) (sym (map-append placed_view (operands ++ a ∷ []) (b ∷ [])
    ∙ ap (λ l. l ++ placed_view b ∷ []) (map-append placed_view operands (a ∷ [])))))

pub behind_end : (operands : List CelPlaced) → behind operands (Some []) ≡ Some operands
behind_end operands = ap Some (append-nil operands)

pub behind_nothing : (o : Option (List CelPlaced)) → behind [] o ≡ o
behind_nothing None = refl
behind_nothing (Some operands) = refl

pub before_one : (a : CelPlaced) (o : Option (List CelPlaced)) → placed_before (Some a) o ≡ behind (a ∷ []) o
before_one a None = refl
before_one a (Some operands) = refl

pub next_tree : (ts : List Tree) (i : ℕ) (d : Tree) (r : RequestValue) (c : CelAround)
    → i < length ts → d ≡ get_or ts i d
    → placed_each r c (trees_view (drop i ts))
    ≡ placed_before (placed r c (tree_view d)) (placed_each r c (trees_view (drop (i + 1) ts)))
next_tree ts i d r c within is =
    ap (λ l. placed_each r c (trees_view l))
    (drop_more ts i d within ∙ ap (λ t. t ∷ drop (i + 1) ts) (sym is))

pub next_entry : (es : List TreeEntry) (i : ℕ) (d : TreeEntry) (r : RequestValue) (c : CelAround)
    → i < length es → d ≡ get_or es i d
    → placed_entries r c (tree_entries_view (drop i es))
    ≡ placed_before (placed r c (tree_view d.key)) (placed_before (placed r c (tree_view d.value))
    (placed_entries r c (tree_entries_view (drop (i + 1) es))))
next_entry es i d r c within is =
    ap (λ l. placed_entries r c (tree_entries_view l))
    (drop_more es i d within ∙ ap (λ t. t ∷ drop (i + 1) es) (sym is))

-- the operands of a call are its target's, and then the others
pub target_before : (on : CelTarget) (r : RequestValue) (c : CelAround) (operands : List CelPlaced)
    → Some operands ≡ placed_target r c on (Some []) → (o : Option (List CelPlaced))
    → placed_target r c on o ≡ behind operands o
target_before no_target r c operands is o =
    let none : operands ≡ [] = cc in rw none (sym (behind_nothing o))
target_before (target on) r c operands is o = at (placed r c on) is
  where
    at : (a : Option CelPlaced) → Some operands ≡ placed_before a (Some []) → placed_before a o ≡ behind operands o
    at None some = absurd (let no : Some operands ≡ None = some in cc)
    at (Some a) some = let one : operands ≡ a ∷ [] = cc in rw one (before_one a o)

-- a target without a meaning leaves the call without one
pub target_none : (on : CelTarget) (r : RequestValue) (c : CelAround)
    → None ≡ placed_target r c on (Some []) → (o : Option (List CelPlaced)) → placed_target r c on o ≡ None
target_none no_target r c is o = absurd (let no : None ≡ Some [] = is in cc)
target_none (target on) r c is o = at (placed r c on) is
  where
    at : (a : Option CelPlaced) → None ≡ placed_before a (Some []) → placed_before a o ≡ None
    at None none = refl
    at (Some a) none = absurd (let no : None ≡ Some (a ∷ []) = none in cc)

-- an answer is seen the same with its place and without
pub seen_answer : (found : Option Placed) → option_map (λ a. answer_view a.answer) found
    ≡ option_map (λ a. a.0) (option_map placed_view found)
seen_answer None = refl
seen_answer (Some a) = refl

-- the answer of a call on these operands
abbrev pub called : ℤ → (name : List ℕ) → CelTarget → CelTrees → CelAround → List CelPlaced → Option CelPlaced
called id name on args c operands = settled (call id name on args) c (call_answer name (Some (map (λ a. a.0) operands)))
    (call_place (function_named name) operands)
