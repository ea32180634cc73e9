-- A fault of a node is one of the expression, and its place names a node.
use Rattle.std.proofs.Common.{arith, ◌≡◌, ◌≢◌, ◌⊎◌, inl, inr, ℕ, ℤ, Bool, true, false, List, [], ◌∷◌, Option, Some, None, refl, sym, ◌∙◌, ap}
use Rattle.std.specs.Prelude.{Result, Ok, Err, IfOk, IfErr, IsErrAnd, MatchBool, MatchResult, is_some, not, slice_get}
use Rattle.std.proofs.lemmas.Result.{err_from_is_err_and}
use Rattle.proto_wire.specs.Places.{Path, End, itself, of_field, cut_short, longer, shortened, emptied, is_cut_short, named_field, path_at, path_of}
use Rattle.proto_wire.specs.declared.place.Step.{Step}
use Rattle.proto_wire.specs.declared.placed.Fault.{Fault}
use Rattle.proto_wire.specs.declared.refusal.Refusal.{Refusal}
use Rattle.cel_value.specs.Types.{ValueType}
use Rattle.cel_tree.specs.Checked.{CelChecked, CelReference, CelTypeEntry}
use Rattle.cel_tree.specs.Places.{NamesNode, PlacedOr}
use Rattle.cel_tree.specs.Tree.{CelTree, constant, ident, select, call, list_literal, map_literal, comprehension, CelTarget, no_target, target, CelTrees, no_trees, tree, CelTreeEntries, no_tree_entries, tree_entry}
use Rattle.cel_types.specs.Names.{turn_scope}
use Rattle.cel_types.specs.Typing.{Kinds, Maps, Types, maps_of}
use Rattle.cel_types.specs.TypingFaults.{CallsFault, CheckFault, ElementsFault, ItemTypes, KeyTypes, ListFault, LoopFault, MapsFault, PairFault, PairsFault, SelectFault, SomeFault, SomeTypes, TargetFault, TypeFault}
use Rattle.cel_types.specs.TypingFaults.{in_names, no_elements, no_condition, no_step as faulty_step, in_range, in_init, in_turn as faulty_turn, in_result}
use Rattle.cel_types.specs.TypingFaults as faults
use Rattle.cel_check.specs.Places.{OwnFault, TypeFaultAt, TargetFaultAt, SomeFaultAt, PairFaultAt, CheckFaultAt, too_many_locals, untyped, id_of}
use Rattle.cel_check.specs.private.Checks.{InsideAt, PlacedInside}
use Rattle.cel_check.proofs.Crowded.{some_many}

-- ---- a fault at its place is one

own_select : (ref : Option CelReference) (root : Option (List ℕ)) (Operand : ValueType → Type 0) (In : Refusal → Type 0)
    (field : List ℕ) (test_only : Bool) (e : Refusal) → SelectFault ref root Operand (λ d. ⊥) field test_only e
    → SelectFault ref root Operand In field test_only e
own_select ref root Operand In field test_only e (SelectFault.unknown r at none err) = SelectFault.unknown r at none err
own_select ref root Operand In field test_only e (SelectFault.asked r at asked err) = SelectFault.asked r at asked err
own_select ref root Operand In field test_only e (SelectFault.other_reference r t at plain named differs err) =
    SelectFault.other_reference r t at plain named differs err
own_select ref root Operand In field test_only e (SelectFault.no_names s none has never err) =
    SelectFault.no_names s none has never err
own_select ref root Operand In field test_only e (SelectFault.in_operand none bad) = absurd bad

own_call : (name : List ℕ) (on : Bool) (Operands : List ValueType → Type 0) (In : Refusal → Type 0) (e : Refusal)
    → CallsFault name on Operands (λ d. ⊥) e → CallsFault name on Operands In e
own_call name on Operands In e (CallsFault.unknown none err) = CallsFault.unknown none err
own_call name on Operands In e (CallsFault.no_overload f ts named has never err) =
    CallsFault.no_overload f ts named has never err
own_call name on Operands In e (CallsFault.in_operand bad) = absurd bad

own_list : (entry : Option CelTypeEntry) (ts : CelTrees) (Has : ValueType → Type 0) (In : Refusal → Type 0) (e : Refusal)
    → ListFault entry ts Has (λ d. ⊥) e → ListFault entry ts Has In e
own_list entry no_trees Has In e bad = bad
own_list entry (tree t ts) Has In e (ElementsFault.two_types s u a b differs err) = ElementsFault.two_types s u a b differs err
own_list entry (tree t ts) Has In e (ElementsFault.in_element bad) = absurd bad

own_map : (entry : Option CelTypeEntry) (es : CelTreeEntries) (HasKey HasValue : ValueType → Type 0) (In : Refusal → Type 0)
    (e : Refusal) → MapsFault entry es HasKey HasValue (λ d. ⊥) e → MapsFault entry es HasKey HasValue In e
own_map entry no_tree_entries HasKey HasValue In e bad = bad
own_map entry (tree_entry i k v es) HasKey HasValue In e (PairsFault.two_key_types s t a b differs err) =
    PairsFault.two_key_types s t a b differs err
own_map entry (tree_entry i k v es) HasKey HasValue In e (PairsFault.two_value_types s t a b differs err) =
    PairsFault.two_value_types s t a b differs err
own_map entry (tree_entry i k v es) HasKey HasValue In e (PairsFault.no_key_type s has never err) =
    PairsFault.no_key_type s has never err
own_map entry (tree_entry i k v es) HasKey HasValue In e (PairsFault.in_entry bad) = absurd bad

module _ (x y acc : List ℕ) (Range Init : ValueType → Type 0)
    (Condition Step : List ValueType → ValueType → ValueType → Type 0)
    (InRange InInit : Refusal → Type 0) (InTurn : List ValueType → ValueType → Refusal → Type 0)
    (InResult : ValueType → Refusal → Type 0) (e : Refusal) where
  own_loop : LoopFault x y acc Range Init Condition Step (λ d. ⊥) (λ d. ⊥) (λ each a d. ⊥) (λ a d. ⊥) e
      → LoopFault x y acc Range Init Condition Step InRange InInit InTurn InResult e
  own_loop (in_names fault) = in_names fault
  own_loop (no_elements s has never err) = no_elements s has never err
  own_loop (no_condition each a t got init has differs err) = no_condition each a t got init has differs err
  own_loop (faulty_step each a t got init has differs err) = faulty_step each a t got init has differs err
  own_loop (in_range bad) = absurd bad
  own_loop (in_init bad) = absurd bad
  own_loop (faulty_turn each a got init bad) = absurd bad
  own_loop (in_result a init bad) = absurd bad

own_fails : (m : Maps) (ks : Kinds) (t : CelTree) (e : Refusal) → OwnFault m ks t e → TypeFault m ks t e
own_fails m ks (constant id v) e bad = bad
own_fails m ks (ident id name) e bad = bad
own_fails m ks (select id operand field test_only) e (inl bad) = inl (own_select _ _ _ (TypeFault m ks operand) field test_only e bad)
own_fails m ks (select id operand field test_only) e (inr entry) = inr entry
own_fails m ks (call id name on args) e (inl bad) =
    inl (own_call name _ _ (λ d. TargetFault m ks on d ⊎ SomeFault m ks args d) e bad)
own_fails m ks (call id name on args) e (inr entry) = inr entry
own_fails m ks (list_literal id elements) e (inl bad) =
    inl (own_list _ elements (SomeTypes m ks elements) (SomeFault m ks elements) e bad)
own_fails m ks (list_literal id elements) e (inr entry) = inr entry
own_fails m ks (map_literal id entries) e (inl bad) =
    inl (own_map _ entries (KeyTypes m ks entries) (ItemTypes m ks entries) (PairFault m ks entries) e bad)
own_fails m ks (map_literal id entries) e (inr entry) = inr entry
own_fails m ks (comprehension id x y acc range init condition step result) e (inl bad) =
    inl (own_loop x y acc (Types m ks range) (Types m ks init)
    (λ each a. Types m (turn_scope x y acc each a ks) condition)
    (λ each a. Types m (turn_scope x y acc each a ks) step)
    (TypeFault m ks range) (TypeFault m ks init)
    (λ each a d. TypeFault m (turn_scope x y acc each a ks) condition d
    ⊎ TypeFault m (turn_scope x y acc each a ks) step d)
    (λ a. TypeFault m ((acc, a) ∷ ks) result) e bad)
own_fails m ks (comprehension id x y acc range init condition step result) e (inr entry) = inr entry

in_elements : (m : Maps) (ks : Kinds) (id : ℤ) (ts : CelTrees) (e : Refusal) → SomeFault m ks ts e
    → TypeFault m ks (list_literal id ts) e
in_elements m ks id no_trees e bad = absurd bad
in_elements m ks id (tree t ts) e bad = inl (ElementsFault.in_element bad)

in_entries : (m : Maps) (ks : Kinds) (id : ℤ) (es : CelTreeEntries) (e : Refusal) → PairFault m ks es e
    → TypeFault m ks (map_literal id es) e
in_entries m ks id no_tree_entries e bad = absurd bad
in_entries m ks id (tree_entry i k v es) e bad = inl (PairsFault.in_entry bad)

mutual
  pub type_fails : (m : Maps) (ks : Kinds) (t : CelTree) (path : Path) (e : Refusal) → TypeFaultAt m ks t path e
      → TypeFault m ks t e
  type_fails m ks (constant id v) path e bad = bad.1
  type_fails m ks (ident id name) path e bad = bad.1
  type_fails m ks (select id operand field test_only) path e (inl own) =
      own_fails m ks (select id operand field test_only) e own.1
  type_fails m ks (select id operand field test_only) path e (inr (none, bad)) =
      inl (SelectFault.in_operand none (type_fails m ks operand path e bad))
  type_fails m ks (call id name on args) path e (inl own) = own_fails m ks (call id name on args) e own.1
  type_fails m ks (call id name on args) path e (inr (inl bad)) =
      inl (CallsFault.in_operand (inl (target_fails m ks on path e bad)))
  type_fails m ks (call id name on args) path e (inr (inr bad)) =
      inl (CallsFault.in_operand (inr (some_fails m ks args path e bad)))
  type_fails m ks (list_literal id elements) path e (inl own) = own_fails m ks (list_literal id elements) e own.1
  type_fails m ks (list_literal id elements) path e (inr bad) =
      in_elements m ks id elements e (some_fails m ks elements path e bad)
  type_fails m ks (map_literal id entries) path e (inl own) = own_fails m ks (map_literal id entries) e own.1
  type_fails m ks (map_literal id entries) path e (inr bad) =
      in_entries m ks id entries e (pair_fails m ks entries path e bad)
  type_fails m ks (comprehension id x y acc range init condition step result) path e (inl own) =
      own_fails m ks (comprehension id x y acc range init condition step result) e own.1
  type_fails m ks (comprehension id x y acc range init condition step result) path e (inr (inl (inl bad))) =
      inl (in_range (type_fails m ks range path e bad))
  type_fails m ks (comprehension id x y acc range init condition step result) path e (inr (inl (inr bad))) =
      inl (in_init (type_fails m ks init path e bad))
  type_fails m ks (comprehension id x y acc range init condition step result) path e
      (inr (inr (inl (each, a, got, has, inl bad)))) =
      inl (faulty_turn each a got has (inl (type_fails m (turn_scope x y acc each a ks) condition path e bad)))
  type_fails m ks (comprehension id x y acc range init condition step result) path e
      (inr (inr (inl (each, a, got, has, inr bad)))) =
      inl (faulty_turn each a got has (inr (type_fails m (turn_scope x y acc each a ks) step path e bad)))
  type_fails m ks (comprehension id x y acc range init condition step result) path e (inr (inr (inr (a, has, bad)))) =
      inl (in_result a has (type_fails m ((acc, a) ∷ ks) result path e bad))

  target_fails : (m : Maps) (ks : Kinds) (on : CelTarget) (path : Path) (e : Refusal) → TargetFaultAt m ks on path e
      → TargetFault m ks on e
  target_fails m ks no_target path e bad = absurd bad
  target_fails m ks (target on) path e bad = type_fails m ks on path e bad

  some_fails : (m : Maps) (ks : Kinds) (ts : CelTrees) (path : Path) (e : Refusal) → SomeFaultAt m ks ts path e
      → SomeFault m ks ts e
  some_fails m ks no_trees path e bad = absurd bad
  some_fails m ks (tree t ts) path e (inl bad) = inl (type_fails m ks t path e bad)
  some_fails m ks (tree t ts) path e (inr bad) = inr (some_fails m ks ts path e bad)

  pair_fails : (m : Maps) (ks : Kinds) (es : CelTreeEntries) (path : Path) (e : Refusal) → PairFaultAt m ks es path e
      → PairFault m ks es e
  pair_fails m ks no_tree_entries path e bad = absurd bad
  pair_fails m ks (tree_entry id k v es) path e (inl bad) = inl (type_fails m ks k path e bad)
  pair_fails m ks (tree_entry id k v es) path e (inr (inl bad)) = inr (inl (type_fails m ks v path e bad))
  pair_fails m ks (tree_entry id k v es) path e (inr (inr bad)) = inr (inr (pair_fails m ks es path e bad))

pub check_fails : (c : CelChecked) (path : Path) (e : Refusal) → CheckFaultAt c path e → CheckFault c e
check_fails c path e (too_many_locals id first names is) =
    let many = some_many 0 c.tree id first in faults.too_many_locals (omega (arith, many)) is
check_fails c path e (untyped bad) = faults.untyped (type_fails (maps_of c) [] c.tree path e bad)

-- ---- a place that names a node is no empty place

pub node_placed : (id : ℤ) (path : Path) → NamesNode id path → path ≢ path_at 0
node_placed id path (longer room few is) empty = let clash = sym is ∙ empty in absurd cc
node_placed id path (shortened room many is) empty = absurd (omega (arith, many))
node_placed id path (emptied none is) empty =
    let clash : cut_short ≡ itself = ap (λ (p : Path). p.end) (sym is ∙ empty) in absurd cc

mutual
  type_placed : (m : Maps) (ks : Kinds) (t : CelTree) (path : Path) (e : Refusal) → TypeFaultAt m ks t path e
      → path ≢ path_at 0
  type_placed m ks (constant id v) path e bad = node_placed id path bad.0
  type_placed m ks (ident id name) path e bad = node_placed id path bad.0
  type_placed m ks (select id operand field test_only) path e (inl own) = node_placed id path own.0
  type_placed m ks (select id operand field test_only) path e (inr (none, bad)) = type_placed m ks operand path e bad
  type_placed m ks (call id name on args) path e (inl own) = node_placed id path own.0
  type_placed m ks (call id name on args) path e (inr (inl bad)) = target_placed m ks on path e bad
  type_placed m ks (call id name on args) path e (inr (inr bad)) = some_placed m ks args path e bad
  type_placed m ks (list_literal id elements) path e (inl own) = node_placed id path own.0
  type_placed m ks (list_literal id elements) path e (inr bad) = some_placed m ks elements path e bad
  type_placed m ks (map_literal id entries) path e (inl own) = node_placed id path own.0
  type_placed m ks (map_literal id entries) path e (inr bad) = pair_placed m ks entries path e bad
  type_placed m ks (comprehension id x y acc range init condition step result) path e (inl own) = node_placed id path own.0
  type_placed m ks (comprehension id x y acc range init condition step result) path e (inr (inl (inl bad))) =
      type_placed m ks range path e bad
  type_placed m ks (comprehension id x y acc range init condition step result) path e (inr (inl (inr bad))) =
      type_placed m ks init path e bad
  type_placed m ks (comprehension id x y acc range init condition step result) path e
      (inr (inr (inl (each, a, got, has, inl bad)))) = type_placed m (turn_scope x y acc each a ks) condition path e bad
  type_placed m ks (comprehension id x y acc range init condition step result) path e
      (inr (inr (inl (each, a, got, has, inr bad)))) = type_placed m (turn_scope x y acc each a ks) step path e bad
  type_placed m ks (comprehension id x y acc range init condition step result) path e (inr (inr (inr (a, has, bad)))) =
      type_placed m ((acc, a) ∷ ks) result path e bad

  target_placed : (m : Maps) (ks : Kinds) (on : CelTarget) (path : Path) (e : Refusal) → TargetFaultAt m ks on path e
      → path ≢ path_at 0
  target_placed m ks no_target path e bad = absurd bad
  target_placed m ks (target on) path e bad = type_placed m ks on path e bad

  some_placed : (m : Maps) (ks : Kinds) (ts : CelTrees) (path : Path) (e : Refusal) → SomeFaultAt m ks ts path e
      → path ≢ path_at 0
  some_placed m ks no_trees path e bad = absurd bad
  some_placed m ks (tree t ts) path e (inl bad) = type_placed m ks t path e bad
  some_placed m ks (tree t ts) path e (inr bad) = some_placed m ks ts path e bad

  pair_placed : (m : Maps) (ks : Kinds) (es : CelTreeEntries) (path : Path) (e : Refusal) → PairFaultAt m ks es path e
      → path ≢ path_at 0
  pair_placed m ks no_tree_entries path e bad = absurd bad
  pair_placed m ks (tree_entry id k v es) path e (inl bad) = type_placed m ks k path e bad
  pair_placed m ks (tree_entry id k v es) path e (inr (inl bad)) = type_placed m ks v path e bad
  pair_placed m ks (tree_entry id k v es) path e (inr (inr bad)) = pair_placed m ks es path e bad

inside_placed : (m : Maps) (ks : Kinds) (t : CelTree) (path : Path) (e : Refusal) → InsideAt m ks t path e → path ≢ path_at 0
inside_placed m ks (constant id v) path e bad = absurd bad
inside_placed m ks (ident id name) path e bad = absurd bad
inside_placed m ks (select id operand field test_only) path e bad =
    type_placed m ks (select id operand field test_only) path e (inr bad)
inside_placed m ks (call id name on args) path e bad = type_placed m ks (call id name on args) path e (inr bad)
inside_placed m ks (list_literal id elements) path e bad = type_placed m ks (list_literal id elements) path e (inr bad)
inside_placed m ks (map_literal id entries) path e bad = type_placed m ks (map_literal id entries) path e (inr bad)
inside_placed m ks (comprehension id x y acc range init condition step result) path e bad =
    type_placed m ks (comprehension id x y acc range init condition step result) path e (inr bad)

-- ---- a fault that gets its place

own_at : (m : Maps) (ks : Kinds) (t : CelTree) (path : Path) (e : Refusal) → NamesNode (id_of t) path → OwnFault m ks t e
    → TypeFaultAt m ks t path e
own_at m ks (constant id v) path e names own = (names, own)
own_at m ks (ident id name) path e names own = (names, own)
own_at m ks (select id operand field test_only) path e names own = inl (names, own)
own_at m ks (call id name on args) path e names own = inl (names, own)
own_at m ks (list_literal id elements) path e names own = inl (names, own)
own_at m ks (map_literal id entries) path e names own = inl (names, own)
own_at m ks (comprehension id x y acc range init condition step result) path e names own = inl (names, own)

inside_at : (m : Maps) (ks : Kinds) (t : CelTree) (path : Path) (e : Refusal) → InsideAt m ks t path e
    → TypeFaultAt m ks t path e
inside_at m ks (constant id v) path e bad = absurd bad
inside_at m ks (ident id name) path e bad = absurd bad
inside_at m ks (select id operand field test_only) path e bad = inr bad
inside_at m ks (call id name on args) path e bad = inr bad
inside_at m ks (list_literal id elements) path e bad = inr bad
inside_at m ks (map_literal id entries) path e bad = inr bad
inside_at m ks (comprehension id x y acc range init condition step result) path e bad = inr bad

-- what named no node names this one
pub named_at : (m : Maps) (ks : Kinds) (t : CelTree) (before path : Path) (e : Refusal) → PlacedInside m ks t before e
    → before ≡ path_at 0 → NamesNode (id_of t) path → TypeFaultAt m ks t path e
named_at m ks t before path e (inl (none, own)) empty names = own_at m ks t path e names own
named_at m ks t before path e (inr bad) empty names = absurd (inside_placed m ks t before e bad empty)

-- what named a node names it still
pub kept_at : (m : Maps) (ks : Kinds) (t : CelTree) (path : Path) (e : Refusal) → PlacedInside m ks t path e
    → path ≢ path_at 0 → TypeFaultAt m ks t path e
kept_at m ks t path e (inl (none, own)) some = absurd (some none)
kept_at m ks t path e (inr bad) some = inside_at m ks t path e bad

-- s is r, and a fault that named no node names this one
abbrev pub Named : {T : Type 0} → ℤ → Result T Fault → Result T Fault → Type 0
Named id r s = MatchResult r (λ x. s ≡ Ok x)
    (λ e. IsErrAnd s (λ f. (f.refusal ≡ e.refusal)
    × (((path_of e.place ≡ path_at 0) × NamesNode id (path_of f.place)) ⊎ ((path_of e.place ≢ path_at 0) × (f ≡ e)))))

pub named_found : {T : Type 0} (P : T → Type 0) (id : ℤ) (r s : Result T Fault) → Named id r s → IfOk r P → IfOk s P
named_found P id (Ok x) s is found = rw is found
named_found P id (Err e) s is found = rw ((err_from_is_err_and s is).1) tt

pub named_fault : (m : Maps) (ks : Kinds) (t : CelTree) {T : Type 0} (r s : Result T Fault) → Named (id_of t) r s
    → IfErr r (PlacedOr (PlacedInside m ks t)) → IfErr s (PlacedOr (TypeFaultAt m ks t))
named_fault m ks t (Ok x) s is fault = rw is tt
named_fault m ks t (Err e) s is fault =
    let l = err_from_is_err_and s is in
    rw (l.1) (elim fault [
      | inl memory ↦ inl (l.2.0 ∙ memory)
      | inr bad ↦ elim l.2.1 [
        | inl (empty, names) ↦
            inr (rw (l.2.0) (named_at m ks t (path_of e.place) (path_of (l.0).place) e.refusal bad empty names))
        | inr (some, same) ↦ inr (rw same (kept_at m ks t (path_of e.place) e.refusal bad some))
      ]
    ])

-- ---- whether a place names anything

whole_at : (steps : List Step) (end : End) (b : Bool) → slice_get steps 0 ≡ None → is_cut_short end ≡ false
    → is_some (named_field end) ≡ not b
    → MatchBool b (record { steps = steps; end = end } ≡ path_at 0) (record { steps = steps; end = end } ≢ path_at 0)
whole_at [] itself true none cut is = refl
whole_at [] itself false none cut is = let clash : false ≡ true = is in absurd cc
whole_at [] (of_field n) true none cut is = let clash : true ≡ false = is in absurd cc
whole_at [] (of_field n) false none cut is =
    λ same. (let clash : of_field n ≡ itself = ap (λ (p : Path). p.end) same in cc)
whole_at [] cut_short b none cut is = let clash : true ≡ false = cut in absurd cc
whole_at (s ∷ steps) end b none cut is = let clash : Some s ≡ None = none in absurd cc

pub whole : (p : Path) (b : Bool) → slice_get p.steps 0 ≡ None → is_cut_short p.end ≡ false
    → is_some (named_field p.end) ≡ not b → MatchBool b (p ≡ path_at 0) (p ≢ path_at 0)
whole p b none cut is = whole_at p.steps p.end b none cut is

pub no_step : (o : Option Step) → is_some o ≡ false → o ≡ None
no_step None none = refl
no_step (Some s) none = let clash : true ≡ false = none in absurd cc
