-- From what the check of a node's parts came to, to what the check of the node does: rule by rule.
use Rattle.std.proofs.Common.{arith, ◌≡◌, ◌≢◌, ◌⊎◌, ◌&&◌, ◌<◌, ◌≤◌, ◌+◌, max, inl, inr, zero, suc, ℕ, ℤ, Bool, true, false, List, [], ◌∷◌, ◌++◌, Option, Some, None, refl, sym, ap, ap₂, ◌∙◌, append_assoc, map, take, length, get_or, subst}
use Rattle.std.proofs.Math.Nat.{le-max_left, le-max_right}
use Rattle.std.proofs.lemmas.List.{map-append, take_more}
use Rattle.cel_tree.specs.declared.tree.Tree.{Tree}
use Rattle.cel_tree.specs.declared.tree.TreeEntry.{TreeEntry}
use Rattle.cel_types.specs.declared.typed.TypedExpr.{TypedExpr}
use Rattle.std.specs.FinMap.{get}
use Rattle.cel_tree.specs.Checked.{CelTypeEntry}
use Rattle.cel_tree.specs.Tree.{CelTree, constant, ident, select, call, list_literal, map_literal, comprehension, CelTarget, no_target, target, CelTrees, no_trees, tree, CelTreeEntries, no_tree_entries, tree_entry}
use Rattle.cel_value.specs.private.EqualityLaws.{type_eq_decides}
use Rattle.cel_value.specs.Types.{ValueType, map_type, type_eq, type_of_key, type_view}
use Rattle.cel_value.specs.declared.cel_type.CelType.{CelType}
use Rattle.cel_value.specs.declared.cel_type.KeyType.TheVariants as keys
use Rattle.cel_types.specs.Elaborated.{ElaboratesEach, ElaboratesPairs, ElaboratesTarget, TypedTree, TypedTrees, kind, kinds, no_typed, typed, typed_list, typed_loop, typed_map}
use Rattle.cel_types.specs.Names.{bound, joined_name, root_of, turn_scope, variables_of}
use Rattle.cel_types.specs.Typing.{ListRule, MapRule, IsOver, Kinds, Maps, NamesFault, Types, TypesAll, TypesEach, TypesPairs, TypesTarget, has_target, locals_in, locals_in_each, locals_in_entries}
use Rattle.cel_types.specs.TypingFaults.{CallsFault, ElementsFault, NodeTypeFault, ItemTypes, KeyTypes, PairsFault, SelectFault, SomeTypes}
use Rattle.cel_types.specs.TypingFaults.{unsupported_kind, another_type, in_names, no_elements, no_condition, no_step}
use Rattle.cel_types.specs.Agreeing.{EachAgrees, EntriesAgree, EntryAgrees, PairsAgree, TargetAgrees, TypeAgrees}
use Rattle.cel_types.specs.private.Rules.{NamesDiffer}
use Rattle.cel_types.specs.View.{expr_view, typed_of}
use Rattle.cel_types.specs.private.ExprViews.{exprs_view}
use Rattle.cel_check.specs.Places.{OwnFault, PairFaultAt, SomeFaultAt, TypeFaultAt, id_of}
use Rattle.cel_check.specs.private.Checks.{AreFound, AreTwo, BodyFault, EitherFault, InsideAgrees, IsBody, IsAttribute, IsCalled, IsFound, IsNode, IsTarget, IsTurn, PlacedInside, TurnFault}
use Rattle.cel_check.specs.private.Kinds.{IsListOf, IsMapOf, NoCall, NoElements, NoListOf, NoMapOf, each_view, field_of, in_turn, second_type}
use Rattle.cel_check.specs.declared.checker.kinds.TurnTypes.{TurnTypes}
use Rattle.cel_types.specs.declared.typed.Variables.{Variables}
use Rattle.std.proofs.lemmas.Bool.{and_parts}
use Rattle.cel_tree.specs.View.{EntryParts, LoopParts, loop_of, tree_entries_of, tree_view, trees_of}
use Rattle.cel_tree.specs.private.TreeViews.{entry_view, tree_entries_view, trees_view}
use Rattle.cel_types.proofs.OneType.{OneAtMost, one_type, over_one}
use Rattle.cel_types.proofs.TurnScopes.{over_length}
use Rattle.cel_types.proofs.Total.{names_faultless, same_type, typed_no_root}
use Rattle.proto_wire.specs.Places.{Path}
use Rattle.proto_wire.specs.declared.refusal.Refusal.{Refusal}
use Rattle.proto_wire.specs.declared.refusal.Refusal.TheVariants.{NoOverload}
pub use Rattle.cel_types.proofs.WellTypedElaborations.{elaborates_types as types_of}

-- ---- what is elaborated is typed

pub each_types : (m : Maps) (ks : Kinds) (ts : CelTrees) (es : TypedTrees)
    → ElaboratesEach m ks ts es → TypesEach m ks ts (kinds es)
each_types m ks no_trees no_typed g = tt
each_types m ks (tree t ts) (typed e es) g = (types_of m ks t e g.0, each_types m ks ts es g.1)
each_types m ks _ _ g = absurd g

pub target_types : (m : Maps) (ks : Kinds) (on : CelTarget) (ts : CelTrees) (es : TypedTrees)
    → ElaboratesTarget m ks on (ElaboratesEach m ks ts) es
    → TypesTarget m ks on (TypesEach m ks ts) (kinds es)
target_types m ks no_target ts es g = each_types m ks ts es g
target_types m ks (target on) ts no_typed g = absurd g
target_types m ks (target on) ts (typed e es) g =
    (types_of m ks on e g.0, each_types m ks ts es g.1)

-- ---- the type entry of a node

pub entry_agrees : (entry : Option CelTypeEntry) (Has : ValueType → Type 0) (t : ValueType)
    → OneAtMost Has → Has t → TypeAgrees entry t → EntryAgrees entry Has
entry_agrees entry Has t one has agrees u h = subst (TypeAgrees entry) (one t u has h) agrees

pub entry_fault : (entry : Option CelTypeEntry) (Has : ValueType → Type 0) (t : ValueType)
    (e : Refusal) → Has t → NodeTypeFault entry (λ u. u ≡ t) e → NodeTypeFault entry Has e
entry_fault entry Has t e has (unsupported_kind is err) = unsupported_kind is err
entry_fault entry Has t e has (another_type s u is said differs err) =
    another_type s u (subst Has (sym is) has) said differs err

pub node_fault : (m : Maps) (ks : Kinds) (t : CelTree) (s : ValueType) (e : Refusal)
    → Types m ks t s → NodeTypeFault (get m.types (id_of t)) (Types m ks t) e → OwnFault m ks t e
node_fault m ks (constant id v) s e g f = inr f
node_fault m ks (ident id name) s e g f = inr (typed_no_root name ks s g, f)
node_fault m ks (select id operand field test_only) s e g f = inr f
node_fault m ks (call id name on args) s e g f = inr f
node_fault m ks (list_literal id elements) s e g f = inr f
node_fault m ks (map_literal id entries) s e g f = inr f
node_fault m ks (comprehension id x y acc range init condition step result) s e g f = inr f

node_agrees : (m : Maps) (ks : Kinds) (t : CelTree) (s : ValueType) → Types m ks t s
    → EntryAgrees (get m.types (id_of t)) (Types m ks t) → InsideAgrees m ks t
    → EntriesAgree m ks t
node_agrees m ks (constant id v) s g agrees inside = agrees
node_agrees m ks (ident id name) s g agrees inside = (agrees, λ t h. inside)
node_agrees m ks (select id operand field test_only) s g agrees inside = (agrees, inside)
node_agrees m ks (call id name on args) s g agrees inside = (agrees, inside.0, inside.1)
node_agrees m ks (list_literal id elements) s g agrees inside = (agrees, inside)
node_agrees m ks (map_literal id entries) s g agrees inside = (agrees, inside)
node_agrees m ks (comprehension id x y acc range init condition step result) s g agrees inside =
    (agrees, inside.0, inside.1, inside.2, inside.3)

-- a node whose type entry agrees is found
pub node_found : (m : Maps) (ks : Kinds) (t : CelTree) (e : TypedTree) → IsNode m ks t e
    → TypeAgrees (get m.types (id_of t)) (kind e) → IsFound m ks t e
node_found m ks t e node agrees =
    let has = types_of m ks t e node.0 in (
      node.0,
      node_agrees m ks t (kind e) has
          (entry_agrees (get m.types (id_of t)) (Types m ks t) (kind e) (one_type m ks t) has agrees)
          node.1,
    )

-- one whose type entry does not agree has a fault
pub entry_wrong : (m : Maps) (ks : Kinds) (t : CelTree) (e : TypedTree) → IsNode m ks t e
    → (d : Refusal) → NodeTypeFault (get m.types (id_of t)) (λ u. u ≡ kind e) d → OwnFault m ks t d
entry_wrong m ks t e node d f =
    let has = types_of m ks t e node.0 in
    node_fault m ks t (kind e) d has
    (entry_fault (get m.types (id_of t)) (Types m ks t) (kind e) d has f)

-- ---- Selects

pub attribute_found : (m : Maps) (ks : Kinds) (id : ℤ) (operand : CelTree) (root field : List ℕ)
    (test_only : Bool) (e : TypedTree) → root_of operand ks ≡ Some root
    → IsAttribute (get m.refs id) (joined_name root field) test_only e
    → IsNode m ks (select id operand field test_only) e
attribute_found m ks id operand root field test_only e is (plain, a, named, same, agrees) =
    rw (plain, same, is)
    ((rw named refl, root, refl, named), λ t h. agrees)

pub attribute_bad : (m : Maps) (ks : Kinds) (id : ℤ) (operand : CelTree) (root field : List ℕ)
    (test_only : Bool) (e : Refusal) → root_of operand ks ≡ Some root
    → SelectFault (get m.refs id) (Some root) (λ _. ⊥) (λ _. ⊥) field test_only e
    → OwnFault m ks (select id operand field test_only) e
attribute_bad m ks id operand root field test_only e is (SelectFault.unknown r at none err) =
    inl (SelectFault.unknown r (is ∙ at) none err)
attribute_bad m ks id operand root field test_only e is (SelectFault.asked r at asked err) =
    inl (SelectFault.asked r (is ∙ at) asked err)
attribute_bad m ks id operand root field test_only e is
    (SelectFault.other_reference r t at plain named differs err) =
    inl (SelectFault.other_reference r t (is ∙ at) plain named differs err)
attribute_bad m ks id operand root field test_only e is (SelectFault.no_names s none h never err) =
    absurd h
attribute_bad m ks id operand root field test_only e is (SelectFault.in_operand none h) = absurd h

pub field_found : (m : Maps) (ks : Kinds) (id : ℤ) (operand : CelTree) (field : List ℕ)
    (test_only : Bool) (on : TypedTree) (t : ValueType) → root_of operand ks ≡ None
    → IsFound m ks operand on → kind on ≡ map_type keys.Text t
    → IsNode m ks (select id operand field test_only) (field_of test_only t on field)
field_found m ks id operand field true on t is found map =
    let has : Types m ks operand (map_type keys.Text t) =
    subst (Types m ks operand) map (types_of m ks operand on found.0) in
    rw is ((((t, has), refl), refl, refl, refl, found.0), found.1)
field_found m ks id operand field false on t is found map =
    let has : Types m ks operand (map_type keys.Text t) =
    subst (Types m ks operand) map (types_of m ks operand on found.0) in
    rw is ((has, refl, refl, refl, found.0), found.1)

pub field_bad : (m : Maps) (ks : Kinds) (id : ℤ) (operand : CelTree) (field : List ℕ)
    (test_only : Bool) (on : TypedTree) (e : Refusal) → root_of operand ks ≡ None
    → IsFound m ks operand on
    → ((t : ValueType) → kind on ≢ map_type keys.Text t) → e ≡ NoOverload
    → OwnFault m ks (select id operand field test_only) e
field_bad m ks id operand field test_only on e is found never err =
    inl (SelectFault.no_names (kind on) is (types_of m ks operand on found.0) never err)

-- ---- calls

module _ (m : Maps) (ks : Kinds) (id : ℤ) (name : List ℕ) (ts : CelTrees) where
  -- a target and the arguments behind it are operands
  operands : (on : CelTarget) (before es : List TypedTree) → IsTarget m ks on before
      → AreFound m ks ts before es
      → ElaboratesTarget m ks on (ElaboratesEach m ks ts) (typed_of es) × TargetAgrees m ks on
      × EachAgrees m ks ts
  operands no_target before es none (others, same, g, agree) =
      (rw (same, none) g, tt, agree)
  operands (target on) before es (e, first, found) (others, same, g, agree) =
      (rw (same, first) (found.0, g), found.1, agree)

  pub call_found : (on : CelTarget) (before es : List TypedTree) (e : TypedTree)
      → IsTarget m ks on before → AreFound m ks ts before es
      → IsCalled name (has_target on) (typed_of es) e → IsNode m ks (call id name on ts) e
  call_found on before es e first others (o, t, is, same) =
      let all = operands on before es first others in
      rw same (
        ((kinds (typed_of es), target_types m ks on ts (typed_of es) all.0, o, is), is, all.0),
        (all.1, all.2),
      )

  pub call_bad : (on : CelTarget) (before es : List TypedTree) (e : Refusal)
      → IsTarget m ks on before → AreFound m ks ts before es
      → NoCall name (has_target on) (kinds (typed_of es)) e
      → OwnFault m ks (call id name on ts) e
  call_bad on before es e first others (inl (none, err)) = inl (CallsFault.unknown none err)
  call_bad on before es e first others (inr (never, err)) =
      let all = operands on before es first others in
      inl (CallsFault.no_overload never.0 (kinds (typed_of es)) never.1
      (target_types m ks on ts (typed_of es) all.0) never.2 err)

-- ---- list literals

module _ (m : Maps) (ks : Kinds) where
  all_types : (ts : CelTrees) (es : TypedTrees) (s : ValueType) → ElaboratesEach m ks ts es
      → in_turn s s (kinds es) ≡ true → TypesAll m ks ts s
  all_types no_trees es s g same = tt
  all_types (tree t ts) no_typed s g same = absurd g
  all_types (tree t ts) (typed e es) s g same =
      let parts = and_parts (type_eq (kind e) s) (in_turn s s (kinds es)) same in (
        subst (Types m ks t) ((type_eq_decides (kind e) s).0 parts.0) (types_of m ks t e g.0),
        all_types ts es s g.1 parts.1,
      )

  some_differs : (ts : CelTrees) (es : TypedTrees) (s : ValueType) → ElaboratesEach m ks ts es
      → in_turn s s (kinds es) ≡ false
      → (t : ValueType) × SomeTypes m ks ts t × (s ≢ t)
  some_differs no_trees no_typed s g none = cc
  some_differs no_trees (typed e es) s g none = absurd g
  some_differs (tree t ts) no_typed s g none = absurd g
  some_differs (tree t ts) (typed e es) s g none = elim (same_type s (kind e)) [
    | inr differs ↦ (kind e, inl (types_of m ks t e g.0), differs)
    | inl same ↦
        let here : type_eq (kind e) s ≡ true = (type_eq_decides (kind e) s).1 (sym same) in
        let later : in_turn s s (kinds es) ≡ false =
        ap (λ b. b && in_turn s s (kinds es)) (sym here) ∙ none in
        let more = some_differs ts es s g.1 later in
        (more.0, inr more.1, more.2)
  ]

  list_rule : (entry : Option CelTypeEntry) (ts : CelTrees) (es : List TypedTree) (t : ValueType)
      → ElaboratesEach m ks ts (typed_of es) → IsListOf entry (kinds (typed_of es)) t
      → ListRule entry ts (TypesAll m ks ts) t
  list_rule entry no_trees [] t g is = is
  list_rule entry no_trees (e ∷ es) t g is = absurd g
  list_rule entry (tree a ts) [] t g is = absurd g
  list_rule entry (tree a ts) (e ∷ es) t g is = (
    kind e,
    (types_of m ks a e g.0, all_types ts (typed_of es) (kind e) g.1 is.0),
    is.1,
  )

  pub list_found : (id : ℤ) (ts : CelTrees) (es : List TypedTree) (t : ValueType)
      → AreFound m ks ts [] es → IsListOf (get m.types id) (kinds (typed_of es)) t
      → IsNode m ks (list_literal id ts) (typed_list t (typed_of es))
  list_found id ts es t (others, same, g, agree) is =
      let found : ElaboratesEach m ks ts (typed_of es) =
      subst (λ l. ElaboratesEach m ks ts (typed_of l)) (sym same) g in
      ((list_rule (get m.types id) ts es t found is, found), agree)

  list_wrong : (id : ℤ) (ts : CelTrees) (es : List TypedTree) (e : Refusal)
      → ElaboratesEach m ks ts (typed_of es) → NoListOf (get m.types id) (kinds (typed_of es)) e
      → OwnFault m ks (list_literal id ts) e
  list_wrong id no_trees [] e g (inl bad) = inl bad
  list_wrong id no_trees [] e g (inr (is, err)) = inr (unsupported_kind is err)
  list_wrong id no_trees (x ∷ es) e g f = absurd g
  list_wrong id (tree a ts) [] e g f = absurd g
  list_wrong id (tree a ts) (x ∷ es) e g (none, err) =
      let some = some_differs ts (typed_of es) (kind x) g.1 none in
      inl (ElementsFault.two_types (kind x) some.0 (inl (types_of m ks a x g.0)) (inr some.1) some.2
      err)

  pub list_bad : (id : ℤ) (ts : CelTrees) (es : List TypedTree) (e : Refusal)
      → AreFound m ks ts [] es → NoListOf (get m.types id) (kinds (typed_of es)) e
      → OwnFault m ks (list_literal id ts) e
  list_bad id ts es e (others, same, g, agree) f =
      list_wrong id ts es e (subst (λ l. ElaboratesEach m ks ts (typed_of l)) (sym same) g) f

  -- ---- map literals

  pairs_types : (es : CelTreeEntries) (ps : TypedTrees) (r s : ValueType)
      → ElaboratesPairs m ks es ps → in_turn r s (kinds ps) ≡ true → TypesPairs m ks es r s
  pairs_types no_tree_entries ps r s g same = tt
  pairs_types (tree_entry id key value es) no_typed r s g same = absurd g
  pairs_types (tree_entry id key value es) (typed k no_typed) r s g same = absurd g
  pairs_types (tree_entry id key value es) (typed k (typed v ps)) r s g same =
      let parts = and_parts (type_eq (kind k) r) (type_eq (kind v) s && in_turn r s (kinds ps)) same in
      let later = and_parts (type_eq (kind v) s) (in_turn r s (kinds ps)) parts.1 in (
        subst (Types m ks key) ((type_eq_decides (kind k) r).0 parts.0) (types_of m ks key k g.0),
        subst (Types m ks value) ((type_eq_decides (kind v) s).0 later.0) (types_of m ks value v g.1),
        pairs_types es ps r s g.2 later.1,
      )

  pairs_differ : (es : CelTreeEntries) (ps : TypedTrees) (r s : ValueType)
      → ElaboratesPairs m ks es ps → in_turn r s (kinds ps) ≡ false
      → ((t : ValueType) × KeyTypes m ks es t × (r ≢ t))
      ⊎ ((t : ValueType) × ItemTypes m ks es t × (s ≢ t))
  pairs_differ no_tree_entries no_typed r s g none = cc
  pairs_differ no_tree_entries (typed k ps) r s g none = absurd g
  pairs_differ (tree_entry id key value es) no_typed r s g none = absurd g
  pairs_differ (tree_entry id key value es) (typed k no_typed) r s g none = absurd g
  pairs_differ (tree_entry id key value es) (typed k (typed v ps)) r s g none =
      elim (same_type r (kind k)) [
        | inr differs ↦ inl (kind k, inl (types_of m ks key k g.0), differs)
        | inl d ↦ elim (same_type s (kind v)) [
          | inr differs ↦ inr (kind v, inl (types_of m ks value v g.1), differs)
          | inl e ↦
              let first : type_eq (kind k) r ≡ true = (type_eq_decides (kind k) r).1 (sym d) in
              let second : type_eq (kind v) s ≡ true = (type_eq_decides (kind v) s).1 (sym e) in
              let later : in_turn r s (kinds ps) ≡ false =
              ap₂ (λ a b. a && (b && in_turn r s (kinds ps))) (sym first) (sym second) ∙ none in
              elim (pairs_differ es ps r s g.2 later) [
                | inl (t, some, differs) ↦ inl (t, inr some, differs)
                | inr (t, some, differs) ↦ inr (t, inr some, differs)
              ]
        ]
      ]

  map_rule : (entry : Option CelTypeEntry) (es : CelTreeEntries) (ps : TypedTrees) (t : ValueType)
      → ElaboratesPairs m ks es ps → IsMapOf entry (kinds ps) t
      → MapRule entry es (TypesPairs m ks es) t
  map_rule entry no_tree_entries no_typed t g is = is
  map_rule entry no_tree_entries (typed k ps) t g is = absurd g
  map_rule entry (tree_entry id key value es) no_typed t g is = absurd g
  map_rule entry (tree_entry id key value es) (typed k no_typed) t g is = absurd g
  map_rule entry (tree_entry id key value es) (typed k (typed v ps)) t g (same, j, key_is, is) =
      let first : Types m ks key (type_of_key j) =
      subst (Types m ks key) key_is (types_of m ks key k g.0) in
      let others : TypesPairs m ks es (type_of_key j) (kind v) =
      pairs_types es ps (type_of_key j) (kind v) g.2
      (subst (λ r. in_turn r (kind v) (kinds ps) ≡ true) key_is same) in
      (j, kind v, (first, types_of m ks value v g.1, others), is)

  pub map_found : (id : ℤ) (es : CelTreeEntries) (ps : TypedTrees) (t : ValueType)
      → ElaboratesPairs m ks es ps → PairsAgree m ks es → IsMapOf (get m.types id) (kinds ps) t
      → IsNode m ks (map_literal id es) (typed_map t ps)
  map_found id es ps t g agree is = ((map_rule (get m.types id) es ps t g is, g), agree)

  pub map_bad : (id : ℤ) (es : CelTreeEntries) (ps : TypedTrees) (e : Refusal)
      → ElaboratesPairs m ks es ps → NoMapOf (get m.types id) (kinds ps) e
      → OwnFault m ks (map_literal id es) e
  map_bad id no_tree_entries no_typed e g (inl bad) = inl bad
  map_bad id no_tree_entries no_typed e g (inr (is, err)) = inr (unsupported_kind is err)
  map_bad id no_tree_entries (typed k ps) e g f = absurd g
  map_bad id (tree_entry i key value es) no_typed e g f = absurd g
  map_bad id (tree_entry i key value es) (typed k no_typed) e g f = absurd g
  map_bad id (tree_entry i key value es) (typed k (typed v ps)) e g (inr never, err) =
      inl (PairsFault.no_key_type (kind k) (inl (types_of m ks key k g.0)) never err)
  map_bad id (tree_entry i key value es) (typed k (typed v ps)) e g (inl none, err) =
      elim (pairs_differ es ps (kind k) (kind v) g.2 none) [
        | inl (t, some, differs) ↦ inl (PairsFault.two_key_types (kind k) t
            (inl (types_of m ks key k g.0)) (inr some) differs err)
        | inr (t, some, differs) ↦ inl (PairsFault.two_value_types (kind v) t
            (inl (types_of m ks value v g.1)) (inr some) differs err)
      ]

-- ---- comprehensions

-- the names and types of a turn's locals are those of its scope
pub turn_is : (x y acc : List ℕ) (each : TurnTypes) (w a : ValueType) (ks : Kinds)
    → IsOver (variables_of y) w (each_view each)
    → bound (y ∷ []) (second_type each.second) ++ (x, type_view each.first) ∷ (acc, a) ∷ ks
    ≡ turn_scope x y acc (each_view each) a ks
turn_is x y acc each w a ks is = at y each.second is
  where
    at : (y : List ℕ) (second : Option CelType)
        → IsOver (variables_of y) w (second_type second ++ type_view each.first ∷ [])
        → bound (y ∷ []) (second_type second) ++ (x, type_view each.first) ∷ (acc, a) ∷ ks
        ≡ turn_scope x y acc (second_type second ++ type_view each.first ∷ []) a ks
    at [] None is = refl
    at [] (Some t) is = let long = over_length x [] w _ is in absurd (omega (arith, long))
    at (c ∷ y) None is = let short = over_length x (c ∷ y) w _ is in absurd (omega (arith, short))
    at (c ∷ y) (Some t) is = refl

module _ (m : Maps) (ks : Kinds) (id : ℤ) (p : LoopParts) where
  abbrev turn_of : List ValueType → ValueType → Kinds
  turn_of each a = turn_scope p.iter_var p.iter_var2 p.accu_var each a ks

  abbrev vars : Variables
  vars = variables_of p.iter_var2

  pub names_bad : (e : Refusal) → NamesFault p.iter_var p.iter_var2 p.accu_var e
      → OwnFault m ks (loop_of id p) e
  names_bad e fault = inl (in_names fault)

  module _ (r : TypedTree) (range : IsFound m ks p.iter_range r) where
    has_range : Types m ks p.iter_range (kind r)
    has_range = types_of m ks p.iter_range r range.0

    pub elements_none : (e : Refusal) → NoElements vars (kind r) e → OwnFault m ks (loop_of id p) e
    elements_none e never = inl (no_elements (kind r) has_range never.0 never.1)

    module _ (i : TypedTree) (init : IsFound m ks p.accu_init i) (each : List ValueType)
        (over : IsOver vars (kind r) each) where
      has_init : Types m ks p.accu_init (kind i)
      has_init = types_of m ks p.accu_init i init.0

      pub turn_bad : (path : Path) (e : Refusal)
          → TurnFault m (turn_of each (kind i)) p.loop_condition p.loop_step (kind i) path e
          → PlacedInside m ks (loop_of id p) path e
      turn_bad path e (inl f) = inr (inr (inl (each, kind i, (kind r, has_range, over), has_init, f)))
      turn_bad path e (inr (none, inl (f, err))) =
          inl (none, inl (no_condition each (kind i) f.0 (kind r, has_range, over) has_init f.1 f.2 err))
      turn_bad path e (inr (none, inr (f, err))) =
          inl (none, inl (no_step each (kind i) f.0 (kind r, has_range, over) has_init f.1 f.2 err))

      pub result_bad : (path : Path) (e : Refusal) → TypeFaultAt m ((p.accu_var, kind i) ∷ ks) p.result path e
          → PlacedInside m ks (loop_of id p) path e
      result_bad path e f = inr (inr (inr (kind i, has_init, f)))

      pub loop_found : NamesDiffer p.iter_var p.iter_var2 p.accu_var → (c u e : TypedTree)
          → IsTurn m (turn_of each (kind i)) p.loop_condition p.loop_step (kind i) c u
          → IsFound m ((p.accu_var, kind i) ∷ ks) p.result e
          → IsNode m ks (loop_of id p) (typed_loop (kind e) vars r i c u e)
      loop_found names c u e (condition, is_bool, step, keeps) result = (
        (
          record {
            names = names_faultless p.iter_var p.iter_var2 p.accu_var names;
            walked = kind r;
            each = each;
            gathered = kind i;
            range = has_range;
            over = over;
            init = has_init;
            condition = subst (Types m (turn_of each (kind i)) p.loop_condition) is_bool
                (types_of m (turn_of each (kind i)) p.loop_condition c condition.0);
            step = subst (Types m (turn_of each (kind i)) p.loop_step) keeps
                (types_of m (turn_of each (kind i)) p.loop_step u step.0);
            result = types_of m ((p.accu_var, kind i) ∷ ks) p.result e result.0;
          },
          refl,
          each,
          kind i,
          over,
          refl,
          range.0,
          init.0,
          condition.0,
          step.0,
          result.0,
        ),
        (
          range.1,
          init.1,
          (λ w others a is_range is_over is_init.
              subst (λ ls. EntriesAgree m ls p.loop_condition × EntriesAgree m ls p.loop_step)
              (ap₂ turn_of (over_one vars w each others (subst (λ w. IsOver vars w each)
              (one_type m ks p.iter_range (kind r) w has_range is_range) over) is_over)
              (one_type m ks p.accu_init (kind i) a has_init is_init)) (condition.1, step.1)),
          (λ a is_init. subst (λ a. EntriesAgree m ((p.accu_var, a) ∷ ks) p.result)
              (one_type m ks p.accu_init (kind i) a has_init is_init) result.1),
        ),
      )

  -- both parts that have no locals of their own
  pub ends_bad : (path : Path) (e : Refusal) → EitherFault m ks p.iter_range p.accu_init path e
      → PlacedInside m ks (loop_of id p) path e
  ends_bad path e f = inr (inl f)

  -- those that have
  pub body_bad : (r i : TypedTree) → AreTwo m ks p.iter_range p.accu_init r i → (path : Path) (e : Refusal)
      → BodyFault m ks p (kind r) (kind i) path e → PlacedInside m ks (loop_of id p) path e
  body_bad r i two path e (inl (none, never)) = inl (none, elements_none r two.0 e never)
  body_bad r i two path e (inr (each, over, inl turn)) = turn_bad r two.0 i two.1 each over path e turn
  body_bad r i two path e (inr (each, over, inr f)) = result_bad r two.0 i two.1 each over path e f

  pub body_found : NamesDiffer p.iter_var p.iter_var2 p.accu_var → (r i c u e : TypedTree)
      → AreTwo m ks p.iter_range p.accu_init r i → IsBody m ks p (kind r) (kind i) c u e
      → IsNode m ks (loop_of id p) (typed_loop (kind e) vars r i c u e)
  body_found names r i c u e two (each, over, turn, last) =
      loop_found r two.0 i two.1 each over names c u e turn last

-- ---- one expression after another

pub each_push : (m : Maps) (ks : Kinds) (ts : List CelTree) (t : CelTree)
    (before es : List TypedTree) (e : TypedTree) → AreFound m ks (trees_of ts) before es
    → IsFound m ks t e → AreFound m ks (trees_of (ts ++ (t ∷ []))) before (es ++ (e ∷ []))
each_push m ks ts t before es e (others, same, g, agree) found = (
  others ++ (e ∷ []),
  ap (λ l. l ++ (e ∷ [])) same ∙ append_assoc before others (e ∷ []),
  each ts others g,
  all ts agree,
)
  where
    each : (ts : List CelTree) (es : List TypedTree) → ElaboratesEach m ks (trees_of ts) (typed_of es)
        → ElaboratesEach m ks (trees_of (ts ++ (t ∷ []))) (typed_of (es ++ (e ∷ [])))
    each [] [] g = (found.0, tt)
    each [] (x ∷ es) g = absurd g
    each (x ∷ ts) [] g = absurd g
    each (x ∷ ts) (y ∷ es) g = (g.0, each ts es g.1)

    all : (ts : List CelTree) → EachAgrees m ks (trees_of ts)
        → EachAgrees m ks (trees_of (ts ++ (t ∷ [])))
    all [] a = (found.1, tt)
    all (x ∷ ts) a = (a.0, all ts a.1)

pub pairs_push : (m : Maps) (ks : Kinds) (ts : List EntryParts) (t : EntryParts)
    (es : List TypedTree) (k v : TypedTree)
    → ElaboratesPairs m ks (tree_entries_of ts) (typed_of es) → PairsAgree m ks (tree_entries_of ts)
    → IsFound m ks t.key k → IsFound m ks t.value v
    → ElaboratesPairs m ks (tree_entries_of (ts ++ (t ∷ []))) (typed_of ((es ++ (k ∷ [])) ++ (v ∷ [])))
    × PairsAgree m ks (tree_entries_of (ts ++ (t ∷ [])))
pairs_push m ks ts t es k v g agree key value = (each ts es g, all ts agree)
  where
    each : (ts : List EntryParts) (es : List TypedTree)
        → ElaboratesPairs m ks (tree_entries_of ts) (typed_of es)
        → ElaboratesPairs m ks (tree_entries_of (ts ++ (t ∷ [])))
        (typed_of ((es ++ (k ∷ [])) ++ (v ∷ [])))
    each [] [] g = (key.0, value.0, tt)
    each [] (x ∷ es) g = absurd g
    each (x ∷ ts) [] g = absurd g
    each (x ∷ ts) (y ∷ []) g = absurd g
    each (x ∷ ts) (y ∷ z ∷ es) g = (g.0, g.1, each ts es g.2)

    all : (ts : List EntryParts) → PairsAgree m ks (tree_entries_of ts)
        → PairsAgree m ks (tree_entries_of (ts ++ (t ∷ [])))
    all [] a = (key.1, value.1, tt)
    all (x ∷ ts) a = (a.0, a.1, all ts a.2)

-- ---- one of the trees of a slice

module _ (m : Maps) (ks : Kinds) where
  pub some_at : (ts : List Tree) (i : ℕ) (d : Tree) (path : Path) (e : Refusal) → i < length ts → d ≡ get_or ts i d
      → TypeFaultAt m ks (tree_view d) path e → SomeFaultAt m ks (trees_view ts) path e
  some_at [] i d path e within is f = absurd (omega (arith, within))
  some_at (x ∷ ts) zero d path e within is f =
      inl (subst (λ t. TypeFaultAt m ks (tree_view t) path e) is f)
  some_at (x ∷ ts) (suc i) d path e within is f = inr (some_at ts i d path e (omega (arith, within)) is f)

  pub pair_at : (es : List TreeEntry) (i : ℕ) (d : TreeEntry) (path : Path) (e : Refusal) → i < length es
      → d ≡ get_or es i d
      → TypeFaultAt m ks (tree_view d.key) path e ⊎ TypeFaultAt m ks (tree_view d.value) path e
      → PairFaultAt m ks (tree_entries_view es) path e
  pair_at [] i d path e within is f = absurd (omega (arith, within))
  pair_at (x ∷ es) zero d path e within is (inl f) =
      inl (subst (λ t. TypeFaultAt m ks (tree_view t.key) path e) is f)
  pair_at (x ∷ es) zero d path e within is (inr f) =
      inr (inl (subst (λ t. TypeFaultAt m ks (tree_view t.value) path e) is f))
  pair_at (x ∷ es) (suc i) d path e within is f =
      inr (inr (pair_at es i d path e (omega (arith, within)) is f))

  pub each_more : (ts : List Tree) (i : ℕ) (d : Tree) (before : List TypedTree)
      (es : List TypedExpr) (e : TypedExpr) → i < length ts → d ≡ get_or ts i d
      → AreFound m ks (trees_view (take i ts)) before (map expr_view es)
      → IsFound m ks (tree_view d) (expr_view e)
      → AreFound m ks (trees_view (take (i + 1) ts)) before (map expr_view (es ++ (e ∷ [])))
  each_more ts i d before es e within is so_far found =
      let more : take (i + 1) ts ≡ take i ts ++ (d ∷ []) =
      take_more ts i d within ∙ ap (λ x. take i ts ++ (x ∷ [])) (sym is) in
      rw (more, map-append tree_view (take i ts) (d ∷ []), map-append expr_view es (e ∷ []))
      (each_push m ks (map tree_view (take i ts)) (tree_view d) before (map expr_view es) (expr_view e)
      so_far found)

  pub pairs_more : (ts : List TreeEntry) (i : ℕ) (d : TreeEntry) (es : List TypedExpr)
      (k v : TypedExpr) → i < length ts → d ≡ get_or ts i d
      → ElaboratesPairs m ks (tree_entries_view (take i ts)) (exprs_view es)
      × PairsAgree m ks (tree_entries_view (take i ts))
      → IsFound m ks (tree_view d.key) (expr_view k) → IsFound m ks (tree_view d.value) (expr_view v)
      → ElaboratesPairs m ks (tree_entries_view (take (i + 1) ts))
      (exprs_view ((es ++ (k ∷ [])) ++ (v ∷ [])))
      × PairsAgree m ks (tree_entries_view (take (i + 1) ts))
  pairs_more ts i d es k v within is so_far key value =
      let more : take (i + 1) ts ≡ take i ts ++ (d ∷ []) =
      take_more ts i d within ∙ ap (λ x. take i ts ++ (x ∷ [])) (sym is) in
      rw (
        more,
        map-append entry_view (take i ts) (d ∷ []),
        map-append expr_view (es ++ (k ∷ [])) (v ∷ []),
        map-append expr_view es (k ∷ []),
      ) (pairs_push m ks (map entry_view (take i ts)) (entry_view d) (map expr_view es) (expr_view k)
      (expr_view v) so_far.0 so_far.1 key value)

-- one of the trees has no more locals than they all
pub each_within : (ts : List Tree) (i : ℕ) (d : Tree) → i < length ts → d ≡ get_or ts i d
    → locals_in (tree_view d) ≤ locals_in_each (trees_view ts)
each_within [] i d within is = absurd (omega (arith, within))
each_within (x ∷ ts) zero d within is =
    rw is (le-max_left (locals_in (tree_view x)) (locals_in_each (trees_view ts)))
each_within (x ∷ ts) (suc i) d within is =
    let later = each_within ts i d (omega (arith, within)) is in
    let most = le-max_right (locals_in (tree_view x)) (locals_in_each (trees_view ts)) in
    omega (arith, later, most)

pub entry_within : (es : List TreeEntry) (i : ℕ) (d : TreeEntry) → i < length es
    → d ≡ get_or es i d → (locals_in (tree_view d.key) ≤ locals_in_entries (tree_entries_view es))
    × (locals_in (tree_view d.value) ≤ locals_in_entries (tree_entries_view es))
entry_within [] i d within is = absurd (omega (arith, within))
entry_within (x ∷ es) zero d within is =
    let k = locals_in (tree_view x.key) in
    let v = locals_in (tree_view x.value) in
    let o = locals_in_entries (tree_entries_view es) in
    let inner = le-max_left v o in
    let outer = le-max_right k (max v o) in
    rw is (le-max_left k (max v o), omega (arith, inner, outer))
entry_within (x ∷ es) (suc i) d within is =
    let k = locals_in (tree_view x.key) in
    let v = locals_in (tree_view x.value) in
    let o = locals_in_entries (tree_entries_view es) in
    let inner = le-max_right v o in
    let outer = le-max_right k (max v o) in
    let later = entry_within es i d (omega (arith, within)) is in
    let first = later.0 in
    let second = later.1 in
    (omega (arith, inner, outer, first), omega (arith, inner, outer, second))
