-- Each typed expression has an elaboration of its type.
use Rattle.std.proofs.Common.{◌≡◌, ◌⊎◌, inl, inr, ℕ, ℤ, Bool, true, false, cond, List, [], ◌∷◌, length, Option, Some, None, option_map, refl, sym, ap₂, subst}
use Rattle.std.specs.Str.{bytes_eq}
use Rattle.std.proofs.lemmas.Option.{none-some}
use Rattle.std.specs.FinMap.{get}
use Rattle.cel_value.specs.Types.{ValueType, bool_type, map_type, type_of_key}
use Rattle.cel_value.specs.declared.cel_type.KeyType.TheVariants as keys
use Rattle.cel_tree.specs.Checked.{CelTypeEntry}
use Rattle.cel_tree.specs.Tree.{CelTree, constant, ident, select, call, list_literal, map_literal, comprehension, CelTarget, no_target, target, CelTrees, no_trees, tree, CelTreeEntries, no_tree_entries, tree_entry}
use Rattle.cel_overload.specs.Overloads.{IsCall}
use Rattle.cel_ops.specs.Attributes.{attribute_type}
use Rattle.cel_types.specs.Attributes.{attribute_named}
use Rattle.cel_types.specs.Names.{joined_name, local, root_of, turn_scope, variables_of}
use Rattle.cel_types.specs.Typing.{IsOver, Kinds, ListRule, MapRule, Maps, SelectRule, Types, TypesAll, TypesEach, TypesPairs, TypesTarget, has_target, name_type}
use Rattle.cel_types.specs.Elaborated.{Elaborates, ElaboratesEach, ElaboratesPairs, ElaboratesTarget, TypedTree, TypedTrees, kind, kinds, no_typed, slot, typed, typed_attribute, typed_call, typed_constant, typed_field, typed_has, typed_list, typed_local, typed_loop, typed_map}

-- a local is found where it has a slot
abbrev Found : List ℕ → Kinds → Type 0
Found name ks = ((local name ks ≡ None) × (slot name ks ≡ None))
    ⊎ ((t : ValueType) × (n : ℕ) × (local name ks ≡ Some t) × (slot name ks ≡ Some n))

found : (name : List ℕ) (ks : Kinds) → Found name ks
found name [] = inl (refl, refl)
found name (k ∷ ks) = at (bytes_eq k.0 name) (found name ks)
  where
    at : (b : Bool) → Found name ks
        → ((cond b (Some k.1) (local name ks) ≡ None) × (cond b (Some (length ks)) (slot name ks) ≡ None))
        ⊎ ((t : ValueType) × (n : ℕ) × (cond b (Some k.1) (local name ks) ≡ Some t)
        × (cond b (Some (length ks)) (slot name ks) ≡ Some n))
    at true more = inr (k.1, length ks, refl, refl)
    at false more = more

mapped : {A B : Type 0} (f : A → B) (o : Option A) (b : B) → option_map f o ≡ Some b
    → (a : A) × (o ≡ Some a)
mapped f None b e = absurd (none-some b e)
mapped f (Some a) b e = (a, refl)

-- an elaboration of the type
abbrev pub Has : Maps → Kinds → CelTree → ValueType → Type 0
Has m ks t s = (e : TypedTree) × Elaborates m ks t e × (kind e ≡ s)

ident_has : (m : Maps) (ks : Kinds) (id : ℤ) (name : List ℕ) (s : ValueType)
    → Types m ks (ident id name) s → Found name ks → Has m ks (ident id name) s
ident_has m ks id name s g (inr (t, n, is_local, is_slot)) = (typed_local s n, (g, is_slot), refl)
ident_has m ks id name s g (inl (is_none, no_slot)) =
    let a = mapped attribute_type (attribute_named name) s
    (subst (λ o. name_type name o ≡ Some s) is_none g) in
    (typed_attribute s a.0, (g, no_slot, a.1), refl)

select_has : (m : Maps) (ks : Kinds) (id : ℤ) (operand : CelTree) (field : List ℕ)
    (test_only : Bool) (s : ValueType) → ((u : ValueType) → Types m ks operand u
    → Has m ks operand u)
    → Types m ks (select id operand field test_only) s → (root : Option (List ℕ))
    → root_of operand ks ≡ root
    → SelectRule root (Types m ks operand) field test_only s
    → Has m ks (select id operand field test_only) s
select_has m ks id operand field true s inside g (Some root) is rule = absurd rule
select_has m ks id operand field false s inside g (Some root) is rule =
    let a = mapped attribute_type (attribute_named (joined_name root field)) s rule in
    (typed_attribute s a.0, (g, root, is, a.1), refl)
select_has m ks id operand field true s inside g None is rule =
    let on = inside (map_type keys.Text rule.0.0) rule.0.1 in
    (typed_has s on.0 field, (g, refl, is, refl, on.1), refl)
select_has m ks id operand field false s inside g None is rule =
    let on = inside (map_type keys.Text s) rule in
    (typed_field s on.0 field, (g, refl, is, refl, on.1), refl)

mutual
  pub elaborated : (m : Maps) (ks : Kinds) (t : CelTree) (s : ValueType) → Types m ks t s
      → Has m ks t s
  elaborated m ks (constant id v) s g = (typed_constant s v, (g, refl), refl)
  elaborated m ks (ident id name) s g = ident_has m ks id name s g (found name ks)
  elaborated m ks (select id operand field test_only) s g =
      select_has m ks id operand field test_only s (elaborated m ks operand) g
      (root_of operand ks) refl g
  elaborated m ks (call id name on args) s g =
      let operands = target_elaborated m ks on args g.0 (each_elaborated m ks args) g.1 in (
        typed_call s g.2 operands.0,
        (g, subst (λ ts. IsCall name (has_target on) ts g.2 s) (sym operands.2) g.3, operands.1),
        refl,
      )
  elaborated m ks (list_literal id elements) s g =
      let es = list_elaborated m ks elements (get m.types id) s (all_elaborated m ks elements) g in
      (typed_list s es.0, (g, es.1), refl)
  elaborated m ks (map_literal id entries) s g =
      let es = map_elaborated m ks entries (get m.types id) s (pairs_elaborated m ks entries) g in
      (typed_map s es.0, (g, es.1), refl)
  elaborated m ks (comprehension id x y acc range init condition step result) s g =
      let rule = g in
      let ls = turn_scope x y acc rule.each rule.gathered ks in
      let r = elaborated m ks range rule.walked rule.range in
      let i = elaborated m ks init rule.gathered rule.init in
      let c = elaborated m ls condition bool_type rule.condition in
      let p = elaborated m ls step rule.gathered rule.step in
      let e = elaborated m ((acc, rule.gathered) ∷ ks) result s rule.result in (
        typed_loop s (variables_of y) r.0 i.0 c.0 p.0 e.0,
        (
          g,
          refl,
          rule.each,
          rule.gathered,
          subst (λ w. IsOver (variables_of y) w rule.each) (sym r.2) rule.over,
          i.2,
          r.1,
          i.1,
          c.1,
          p.1,
          e.1,
        ),
        refl,
      )

  target_elaborated : (m : Maps) (ks : Kinds) (on : CelTarget) (args : CelTrees)
      (ts : List ValueType)
      → ((us : List ValueType) → TypesEach m ks args us
      → (es : TypedTrees) × ElaboratesEach m ks args es × (kinds es ≡ us))
      → TypesTarget m ks on (TypesEach m ks args) ts
      → (es : TypedTrees) × ElaboratesTarget m ks on (ElaboratesEach m ks args) es
      × (kinds es ≡ ts)
  target_elaborated m ks no_target args ts others g = others ts g
  target_elaborated m ks (target on) args [] others g = absurd g
  target_elaborated m ks (target on) args (t ∷ ts) others g =
      let first = elaborated m ks on t g.0 in
      let more = others ts g.1 in
      (typed first.0 more.0, (first.1, more.1), ap₂ (λ t ts. t ∷ ts) first.2 more.2)

  each_elaborated : (m : Maps) (ks : Kinds) (ts : CelTrees) (us : List ValueType)
      → TypesEach m ks ts us → (es : TypedTrees) × ElaboratesEach m ks ts es × (kinds es ≡ us)
  each_elaborated m ks no_trees [] g = (no_typed, tt, refl)
  each_elaborated m ks no_trees (u ∷ us) g = absurd g
  each_elaborated m ks (tree t ts) [] g = absurd g
  each_elaborated m ks (tree t ts) (u ∷ us) g =
      let first = elaborated m ks t u g.0 in
      let more = each_elaborated m ks ts us g.1 in
      (typed first.0 more.0, (first.1, more.1), ap₂ (λ t ts. t ∷ ts) first.2 more.2)

  all_elaborated : (m : Maps) (ks : Kinds) (ts : CelTrees) (s : ValueType) → TypesAll m ks ts s
      → (es : TypedTrees) × ElaboratesEach m ks ts es
  all_elaborated m ks no_trees s g = (no_typed, tt)
  all_elaborated m ks (tree t ts) s g =
      let first = elaborated m ks t s g.0 in
      let more = all_elaborated m ks ts s g.1 in
      (typed first.0 more.0, (first.1, more.1))

  list_elaborated : (m : Maps) (ks : Kinds) (ts : CelTrees) (entry : Option CelTypeEntry)
      (s : ValueType) → ((u : ValueType) → TypesAll m ks ts u
      → (es : TypedTrees) × ElaboratesEach m ks ts es)
      → ListRule entry ts (TypesAll m ks ts) s → (es : TypedTrees) × ElaboratesEach m ks ts es
  list_elaborated m ks no_trees entry s all g = (no_typed, tt)
  list_elaborated m ks (tree t ts) entry s all g = all g.0 g.1

  pairs_elaborated : (m : Maps) (ks : Kinds) (es : CelTreeEntries) (r s : ValueType)
      → TypesPairs m ks es r s → (ps : TypedTrees) × ElaboratesPairs m ks es ps
  pairs_elaborated m ks no_tree_entries r s g = (no_typed, tt)
  pairs_elaborated m ks (tree_entry id key value es) r s g =
      let first = elaborated m ks key r g.0 in
      let second = elaborated m ks value s g.1 in
      let more = pairs_elaborated m ks es r s g.2 in
      (typed first.0 (typed second.0 more.0), (first.1, second.1, more.1))

  map_elaborated : (m : Maps) (ks : Kinds) (es : CelTreeEntries) (entry : Option CelTypeEntry)
      (s : ValueType) → ((r u : ValueType) → TypesPairs m ks es r u
      → (ps : TypedTrees) × ElaboratesPairs m ks es ps)
      → MapRule entry es (TypesPairs m ks es) s → (ps : TypedTrees) × ElaboratesPairs m ks es ps
  map_elaborated m ks no_tree_entries entry s pairs g = (no_typed, tt)
  map_elaborated m ks (tree_entry id key value es) entry s pairs g =
      pairs (type_of_key g.0) g.1 g.2
