-- The elaboration of an expression whose constants have the types of their kinds is well typed.
use Rattle.std.proofs.Common.{arith, ◌≡◌, ◌<◌, suc, ℕ, ℤ, Bool, true, false, cond, nat_eq, List, [], ◌∷◌, ◌++◌, length, Option, Some, None, option_map, refl, sym, ap, ap₂, ◌∙◌, subst}
use Rattle.std.specs.Str.{bytes_eq}
use Rattle.std.specs.FinMap.{get}
use Rattle.std.proofs.lemmas.Bool.{eq-eqb, ne_eqb}
use Rattle.std.proofs.lemmas.Option.{none-some}
use Rattle.attributes.specs.declared.attribute.AttrId.{AttrId}
use Rattle.cel_value.specs.Types.{HasType, ValueType, bool_type, bytes_type, int_type, list_type, map_type, text_type, type_of_key, uint_type}
use Rattle.cel_value.specs.Values.{CelValue, bool, bytes, int, text, uint}
use Rattle.cel_value.specs.declared.cel_type.KeyType.{KeyType}
use Rattle.cel_value.specs.declared.cel_type.KeyType.TheVariants as keys
use Rattle.cel_ops.specs.Attributes.{attribute_type}
use Rattle.cel_tree.specs.Checked.{CelTypeEntry}
use Rattle.cel_tree.specs.GoodConstants.{AreGood, EntriesAreGood, HasGoodConstants, IsGoodConstant, TargetIsGood}
use Rattle.cel_tree.specs.Tree.{CelTree, constant, ident, select, call, list_literal, map_literal, comprehension, CelTarget, no_target, target, CelTrees, no_trees, tree, CelTreeEntries, no_tree_entries, tree_entry}
use Rattle.cel_types.specs.Attributes.{attribute_named}
use Rattle.cel_types.specs.Elaborated.{Elaborates, ElaboratesEach, ElaboratesPairs, ElaboratesTarget, TypedTree, TypedTrees, kind, kinds, no_typed, slot, typed, typed_attribute, typed_call, typed_constant, typed_field, typed_has, typed_list, typed_local, typed_loop, typed_map}
use Rattle.cel_types.specs.Names.{Scope, joined_name, local, turn_scope, variables_of}
use Rattle.cel_types.specs.TypedMeaning.{local_at}
use Rattle.cel_types.specs.Typing.{IsList, IsMap, IsOver, Kinds, ListRule, MapRule, Maps, SelectRule, Types, TypesAll, TypesPairs, constant_type, name_type}
use Rattle.cel_types.specs.WellTyped.{AreAll, AreKeyed, AreWellTyped, IsWellTyped}
use Rattle.cel_types.specs.declared.typed.Variables.{Variables}
use Rattle.cel_types.proofs.OneType.{one_type, over_one}
use Rattle.cel_types.proofs.TurnScopes.{known_turn, over_length}
pub use Rattle.cel_types.proofs.TurnScopes.{known}

-- ---- locals, by name and by how many are outside

known_length : {A : Type 0} (ls : Scope A) → length (known ls) ≡ length ls
known_length [] = refl
known_length (l ∷ ls) = ap suc (known_length ls)

slot_below : {A : Type 0} (name : List ℕ) (ls : Scope A) (n : ℕ) → slot name ls ≡ Some n
    → n < length ls
slot_below name [] n e = absurd (none-some n e)
slot_below {A} name (l ∷ ls) n e = at (slot_below name ls n) (bytes_eq l.0 name) e
  where
    at : (slot name ls ≡ Some n → n < length ls) → (b : Bool)
        → cond b (Some (length ls)) (slot name ls) ≡ Some n → n < suc (length ls)
    at more true e = let same : length ls ≡ n = cc in omega arith
    at more false e = let below = more e in omega arith

-- where a name has a slot, what is known of it stands there
pub slot_known : {A : Type 0} (name : List ℕ) (ls : Scope A) (n : ℕ) → slot name ls ≡ Some n
    → (a : A) × (local name ls ≡ Some a) × (local_at n (known ls) ≡ Some a)
slot_known name [] n e = absurd (none-some n e)
slot_known {A} name (l ∷ ls) n e =
    rw (known_length ls)
    (at (slot_below name ls n) (slot_known name ls n) (bytes_eq l.0 name) e)
  where
    at : (slot name ls ≡ Some n → n < length ls)
        → (slot name ls ≡ Some n
        → (a : A) × (local name ls ≡ Some a) × (local_at n (known ls) ≡ Some a))
        → (b : Bool) → cond b (Some (length ls)) (slot name ls) ≡ Some n
        → (a : A) × (cond b (Some l.1) (local name ls) ≡ Some a)
        × (cond (nat_eq n (length ls)) (Some l.1) (local_at n (known ls)) ≡ Some a)
    at below more true e =
        let same : n ≡ length ls = cc in (l.1, refl, rw (eq-eqb n (length ls) same) refl)
    at below more false e =
        let found = more e in
        let less = below e in
        (found.0, found.1, rw (ne_eqb n (length ls) (λ same. omega arith)) (found.2))

-- where it has none, nothing is known of it
pub no_slot : {A : Type 0} (name : List ℕ) (ls : Scope A) → slot name ls ≡ None
    → local name ls ≡ None
no_slot name [] e = refl
no_slot {A} name (l ∷ ls) e = at (no_slot name ls) (bytes_eq l.0 name) e
  where
    at : (slot name ls ≡ None → local name ls ≡ None) → (b : Bool)
        → cond b (Some (length ls)) (slot name ls) ≡ None
        → cond b (Some l.1) (local name ls) ≡ None
    at more true e = absurd (none-some (length ls) (sym e))
    at more false e = more e

-- ---- an elaboration's type is the expression's

pub elaborates_types : (m : Maps) (ks : Kinds) (t : CelTree) (e : TypedTree)
    → Elaborates m ks t e → Types m ks t (kind e)
elaborates_types m ks (constant id v) (typed_constant t w) g = g.0
elaborates_types m ks (constant id v) _ g = absurd g
elaborates_types m ks (ident id name) (typed_local t outside) g = g.0
elaborates_types m ks (ident id name) (typed_attribute t a) g = g.0
elaborates_types m ks (ident id name) _ g = absurd g
elaborates_types m ks (select id operand field test_only) (typed_attribute t a) g = g.0
elaborates_types m ks (select id operand field test_only) (typed_field t on name) g = g.0
elaborates_types m ks (select id operand field test_only) (typed_has t on name) g = g.0
elaborates_types m ks (select id operand field test_only) _ g = absurd g
elaborates_types m ks (call id name on args) (typed_call t o operands) g = g.0
elaborates_types m ks (call id name on args) _ g = absurd g
elaborates_types m ks (list_literal id elements) (typed_list t es) g = g.0
elaborates_types m ks (list_literal id elements) _ g = absurd g
elaborates_types m ks (map_literal id entries) (typed_map t pairs) g = g.0
elaborates_types m ks (map_literal id entries) _ g = absurd g
elaborates_types m ks (comprehension id x y acc range init condition step result)
    (typed_loop t vars r i c s e) g = g.0
elaborates_types m ks (comprehension id x y acc range init condition step result) _ g = absurd g

-- an expression of this type has an elaboration of no other
elaborated_type : (m : Maps) (ks : Kinds) (t : CelTree) (e : TypedTree) (s : ValueType)
    → Elaborates m ks t e → Types m ks t s → kind e ≡ s
elaborated_type m ks t e s g h = one_type m ks t (kind e) s (elaborates_types m ks t e g) h

-- ---- rules, one for each kind of node

constant_typed : (v w : CelValue) (t : ValueType) → IsGoodConstant v → constant_type v ≡ Some t
    → v ≡ w → HasType w t
constant_typed (bool b) w t good is same = let of : bool_type ≡ t = cc in rw (← same, ← of) good
constant_typed (int i) w t good is same = let of : int_type ≡ t = cc in rw (← same, ← of) good
constant_typed (uint n) w t good is same = let of : uint_type ≡ t = cc in rw (← same, ← of) good
constant_typed (text cs) w t good is same = let of : text_type ≡ t = cc in rw (← same, ← of) good
constant_typed (bytes bs) w t good is same = let of : bytes_type ≡ t = cc in rw (← same, ← of) good
constant_typed _ w t good is same = absurd good

attribute_of : (o : Option AttrId) (a : AttrId) (t : ValueType) → o ≡ Some a
    → option_map attribute_type o ≡ Some t → t ≡ attribute_type a
attribute_of o a t is has =
    let found : Some (attribute_type a) ≡ Some t =
    subst (λ o. option_map attribute_type o ≡ Some t) is has in
    cc

select_attribute : (root field : List ℕ) (Operand : ValueType → Type 0) (test_only : Bool)
    (t : ValueType) (a : AttrId) → SelectRule (Some root) Operand field test_only t
    → attribute_named (joined_name root field) ≡ Some a → t ≡ attribute_type a
select_attribute root field Operand true t a rule is = absurd rule
select_attribute root field Operand false t a rule is =
    attribute_of (attribute_named (joined_name root field)) a t is rule

list_of : (t : ValueType) → IsList t → (s : ValueType) × (t ≡ list_type s)
list_of (list_type s) h = (s, refl)
list_of _ h = absurd h

map_of : (t : ValueType) → IsMap t → (k : KeyType) × (s : ValueType) × (t ≡ map_type k s)
map_of (map_type k s) h = (k, s, refl)
map_of _ h = absurd h

module _ (m : Maps) (ks : Kinds) where
  all_kinds : (ts : CelTrees) (es : TypedTrees) (s : ValueType) → TypesAll m ks ts s
      → ElaboratesEach m ks ts es → AreAll s (kinds es)
  all_kinds no_trees no_typed s all g = tt
  all_kinds no_trees (typed e es) s all g = absurd g
  all_kinds (tree t ts) no_typed s all g = absurd g
  all_kinds (tree t ts) (typed e es) s all g =
      (elaborated_type m ks t e s g.0 all.0, all_kinds ts es s all.1 g.1)

  list_kinds : (entry : Option CelTypeEntry) (ts : CelTrees) (es : TypedTrees) (t : ValueType)
      → ListRule entry ts (TypesAll m ks ts) t → ElaboratesEach m ks ts es
      → (s : ValueType) × (t ≡ list_type s) × AreAll s (kinds es)
  list_kinds entry no_trees no_typed t rule g =
      let found = list_of t rule.1 in (found.0, found.1, tt)
  list_kinds entry no_trees (typed e es) t rule g = absurd g
  list_kinds entry (tree first others) es t rule g =
      (rule.0, rule.2, all_kinds (tree first others) es rule.0 rule.1 g)

  pair_kinds : (ts : CelTreeEntries) (es : TypedTrees) (k : KeyType) (s : ValueType)
      → TypesPairs m ks ts (type_of_key k) s → ElaboratesPairs m ks ts es
      → AreKeyed k s (kinds es)
  pair_kinds no_tree_entries no_typed k s all g = tt
  pair_kinds no_tree_entries (typed e es) k s all g = absurd g
  pair_kinds (tree_entry id key value ts) no_typed k s all g = absurd g
  pair_kinds (tree_entry id key value ts) (typed e no_typed) k s all g = absurd g
  pair_kinds (tree_entry id key value ts) (typed e (typed f es)) k s all g = (
    elaborated_type m ks key e (type_of_key k) g.0 all.0,
    elaborated_type m ks value f s g.1 all.1,
    pair_kinds ts es k s all.2 g.2,
  )

  map_kinds : (entry : Option CelTypeEntry) (ts : CelTreeEntries) (es : TypedTrees)
      (t : ValueType) → MapRule entry ts (TypesPairs m ks ts) t → ElaboratesPairs m ks ts es
      → (k : KeyType) × (s : ValueType) × (t ≡ map_type k s) × AreKeyed k s (kinds es)
  map_kinds entry no_tree_entries no_typed t rule g =
      let found = map_of t rule.1 in (found.0, found.1, found.2, tt)
  map_kinds entry no_tree_entries (typed e es) t rule g = absurd g
  map_kinds entry (tree_entry id key value ts) es t rule g = (
    rule.0,
    rule.1,
    rule.3,
    pair_kinds (tree_entry id key value ts) es rule.0 rule.1 rule.2 g,
  )

  -- the types of a comprehension's parts
  pub loop_kinds : (id : ℤ) (x y acc : List ℕ) (range init condition step result : CelTree)
      (t : ValueType) (vars : Variables) (r i c s e : TypedTree)
      → (g : Elaborates m ks (comprehension id x y acc range init condition step result)
      (typed_loop t vars r i c s e))
      → (kind c ≡ bool_type) × (kind s ≡ kind i) × (t ≡ kind e)
  loop_kinds id x y acc range init condition step result t vars r i c s e g =
      let rule = g.0 in
      let ls = turn_scope x y acc g.2 g.3 ks in
      let walked : kind r ≡ rule.walked = elaborated_type m ks range r rule.walked g.6 rule.range in
      let gathered : kind i ≡ rule.gathered =
      elaborated_type m ks init i rule.gathered g.7 rule.init in
      let initial : rule.gathered ≡ g.3 = sym gathered ∙ g.5 in
      let types : rule.each ≡ g.2 = over_one (variables_of y) rule.walked rule.each g.2 rule.over
      (subst (λ w. IsOver (variables_of y) w g.2) walked (subst (λ v. IsOver v (kind r) g.2) g.1 g.4)) in
      let here : turn_scope x y acc rule.each rule.gathered ks ≡ ls =
      ap₂ (λ each a. turn_scope x y acc each a ks) types initial in (
        elaborated_type m ls condition c bool_type g.8
            (subst (λ ls. Types m ls condition bool_type) here rule.condition),
        elaborated_type m ls step s (rule.gathered) g.9
            (subst (λ ls. Types m ls step rule.gathered) here rule.step) ∙ sym gathered,
        sym (elaborated_type m ((acc, g.3) ∷ ks) result e t g.10
            (subst (λ a. Types m ((acc, a) ∷ ks) result t) initial rule.result)),
      )

-- ---- expressions

mutual
  pub elaborated_typed : (m : Maps) (ks : Kinds) (t : CelTree) (e : TypedTree)
      → HasGoodConstants t → Elaborates m ks t e → IsWellTyped (known ks) e
  elaborated_typed m ks (constant id v) (typed_constant t w) good g =
      (ap constant_type (sym g.1) ∙ g.0, constant_typed v w t good g.0 g.1)
  elaborated_typed m ks (constant id v) _ good g = absurd g
  elaborated_typed m ks (ident id name) (typed_local t outside) good g =
      let found = slot_known name ks outside g.1 in
      found.2 ∙ subst (λ o. name_type name o ≡ Some t) found.1 g.0
  elaborated_typed m ks (ident id name) (typed_attribute t a) good g =
      attribute_of (attribute_named name) a t g.2
      (subst (λ o. name_type name o ≡ Some t) (no_slot name ks g.1) g.0)
  elaborated_typed m ks (ident id name) _ good g = absurd g
  elaborated_typed m ks (select id operand field test_only) (typed_attribute t a) good g =
      select_attribute g.1 field (Types m ks operand) test_only t a
      (subst (λ o. SelectRule o (Types m ks operand) field test_only t) g.2 g.0) g.3
  elaborated_typed m ks (select id operand field test_only) (typed_field t on name) good g =
      let rule = subst (λ b. SelectRule None (Types m ks operand) field b t) g.1
      (subst (λ o. SelectRule o (Types m ks operand) field test_only t) g.2 g.0) in (
        elaborated_typed m ks operand on good g.4,
        elaborated_type m ks operand on (map_type keys.Text t) g.4 rule,
      )
  elaborated_typed m ks (select id operand field test_only) (typed_has t on name) good g =
      let rule = subst (λ b. SelectRule None (Types m ks operand) field b t) g.1
      (subst (λ o. SelectRule o (Types m ks operand) field test_only t) g.2 g.0) in (
        elaborated_typed m ks operand on good g.4,
        (rule.0.0, elaborated_type m ks operand on (map_type keys.Text rule.0.0) g.4 rule.0.1),
        rule.1,
      )
  elaborated_typed m ks (select id operand field test_only) _ good g = absurd g
  elaborated_typed m ks (call id name on args) (typed_call t o operands) good g = (
    target_typed m ks on args operands good.0
        (λ es each. each_typed m ks args es good.1 each) g.2,
    g.1.2.operands,
  )
  elaborated_typed m ks (call id name on args) _ good g = absurd g
  elaborated_typed m ks (list_literal id elements) (typed_list t es) good g =
      (each_typed m ks elements es good g.1, list_kinds m ks (get m.types id) elements es t g.0 g.1)
  elaborated_typed m ks (list_literal id elements) _ good g = absurd g
  elaborated_typed m ks (map_literal id entries) (typed_map t pairs) good g = (
    pairs_typed m ks entries pairs good g.1,
    map_kinds m ks (get m.types id) entries pairs t g.0 g.1,
  )
  elaborated_typed m ks (map_literal id entries) _ good g = absurd g
  elaborated_typed m ks (comprehension id x y acc range init condition step result)
      (typed_loop t vars r i c s e) good g =
      let of = loop_kinds m ks id x y acc range init condition step result t vars r i c s e g in
      let here : known (turn_scope x y acc g.2 g.3 ks) ≡ g.2 ++ kind i ∷ known ks =
      known_turn x y acc g.2 g.3 ks
      (over_length x y (kind r) g.2 (subst (λ v. IsOver v (kind r) g.2) g.1 g.4))
      ∙ ap (λ a. g.2 ++ a ∷ known ks) (sym g.5) in (
        elaborated_typed m ks range r good.0 g.6,
        elaborated_typed m ks init i good.1 g.7,
        (
          g.2,
          g.4,
          subst (λ ls. IsWellTyped ls c) here
              (elaborated_typed m (turn_scope x y acc g.2 g.3 ks) condition c good.2 g.8),
          of.0,
          subst (λ ls. IsWellTyped ls s) here
              (elaborated_typed m (turn_scope x y acc g.2 g.3 ks) step s good.3 g.9),
          of.1,
        ),
        subst (λ a. IsWellTyped (a ∷ known ks) e) (sym g.5)
            (elaborated_typed m ((acc, g.3) ∷ ks) result e good.4 g.10),
        of.2,
      )
  elaborated_typed m ks (comprehension id x y acc range init condition step result) _ good g =
      absurd g

  target_typed : (m : Maps) (ks : Kinds) (on : CelTarget) (args : CelTrees) (es : TypedTrees)
      → TargetIsGood on
      → ((fs : TypedTrees) → ElaboratesEach m ks args fs → AreWellTyped (known ks) fs)
      → ElaboratesTarget m ks on (ElaboratesEach m ks args) es → AreWellTyped (known ks) es
  target_typed m ks no_target args es good others g = others es g
  target_typed m ks (target on) args no_typed good others g = absurd g
  target_typed m ks (target on) args (typed e es) good others g =
      (elaborated_typed m ks on e good g.0, others es g.1)

  each_typed : (m : Maps) (ks : Kinds) (ts : CelTrees) (es : TypedTrees) → AreGood ts
      → ElaboratesEach m ks ts es → AreWellTyped (known ks) es
  each_typed m ks no_trees no_typed good g = tt
  each_typed m ks no_trees (typed e es) good g = absurd g
  each_typed m ks (tree t ts) no_typed good g = absurd g
  each_typed m ks (tree t ts) (typed e es) good g =
      (elaborated_typed m ks t e good.0 g.0, each_typed m ks ts es good.1 g.1)

  pairs_typed : (m : Maps) (ks : Kinds) (ts : CelTreeEntries) (es : TypedTrees)
      → EntriesAreGood ts → ElaboratesPairs m ks ts es → AreWellTyped (known ks) es
  pairs_typed m ks no_tree_entries no_typed good g = tt
  pairs_typed m ks no_tree_entries (typed e es) good g = absurd g
  pairs_typed m ks (tree_entry id key value ts) no_typed good g = absurd g
  pairs_typed m ks (tree_entry id key value ts) (typed e no_typed) good g = absurd g
  pairs_typed m ks (tree_entry id key value ts) (typed e (typed f es)) good g = (
    elaborated_typed m ks key e good.0 g.0,
    (elaborated_typed m ks value f good.1 g.1, pairs_typed m ks ts es good.2 g.2),
  )
