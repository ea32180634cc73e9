-- An expression has one type at most: rule by rule, over the parts, and then by recursion.
use Rattle.std.proofs.Common.{◌≡◌, ℕ, ℤ, Bool, true, false, List, [], ◌∷◌, Option, Some, None, refl, sym, ap, ap₂, ◌∙◌}
use Rattle.std.specs.FinMap.{get}
use Rattle.cel_value.specs.Types.{ValueType, list_type, map_type, type_of_key}
use Rattle.cel_value.specs.declared.cel_type.KeyType.{KeyType}
use Rattle.cel_value.specs.declared.cel_type.KeyType.TheVariants as keys
use Rattle.cel_tree.specs.Checked.{CelTypeEntry, of_type}
use Rattle.cel_tree.specs.Tree.{CelTree, constant, ident, select, call, list_literal, map_literal, comprehension, CelTarget, no_target, target, CelTrees, no_trees, tree, CelTreeEntries, no_tree_entries, tree_entry}
use Rattle.cel_overload.proofs.OneOverload.{call_unique}
use Rattle.cel_types.specs.Names.{root_of, turn_scope}
use Rattle.cel_types.specs.Typing.{IsOver, Kinds, ListRule, LoopRule, MapRule, Maps, SelectRule, Types, TypesAll, TypesEach, TypesPairs, TypesTarget, has_target}
use Rattle.cel_types.specs.private.Rules.{CallRule}
use Rattle.cel_types.specs.declared.typed.Variables.{Variables}
use Rattle.cel_types.specs.declared.typed.Variables.TheVariants as variables

pub one_some : {A : Type 0} (o : Option A) (a b : A) → o ≡ Some a → o ≡ Some b → a ≡ b
one_some o a b d e = let k : Some a ≡ Some b = sym d ∙ e in cc

-- one type at most is as said
abbrev pub OneAtMost : {A : Type 0} → (A → Type 0) → Type 0
OneAtMost {A} P = (a b : A) → P a → P b → a ≡ b

pub given_one : (entry : Option CelTypeEntry) (s t : ValueType) → entry ≡ Some (of_type s)
    → entry ≡ Some (of_type t) → s ≡ t
given_one entry s t g h =
    let same : of_type s ≡ of_type t = one_some entry (of_type s) (of_type t) g h in cc

pub select_one : (root : Option (List ℕ)) (Operand : ValueType → Type 0) (field : List ℕ)
    (test_only : Bool) → OneAtMost Operand → OneAtMost (SelectRule root Operand field test_only)
select_one (Some root) Operand field true one a b g h = absurd g
select_one (Some root) Operand field false one a b g h = one_some _ a b g h
select_one None Operand field true one a b g h = g.1 ∙ sym h.1
select_one None Operand field false one a b g h =
    let same : map_type keys.Text a ≡ map_type keys.Text b = one _ _ g h in cc

-- the operand of a Select that is no attribute is a map from texts
pub select_operand : (Operand : ValueType → Type 0) (field : List ℕ) (test_only : Bool) (t : ValueType)
    → SelectRule None Operand field test_only t → (s : ValueType) × Operand (map_type keys.Text s)
select_operand Operand field true t rule = rule.0
select_operand Operand field false t rule = (t, rule)

pub call_one : (name : List ℕ) (on : Bool) (Operands : List ValueType → Type 0) → OneAtMost Operands
    → OneAtMost (CallRule name on Operands)
call_one name on Operands one a b g h =
    let same : g.0 ≡ h.0 = one g.0 h.0 g.1 h.1 in
    (call_unique name on h.0 g.2 h.2 a b (rw (sym same) (g.3)) h.3).1

pub list_one : (entry : Option CelTypeEntry) (elements : CelTrees) (Elements : ValueType → Type 0)
    → ((first : CelTree) (others : CelTrees) → elements ≡ tree first others → OneAtMost Elements)
    → OneAtMost (ListRule entry elements Elements)
list_one entry no_trees Elements one a b g h = given_one entry a b g.0 h.0
list_one entry (tree first others) Elements one a b g h =
    g.2 ∙ ap list_type (one first others refl g.0 h.0 g.1 h.1) ∙ sym h.2

key_one : (j k : KeyType) → type_of_key j ≡ type_of_key k → j ≡ k
key_one keys.Bool keys.Bool e = refl
key_one keys.Int keys.Int e = refl
key_one keys.Uint keys.Uint e = refl
key_one keys.Text keys.Text e = refl
key_one keys.Bool keys.Int e = cc
key_one keys.Bool keys.Uint e = cc
key_one keys.Bool keys.Text e = cc
key_one keys.Int keys.Bool e = cc
key_one keys.Int keys.Uint e = cc
key_one keys.Int keys.Text e = cc
key_one keys.Uint keys.Bool e = cc
key_one keys.Uint keys.Int e = cc
key_one keys.Uint keys.Text e = cc
key_one keys.Text keys.Bool e = cc
key_one keys.Text keys.Int e = cc
key_one keys.Text keys.Uint e = cc

pub map_one : (entry : Option CelTypeEntry) (entries : CelTreeEntries)
    (Pairs : ValueType → ValueType → Type 0)
    → ((id : ℤ) (key value : CelTree) (others : CelTreeEntries)
    → entries ≡ tree_entry id key value others → (j k s t : ValueType) → Pairs j s → Pairs k t
    → (j ≡ k) × (s ≡ t))
    → OneAtMost (MapRule entry entries Pairs)
map_one entry no_tree_entries Pairs one a b g h = given_one entry a b g.0 h.0
map_one entry (tree_entry id key value others) Pairs one a b g h =
    let same = one id key value others refl (type_of_key g.0) (type_of_key h.0) g.1 h.1 g.2 h.2 in
    g.3 ∙ ap₂ map_type (key_one g.0 h.0 same.0) same.1 ∙ sym h.3

pub over_one : (vars : Variables) (walked : ValueType) → OneAtMost (IsOver vars walked)
over_one variables.One (list_type s) a b g h = g ∙ sym h
over_one variables.One (map_type k s) a b g h = g ∙ sym h
over_one variables.One _ a b g h = absurd g
over_one variables.Two (list_type s) a b g h = g ∙ sym h
over_one variables.Two (map_type k s) a b g h = g ∙ sym h
over_one variables.Two _ a b g h = absurd g

pub loop_one : (x y acc : List ℕ) (Range Init : ValueType → Type 0)
    (Condition Step : List ValueType → ValueType → ValueType → Type 0)
    (Result : ValueType → ValueType → Type 0) → OneAtMost Range → OneAtMost Init
    → ((gathered : ValueType) → OneAtMost (Result gathered))
    → OneAtMost (LoopRule x y acc Range Init Condition Step Result)
loop_one x y acc Range Init Condition Step Result range init result a b g h =
    let same : g.gathered ≡ h.gathered = init g.gathered h.gathered g.init h.init in
    result h.gathered a b (rw (sym same) (g.result)) h.result

mutual
  pub one_type : (m : Maps) (ks : Kinds) (t : CelTree) → OneAtMost (Types m ks t)
  one_type m ks (constant id v) a b g h = one_some _ a b g h
  one_type m ks (ident id name) a b g h = one_some _ a b g h
  one_type m ks (select id operand field test_only) a b g h =
      select_one (root_of operand ks) (Types m ks operand) field test_only
      (one_type m ks operand) a b g h
  one_type m ks (call id name on args) a b g h =
      call_one name (has_target on) (TypesTarget m ks on (TypesEach m ks args))
      (one_target m ks on args (one_each m ks args)) a b g h
  one_type m ks (list_literal id elements) a b g h =
      list_one (get m.types id) elements (TypesAll m ks elements) (one_all m ks elements) a b
      g h
  one_type m ks (map_literal id entries) a b g h =
      map_one (get m.types id) entries (TypesPairs m ks entries) (one_pair m ks entries) a b
      g h
  one_type m ks (comprehension id x y acc range init condition step result) a b g h =
      loop_one x y acc (Types m ks range) (Types m ks init)
      (λ each a. Types m (turn_scope x y acc each a ks) condition)
      (λ each a. Types m (turn_scope x y acc each a ks) step)
      (λ a. Types m ((acc, a) ∷ ks) result) (one_type m ks range) (one_type m ks init)
      (λ gathered. one_type m ((acc, gathered) ∷ ks) result) a b g h

  pub one_target : (m : Maps) (ks : Kinds) (on : CelTarget) (args : CelTrees)
      → OneAtMost (TypesEach m ks args) → OneAtMost (TypesTarget m ks on (TypesEach m ks args))
  one_target m ks no_target args one a b g h = one a b g h
  one_target m ks (target on) args one [] b g h = absurd g
  one_target m ks (target on) args one (a ∷ as') [] g h = absurd h
  one_target m ks (target on) args one (a ∷ as') (b ∷ bs) g h =
      ap₂ (λ t ts. t ∷ ts) (one_type m ks on a b g.0 h.0) (one as' bs g.1 h.1)

  pub one_each : (m : Maps) (ks : Kinds) (ts : CelTrees) → OneAtMost (TypesEach m ks ts)
  one_each m ks no_trees [] [] g h = refl
  one_each m ks no_trees [] (b ∷ bs) g h = absurd h
  one_each m ks no_trees (a ∷ as') b g h = absurd g
  one_each m ks (tree t ts) [] b g h = absurd g
  one_each m ks (tree t ts) (a ∷ as') [] g h = absurd h
  one_each m ks (tree t ts) (a ∷ as') (b ∷ bs) g h =
      ap₂ (λ t ts. t ∷ ts) (one_type m ks t a b g.0 h.0) (one_each m ks ts as' bs g.1 h.1)

  pub one_all : (m : Maps) (ks : Kinds) (ts : CelTrees) (first : CelTree) (others : CelTrees)
      → ts ≡ tree first others → OneAtMost (TypesAll m ks ts)
  one_all m ks no_trees first others e a b g h = cc
  one_all m ks (tree t ts) first others e a b g h = one_type m ks t a b g.0 h.0

  pub one_pair : (m : Maps) (ks : Kinds) (es : CelTreeEntries) (id : ℤ) (key value : CelTree)
      (others : CelTreeEntries) → es ≡ tree_entry id key value others
      → (j k s t : ValueType) → TypesPairs m ks es j s → TypesPairs m ks es k t
      → (j ≡ k) × (s ≡ t)
  one_pair m ks no_tree_entries id key value others e j k s t g h = cc
  one_pair m ks (tree_entry i key' value' es) id key value others e j k s t g h =
      (one_type m ks key' j k g.0 h.0, one_type m ks value' s t g.1 h.1)
