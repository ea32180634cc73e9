-- An expression with a type has no fault of typing: rule by rule, and then by recursion.
use Rattle.std.proofs.Common.{◌≡◌, ◌⊎◌, inl, inr, ℕ, Bool, true, false, List, [], ◌∷◌, Option, Some, None, option_map, sym, ap, ◌∙◌, subst}
use Rattle.std.proofs.lemmas.Option.{none-some}
use Rattle.std.specs.FinMap.{get}
use Rattle.proto_wire.specs.declared.refusal.Refusal.{Refusal}
use Rattle.cel_value.specs.Types.{ValueType, bool_type, map_type, type_of_key}
use Rattle.cel_value.specs.declared.cel_type.KeyType.TheVariants as keys
use Rattle.cel_tree.specs.Checked.{CelReference, CelTypeEntry, of_type, dyn_type}
use Rattle.cel_tree.specs.Tree.{CelTree, constant, ident, select, call, list_literal, map_literal, comprehension, CelTarget, no_target, target, CelTrees, no_trees, tree, CelTreeEntries, no_tree_entries, tree_entry}
use Rattle.cel_overload.specs.declared.overload.OverloadFault.TheVariants as calls
use Rattle.cel_overload.proofs.OneOverload.{call_disjoint}
use Rattle.cel_ops.specs.Attributes.{attribute_type}
use Rattle.cel_types.specs.Attributes.{attribute_named}
use Rattle.cel_types.specs.Names.{joined_name, root_of, turn_scope, variables_of}
use Rattle.cel_types.specs.Typing.{IsList, IsMap, IsOver, Kinds, ListRule, LoopRule, MapRule, Maps, RefAgrees, SelectRule, Types, TypesAll, TypesEach, TypesPairs, TypesTarget, has_target}
use Rattle.cel_types.specs.TypingFaults.{AreGot, CallsFault, ElementsFault, EmptyFault, NodeTypeFault, IdentFault, ItemTypes, KeyTypes, ListFault, LoopFault, MapsFault, PairFault, PairsFault, SelectFault, SomeFault, SomeTypes, TargetFault, TypeFault}
use Rattle.cel_types.specs.TypingFaults.{unsupported_kind, another_type, unstated, of_another_kind, in_names, no_elements, no_condition, no_step, in_range, in_init, in_turn, in_result}
use Rattle.cel_types.specs.Agreeing.{EachAgrees, EntriesAgree, EntryAgrees, NameAgrees, PairsAgree, SelectAgrees, TargetAgrees, TypeAgrees}
use Rattle.cel_types.specs.private.Rules.{CallRule, IdentRule}
use Rattle.cel_types.proofs.OneType.{OneAtMost, given_one, one_each, one_target, one_type, over_one, select_operand}

entry_apart : (entry : Option CelTypeEntry) (Has : ValueType → Type 0) (t : ValueType)
    (e : Refusal) → Has t → EntryAgrees entry Has → NodeTypeFault entry Has e → ⊥
entry_apart entry Has t e has agrees (unsupported_kind is _) =
    subst (λ o. TypeAgrees o t) is (agrees t has)
entry_apart entry Has t e has agrees (another_type s u other is differs _) =
    differs (subst (λ o. TypeAgrees o u) is (agrees u other))

empty_apart : (entry : Option CelTypeEntry) (IsKind : ValueType → Type 0) (t : ValueType)
    (e : Refusal) → entry ≡ Some (of_type t) → IsKind t → EmptyFault entry IsKind e → ⊥
empty_apart entry IsKind t e given kind (unstated (inl none) _) = none-some (of_type t) (sym none ∙ given)
empty_apart entry IsKind t e given kind (unstated (inr dyn) _) = let same : Some dyn_type ≡ Some (of_type t) = sym dyn ∙ given in cc
empty_apart entry IsKind t e given kind (of_another_kind s is never _) =
    never (subst IsKind (given_one entry t s given is) kind)

ident_apart : (ref : Option CelReference) (ks : Kinds) (name : List ℕ) (t : ValueType) (e : Refusal)
    → IdentRule ks name t → NameAgrees ref name (IdentRule ks name) → IdentFault ref ks name e → ⊥
ident_apart ref ks name t e rule agrees (IdentFault.unknown is _) = none-some t (sym is ∙ rule)
ident_apart ref ks name t e rule agrees (IdentFault.other_reference u is differs _) =
    differs (agrees u is)

module _ (ref : Option CelReference) (Operand : ValueType → Type 0) (InOperand : Refusal → Type 0)
    (Inside : Type 0) (one : OneAtMost Operand)
    (apart : (s : ValueType) (e : Refusal) → Operand s → Inside → InOperand e → ⊥)
    (field : List ℕ) (t : ValueType) (e : Refusal) where
  select_apart : (root : Option (List ℕ)) (test_only : Bool)
      → SelectRule root Operand field test_only t
      → SelectAgrees ref root field (SelectRule root Operand field test_only) Inside
      → SelectFault ref root Operand InOperand field test_only e → ⊥
  select_apart (Some root) true rule agrees fault = rule
  select_apart (Some root) false rule agrees (SelectFault.unknown r is none _) =
      let same : root ≡ r = cc in
      let here : attribute_named (joined_name root field) ≡ None =
      ap (λ r. attribute_named (joined_name r field)) same ∙ none in
      none-some t (sym (ap (option_map attribute_type) here) ∙ rule)
  select_apart (Some root) false rule agrees (SelectFault.asked r is test _) = cc
  select_apart (Some root) false rule agrees
      (SelectFault.other_reference r u is test named differs _) =
      let same : root ≡ r = cc in
      differs (subst (λ r. RefAgrees ref (joined_name r field)) same (agrees t rule))
  select_apart (Some root) false rule agrees (SelectFault.no_names s is operand never _) =
      none-some root (sym is)
  select_apart (Some root) false rule agrees (SelectFault.in_operand is inside) =
      none-some root (sym is)
  select_apart None test_only rule agrees (SelectFault.unknown r is none _) = none-some r is
  select_apart None test_only rule agrees (SelectFault.asked r is test _) = none-some r is
  select_apart None test_only rule agrees
      (SelectFault.other_reference r u is test named differs _) = none-some r is
  select_apart None test_only rule agrees (SelectFault.no_names s is operand never _) =
      let on = select_operand Operand field test_only t rule in
      never on.0 (one s (map_type keys.Text on.0) operand on.1)
  select_apart None test_only rule agrees (SelectFault.in_operand is inside) =
      let on = select_operand Operand field test_only t rule in
      apart (map_type keys.Text on.0) e on.1 agrees inside

call_apart : (name : List ℕ) (on : Bool) (Operands : List ValueType → Type 0)
    (InOperands : Refusal → Type 0) (t : ValueType) (e : Refusal) → OneAtMost Operands
    → ((ts : List ValueType) (e : Refusal) → Operands ts → InOperands e → ⊥)
    → CallRule name on Operands t → CallsFault name on Operands InOperands e → ⊥
call_apart name on Operands InOperands t e one apart rule (CallsFault.unknown is _) =
    none-some rule.3.0 (sym is ∙ rule.3.1)
call_apart name on Operands InOperands t e one apart rule (CallsFault.no_overload f ts named operands never _) =
    call_disjoint name on rule.0 rule.2 t calls.NoOverload rule.3
    (f, named, rw (one rule.0 ts rule.1 operands) never)
call_apart name on Operands InOperands t e one apart rule (CallsFault.in_operand inside) =
    apart rule.0 e rule.1 inside

list_apart : (entry : Option CelTypeEntry) (elements : CelTrees) (All HasElement : ValueType → Type 0)
    (InElements : Refusal → Type 0) (t : ValueType) (e : Refusal)
    → ((s u : ValueType) → All s → HasElement u → s ≡ u)
    → ((s : ValueType) (e : Refusal) → All s → InElements e → ⊥)
    → ListRule entry elements All t → ListFault entry elements HasElement InElements e → ⊥
list_apart entry no_trees All HasElement InElements t e one apart rule fault =
    empty_apart entry IsList t e rule.0 rule.1 fault
list_apart entry (tree a others) All HasElement InElements t e one apart rule
    (ElementsFault.two_types s u has other differs _) =
    differs (sym (one rule.0 s rule.1 has) ∙ one rule.0 u rule.1 other)
list_apart entry (tree a others) All HasElement InElements t e one apart rule
    (ElementsFault.in_element inside) = apart rule.0 e rule.1 inside

map_apart : (entry : Option CelTypeEntry) (entries : CelTreeEntries)
    (Pairs : ValueType → ValueType → Type 0) (HasKey HasValue : ValueType → Type 0)
    (InEntries : Refusal → Type 0) (t : ValueType) (e : Refusal)
    → ((r s u : ValueType) → Pairs r s → HasKey u → r ≡ u)
    → ((r s u : ValueType) → Pairs r s → HasValue u → s ≡ u)
    → ((r s : ValueType) (e : Refusal) → Pairs r s → InEntries e → ⊥)
    → MapRule entry entries Pairs t → MapsFault entry entries HasKey HasValue InEntries e → ⊥
map_apart entry no_tree_entries Pairs HasKey HasValue InEntries t e on_keys on_values apart rule
    fault = empty_apart entry IsMap t e rule.0 rule.1 fault
map_apart entry (tree_entry id key value es) Pairs HasKey HasValue InEntries t e on_keys on_values
    apart rule (PairsFault.two_key_types s u has other differs _) =
    differs (sym (on_keys (type_of_key rule.0) rule.1 s rule.2 has)
    ∙ on_keys (type_of_key rule.0) rule.1 u rule.2 other)
map_apart entry (tree_entry id key value es) Pairs HasKey HasValue InEntries t e on_keys on_values
    apart rule (PairsFault.two_value_types s u has other differs _) =
    differs (sym (on_values (type_of_key rule.0) rule.1 s rule.2 has)
    ∙ on_values (type_of_key rule.0) rule.1 u rule.2 other)
map_apart entry (tree_entry id key value es) Pairs HasKey HasValue InEntries t e on_keys on_values
    apart rule (PairsFault.no_key_type s has never _) =
    never rule.0 (sym (on_keys (type_of_key rule.0) rule.1 s rule.2 has))
map_apart entry (tree_entry id key value es) Pairs HasKey HasValue InEntries t e on_keys on_values
    apart rule (PairsFault.in_entry inside) = apart (type_of_key rule.0) rule.1 e rule.2 inside

-- what all have some has
all_one : (m : Maps) (ks : Kinds) (ts : CelTrees) (s u : ValueType) → TypesAll m ks ts s
    → SomeTypes m ks ts u → s ≡ u
all_one m ks no_trees s u all some = absurd some
all_one m ks (tree t ts) s u all (inl here) = one_type m ks t s u all.0 here
all_one m ks (tree t ts) s u all (inr some) = all_one m ks ts s u all.1 some

keys_one : (m : Maps) (ks : Kinds) (es : CelTreeEntries) (r s u : ValueType)
    → TypesPairs m ks es r s → KeyTypes m ks es u → r ≡ u
keys_one m ks no_tree_entries r s u all some = absurd some
keys_one m ks (tree_entry id key value es) r s u all (inl here) = one_type m ks key r u all.0 here
keys_one m ks (tree_entry id key value es) r s u all (inr some) = keys_one m ks es r s u all.2 some

items_one : (m : Maps) (ks : Kinds) (es : CelTreeEntries) (r s u : ValueType)
    → TypesPairs m ks es r s → ItemTypes m ks es u → s ≡ u
items_one m ks no_tree_entries r s u all some = absurd some
items_one m ks (tree_entry id key value es) r s u all (inl here) =
    one_type m ks value s u all.1 here
items_one m ks (tree_entry id key value es) r s u all (inr some) =
    items_one m ks es r s u all.2 some

module _ (x y acc : List ℕ) (Range Init : ValueType → Type 0)
    (Condition Step : List ValueType → ValueType → ValueType → Type 0)
    (Result : ValueType → ValueType → Type 0) (InRange InInit : Refusal → Type 0)
    (InTurn : List ValueType → ValueType → Refusal → Type 0) (InResult : ValueType → Refusal → Type 0)
    (range : OneAtMost Range) (init : OneAtMost Init)
    (condition : (each : List ValueType) (a : ValueType) → OneAtMost (Condition each a))
    (step : (each : List ValueType) (a : ValueType) → OneAtMost (Step each a))
    (range-apart : (s : ValueType) (e : Refusal) → Range s → InRange e → ⊥)
    (init-apart : (s : ValueType) (e : Refusal) → Init s → InInit e → ⊥)
    (turn-apart : (w : ValueType) (each : List ValueType) (a : ValueType) (e : Refusal) → Range w
    → IsOver (variables_of y) w each → Init a → Condition each a bool_type → Step each a a
    → InTurn each a e → ⊥)
    (result-apart : (a t : ValueType) (e : Refusal) → Init a → Result a t → InResult a e → ⊥) where
  -- what is so with the types of a turn's locals is so with those of the rule
  by_rule : (t : ValueType) (rule : LoopRule x y acc Range Init Condition Step Result t)
      (IsSo : List ValueType → ValueType → Type 0) (each : List ValueType) (a : ValueType)
      → AreGot (variables_of y) Range each → Init a → IsSo each a → IsSo rule.each rule.gathered
  by_rule t rule IsSo each a got i so =
      subst (λ a. IsSo rule.each a) (init a rule.gathered i rule.init)
      (subst (λ each. IsSo each a) (over_one (variables_of y) rule.walked each rule.each
      (subst (λ w. IsOver (variables_of y) w each) (range got.0 rule.walked got.1 rule.range) got.2)
      rule.over) so)

  loop_apart : (t : ValueType) (e : Refusal)
      → LoopRule x y acc Range Init Condition Step Result t
      → LoopFault x y acc Range Init Condition Step InRange InInit InTurn InResult e → ⊥
  loop_apart t e rule (in_names fault) = rule.names e fault
  loop_apart t e rule (no_elements s r never _) =
      never rule.each (subst (λ w. IsOver (variables_of y) w rule.each) (range rule.walked s rule.range r)
      rule.over)
  loop_apart t e rule (no_condition each a u got i c differs _) =
      differs (condition rule.each rule.gathered u bool_type
      (by_rule t rule (λ each a. Condition each a u) each a got i c) rule.condition)
  loop_apart t e rule (no_step each a u got i p differs _) =
      differs (step rule.each rule.gathered u rule.gathered
      (by_rule t rule (λ each a. Step each a u) each a got i p) rule.step
      ∙ init rule.gathered a rule.init i)
  loop_apart t e rule (in_range inside) = range-apart rule.walked e rule.range inside
  loop_apart t e rule (in_init inside) = init-apart rule.gathered e rule.init inside
  loop_apart t e rule (in_turn each a got i inside) =
      turn-apart rule.walked rule.each rule.gathered e rule.range rule.over rule.init
      rule.condition rule.step (by_rule t rule (λ each a. InTurn each a e) each a got i inside)
  loop_apart t e rule (in_result a i inside) =
      result-apart rule.gathered t e rule.init rule.result
      (subst (λ a. InResult a e) (init a rule.gathered i rule.init) inside)

-- the operands after a target
others_typed : (m : Maps) (ks : Kinds) (on : CelTarget) (Others : List ValueType → Type 0)
    (ts : List ValueType) → TypesTarget m ks on Others ts → (us : List ValueType) × Others us
others_typed m ks no_target Others ts h = (ts, h)
others_typed m ks (target on) Others [] h = absurd h
others_typed m ks (target on) Others (t ∷ ts) h = (ts, h.1)

mutual
  pub typed_apart : (m : Maps) (ks : Kinds) (t : CelTree) (s : ValueType) (e : Refusal)
      → Types m ks t s → EntriesAgree m ks t → TypeFault m ks t e → ⊥
  typed_apart m ks (constant id v) s e g h (inl fault) = none-some s (sym fault.0 ∙ g)
  typed_apart m ks (constant id v) s e g h (inr fault) =
      entry_apart (get m.types id) (Types m ks (constant id v)) s e g h fault
  typed_apart m ks (ident id name) s e g h (inl fault) =
      ident_apart (get m.refs id) ks name s e g h.1 fault
  typed_apart m ks (ident id name) s e g h (inr fault) =
      entry_apart (get m.types id) (Types m ks (ident id name)) s e g h.0 fault.1
  typed_apart m ks (select id operand field test_only) s e g h (inl fault) =
      select_apart (get m.refs id) (Types m ks operand) (TypeFault m ks operand)
      (EntriesAgree m ks operand) (one_type m ks operand) (typed_apart m ks operand) field s e
      (root_of operand ks) test_only g h.1 fault
  typed_apart m ks (select id operand field test_only) s e g h (inr fault) =
      entry_apart (get m.types id) (Types m ks (select id operand field test_only)) s e g h.0 fault
  typed_apart m ks (call id name on args) s e g h (inl fault) =
      call_apart name (has_target on) (TypesTarget m ks on (TypesEach m ks args))
      (λ d. TargetFault m ks on d ⊎ SomeFault m ks args d) s e
      (one_target m ks on args (one_each m ks args)) (λ ts d typed inside. elim inside [
        | inl f ↦ target_apart m ks on args ts d typed h.1 f
        | inr f ↦
            let others = others_typed m ks on (TypesEach m ks args) ts typed in
            each_apart m ks args others.0 d others.1 h.2 f
      ]) g fault
  typed_apart m ks (call id name on args) s e g h (inr fault) =
      entry_apart (get m.types id) (Types m ks (call id name on args)) s e g h.0 fault
  typed_apart m ks (list_literal id elements) s e g h (inl fault) =
      list_apart (get m.types id) elements (TypesAll m ks elements) (SomeTypes m ks elements)
      (SomeFault m ks elements) s e (all_one m ks elements)
      (λ u d all inside. all_apart m ks elements u d all h.1 inside) g fault
  typed_apart m ks (list_literal id elements) s e g h (inr fault) =
      entry_apart (get m.types id) (Types m ks (list_literal id elements)) s e g h.0 fault
  typed_apart m ks (map_literal id entries) s e g h (inl fault) =
      map_apart (get m.types id) entries (TypesPairs m ks entries) (KeyTypes m ks entries)
      (ItemTypes m ks entries) (PairFault m ks entries) s e (keys_one m ks entries)
      (items_one m ks entries)
      (λ r u d all inside. pairs_apart m ks entries r u d all h.1 inside) g fault
  typed_apart m ks (map_literal id entries) s e g h (inr fault) =
      entry_apart (get m.types id) (Types m ks (map_literal id entries)) s e g h.0 fault
  typed_apart m ks (comprehension id x y acc range init condition step result) s e g h (inl fault) =
      loop_apart x y acc (Types m ks range) (Types m ks init)
      (λ each a. Types m (turn_scope x y acc each a ks) condition)
      (λ each a. Types m (turn_scope x y acc each a ks) step)
      (λ a. Types m ((acc, a) ∷ ks) result) (TypeFault m ks range) (TypeFault m ks init)
      (λ each a d. TypeFault m (turn_scope x y acc each a ks) condition d
      ⊎ TypeFault m (turn_scope x y acc each a ks) step d)
      (λ a. TypeFault m ((acc, a) ∷ ks) result) (one_type m ks range) (one_type m ks init)
      (λ each a. one_type m (turn_scope x y acc each a ks) condition)
      (λ each a. one_type m (turn_scope x y acc each a ks) step)
      (λ u d r f. typed_apart m ks range u d r h.1 f)
      (λ u d r f. typed_apart m ks init u d r h.2 f)
      (λ w each a d r over i c p inside. elim inside [
        | inl f ↦ typed_apart m (turn_scope x y acc each a ks) condition bool_type d c
            (h.3 w each a r over i).0 f
        | inr f ↦
            typed_apart m (turn_scope x y acc each a ks) step a d p (h.3 w each a r over i).1 f
      ]) (λ a u d i r f. typed_apart m ((acc, a) ∷ ks) result u d r (h.4 a i) f) s e g fault
  typed_apart m ks (comprehension id x y acc range init condition step result) s e g h (inr fault) =
      entry_apart (get m.types id)
      (Types m ks (comprehension id x y acc range init condition step result)) s e g h.0 fault

  target_apart : (m : Maps) (ks : Kinds) (on : CelTarget) (args : CelTrees)
      (ts : List ValueType) (e : Refusal) → TypesTarget m ks on (TypesEach m ks args) ts
      → TargetAgrees m ks on → TargetFault m ks on e → ⊥
  target_apart m ks no_target args ts e g h fault = fault
  target_apart m ks (target on) args [] e g h fault = g
  target_apart m ks (target on) args (t ∷ ts) e g h fault = typed_apart m ks on t e g.0 h fault

  each_apart : (m : Maps) (ks : Kinds) (args : CelTrees) (ts : List ValueType) (e : Refusal)
      → TypesEach m ks args ts → EachAgrees m ks args → SomeFault m ks args e → ⊥
  each_apart m ks no_trees ts e g h fault = fault
  each_apart m ks (tree a others) [] e g h fault = g
  each_apart m ks (tree a others) (t ∷ ts) e g h (inl fault) =
      typed_apart m ks a t e g.0 h.0 fault
  each_apart m ks (tree a others) (t ∷ ts) e g h (inr fault) =
      each_apart m ks others ts e g.1 h.1 fault

  all_apart : (m : Maps) (ks : Kinds) (args : CelTrees) (t : ValueType) (e : Refusal)
      → TypesAll m ks args t → EachAgrees m ks args → SomeFault m ks args e → ⊥
  all_apart m ks no_trees t e g h fault = fault
  all_apart m ks (tree a others) t e g h (inl fault) = typed_apart m ks a t e g.0 h.0 fault
  all_apart m ks (tree a others) t e g h (inr fault) = all_apart m ks others t e g.1 h.1 fault

  pairs_apart : (m : Maps) (ks : Kinds) (es : CelTreeEntries) (r s : ValueType) (e : Refusal)
      → TypesPairs m ks es r s → PairsAgree m ks es → PairFault m ks es e → ⊥
  pairs_apart m ks no_tree_entries r s e g h fault = fault
  pairs_apart m ks (tree_entry id key value es) r s e g h (inl fault) =
      typed_apart m ks key r e g.0 h.0 fault
  pairs_apart m ks (tree_entry id key value es) r s e g h (inr (inl fault)) =
      typed_apart m ks value s e g.1 h.1 fault
  pairs_apart m ks (tree_entry id key value es) r s e g h (inr (inr fault)) =
      pairs_apart m ks es r s e g.2 h.2 fault
