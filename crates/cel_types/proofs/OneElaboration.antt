-- An expression has one elaboration at most: a name has one slot or attribute, a call one overload, a
-- node one type, and so on in its parts, with the same locals in scope.
use Rattle.std.proofs.Common.{◌≡◌, true, false, ◌∷◌, Option, Some, None, refl, sym, ap₂, ◌∙◌, subst}
use Rattle.std.proofs.lemmas.Option.{none-some}
use Rattle.cel_tree.specs.Tree.{CelTree, constant, ident, select, call, list_literal, map_literal, comprehension, CelTarget, no_target, target, CelTrees, no_trees, tree, CelTreeEntries, no_tree_entries, tree_entry}
use Rattle.cel_overload.specs.Overloads.{IsCall}
use Rattle.cel_overload.proofs.OneOverload.{call_unique}
use Rattle.cel_types.specs.Attributes.{attribute_named}
use Rattle.cel_types.specs.Elaborated.{Elaborates, ElaboratesEach, ElaboratesPairs, ElaboratesTarget, kind, kinds, no_typed, slot, typed, typed_attribute, typed_call, typed_constant, typed_field, typed_has, typed_list, typed_local, typed_loop, typed_map}
use Rattle.cel_types.specs.Names.{joined_name, root_of, turn_scope}
use Rattle.cel_types.specs.Typing.{IsOver, Kinds, Maps, has_target}
use Rattle.cel_types.proofs.OneType.{OneAtMost, one_some, one_type, over_one}

-- nothing is not something
not_both : {A : Type 0} (o : Option A) (a : A) → o ≡ Some a → o ≡ None → ⊥
not_both o a some none = none-some a (sym none ∙ some)

mutual
  pub one_elaboration : (m : Maps) (ks : Kinds) (t : CelTree) → OneAtMost (Elaborates m ks t)
  one_elaboration m ks (constant id v) (typed_constant t w) (typed_constant u x) g h =
      ap₂ typed_constant (one_type m ks (constant id v) t u g.0 h.0) (sym g.1 ∙ h.1)
  one_elaboration m ks (constant id v) (typed_constant t w) _ g h = absurd h
  one_elaboration m ks (constant id v) _ f g h = absurd g
  one_elaboration m ks (ident id name) (typed_local t i) (typed_local u j) g h =
      ap₂ typed_local (one_type m ks (ident id name) t u g.0 h.0)
      (one_some (slot name ks) i j g.1 h.1)
  one_elaboration m ks (ident id name) (typed_local t i) (typed_attribute u b) g h =
      absurd (not_both (slot name ks) i g.1 h.1)
  one_elaboration m ks (ident id name) (typed_local t i) _ g h = absurd h
  one_elaboration m ks (ident id name) (typed_attribute t a) (typed_attribute u b) g h =
      ap₂ typed_attribute (one_type m ks (ident id name) t u g.0 h.0)
      (one_some (attribute_named name) a b g.2 h.2)
  one_elaboration m ks (ident id name) (typed_attribute t a) (typed_local u j) g h =
      absurd (not_both (slot name ks) j h.1 g.1)
  one_elaboration m ks (ident id name) (typed_attribute t a) _ g h = absurd h
  one_elaboration m ks (ident id name) _ f g h = absurd g
  one_elaboration m ks (select id operand field test_only) (typed_attribute t a)
      (typed_attribute u b) g h =
      let roots = one_some (root_of operand ks) g.1 h.1 g.2 h.2 in
      ap₂ typed_attribute (one_type m ks (select id operand field test_only) t u g.0 h.0)
      (one_some (attribute_named (joined_name h.1 field)) a b
      (subst (λ root. attribute_named (joined_name root field) ≡ Some a) roots g.3) h.3)
  one_elaboration m ks (select id operand field test_only) (typed_attribute t a)
      (typed_field u on name) g h = absurd (not_both (root_of operand ks) g.1 g.2 h.2)
  one_elaboration m ks (select id operand field test_only) (typed_attribute t a)
      (typed_has u on name) g h = absurd (not_both (root_of operand ks) g.1 g.2 h.2)
  one_elaboration m ks (select id operand field test_only) (typed_attribute t a) _ g h = absurd h
  one_elaboration m ks (select id operand field test_only) (typed_field t on name)
      (typed_field u other other_name) g h =
      let types = one_type m ks (select id operand field test_only) t u g.0 h.0 in
      let operands = one_elaboration m ks operand on other g.4 h.4 in
      let names = sym g.3 ∙ h.3 in
      rw (types, operands, names) refl
  one_elaboration m ks (select id operand field test_only) (typed_field t on name)
      (typed_attribute u b) g h = absurd (not_both (root_of operand ks) h.1 h.2 g.2)
  one_elaboration m ks (select id operand field test_only) (typed_field t on name)
      (typed_has u other other_name) g h = let no : false ≡ true = sym g.1 ∙ h.1 in cc
  one_elaboration m ks (select id operand field test_only) (typed_field t on name) _ g h = absurd h
  one_elaboration m ks (select id operand field test_only) (typed_has t on name)
      (typed_has u other other_name) g h =
      let types = one_type m ks (select id operand field test_only) t u g.0 h.0 in
      let operands = one_elaboration m ks operand on other g.4 h.4 in
      let names = sym g.3 ∙ h.3 in
      rw (types, operands, names) refl
  one_elaboration m ks (select id operand field test_only) (typed_has t on name)
      (typed_attribute u b) g h = absurd (not_both (root_of operand ks) h.1 h.2 g.2)
  one_elaboration m ks (select id operand field test_only) (typed_has t on name)
      (typed_field u other other_name) g h = let no : true ≡ false = sym g.1 ∙ h.1 in cc
  one_elaboration m ks (select id operand field test_only) (typed_has t on name) _ g h = absurd h
  one_elaboration m ks (select id operand field test_only) _ f g h = absurd g
  one_elaboration m ks (call id name on args) (typed_call t o es) (typed_call u p fs) g h =
      let operands = one_operands m ks on args (one_each m ks args) es fs g.2 h.2 in
      let calls = call_unique name (has_target on) (kinds fs) o p t u
      (subst (λ es. IsCall name (has_target on) (kinds es) o t) operands g.1) h.1 in
      rw (calls.1, calls.0, operands) refl
  one_elaboration m ks (call id name on args) (typed_call t o es) _ g h = absurd h
  one_elaboration m ks (call id name on args) _ f g h = absurd g
  one_elaboration m ks (list_literal id elements) (typed_list t es) (typed_list u fs) g h =
      ap₂ typed_list (one_type m ks (list_literal id elements) t u g.0 h.0)
      (one_each m ks elements es fs g.1 h.1)
  one_elaboration m ks (list_literal id elements) (typed_list t es) _ g h = absurd h
  one_elaboration m ks (list_literal id elements) _ f g h = absurd g
  one_elaboration m ks (map_literal id entries) (typed_map t es) (typed_map u fs) g h =
      ap₂ typed_map (one_type m ks (map_literal id entries) t u g.0 h.0)
      (one_pairs m ks entries es fs g.1 h.1)
  one_elaboration m ks (map_literal id entries) (typed_map t es) _ g h = absurd h
  one_elaboration m ks (map_literal id entries) _ f g h = absurd g
  one_elaboration m ks (comprehension id x y acc range init condition step result)
      (typed_loop t vars r i c s e) (typed_loop u vars' r' i' c' s' e') g h =
      let types = one_type m ks (comprehension id x y acc range init condition step result) t u
      g.0 h.0 in
      let numbers = g.1 ∙ sym h.1 in
      let ranges = one_elaboration m ks range r r' g.6 h.6 in
      let inits = one_elaboration m ks init i i' g.7 h.7 in
      let each = over_one vars' (kind r') g.2 h.2
      (subst (λ v. IsOver v (kind r') g.2) numbers (subst (λ r. IsOver vars (kind r) g.2) ranges g.4)) h.4 in
      let gathered = subst (λ i. g.3 ≡ kind i) inits (sym g.5) ∙ h.5 in
      let here : turn_scope x y acc g.2 g.3 ks ≡ turn_scope x y acc h.2 h.3 ks =
      ap₂ (λ each a. turn_scope x y acc each a ks) each gathered in
      let conditions = one_elaboration m (turn_scope x y acc h.2 h.3 ks) condition c c'
      (subst (λ ls. Elaborates m ls condition c) here g.8) h.8 in
      let steps = one_elaboration m (turn_scope x y acc h.2 h.3 ks) step s s'
      (subst (λ ls. Elaborates m ls step s) here g.9) h.9 in
      let results = one_elaboration m ((acc, h.3) ∷ ks) result e e'
      (subst (λ a. Elaborates m ((acc, a) ∷ ks) result e) gathered g.10) h.10 in
      rw (types, numbers, ranges, inits, conditions, steps, results) refl
  one_elaboration m ks (comprehension id x y acc range init condition step result)
      (typed_loop t vars r i c s e) _ g h = absurd h
  one_elaboration m ks (comprehension id x y acc range init condition step result) _ f g h = absurd g

  one_operands : (m : Maps) (ks : Kinds) (on : CelTarget) (args : CelTrees)
      → OneAtMost (ElaboratesEach m ks args)
      → OneAtMost (ElaboratesTarget m ks on (ElaboratesEach m ks args))
  one_operands m ks no_target args one es fs g h = one es fs g h
  one_operands m ks (target on) args one no_typed fs g h = absurd g
  one_operands m ks (target on) args one (typed e es) no_typed g h = absurd h
  one_operands m ks (target on) args one (typed e es) (typed f fs) g h =
      ap₂ typed (one_elaboration m ks on e f g.0 h.0) (one es fs g.1 h.1)

  one_each : (m : Maps) (ks : Kinds) (ts : CelTrees) → OneAtMost (ElaboratesEach m ks ts)
  one_each m ks no_trees no_typed no_typed g h = refl
  one_each m ks no_trees no_typed (typed f fs) g h = absurd h
  one_each m ks no_trees (typed e es) fs g h = absurd g
  one_each m ks (tree t ts) no_typed fs g h = absurd g
  one_each m ks (tree t ts) (typed e es) no_typed g h = absurd h
  one_each m ks (tree t ts) (typed e es) (typed f fs) g h =
      ap₂ typed (one_elaboration m ks t e f g.0 h.0) (one_each m ks ts es fs g.1 h.1)

  one_pairs : (m : Maps) (ks : Kinds) (ts : CelTreeEntries) → OneAtMost (ElaboratesPairs m ks ts)
  one_pairs m ks no_tree_entries no_typed no_typed g h = refl
  one_pairs m ks no_tree_entries no_typed (typed f fs) g h = absurd h
  one_pairs m ks no_tree_entries (typed e es) fs g h = absurd g
  one_pairs m ks (tree_entry id key value ts) no_typed fs g h = absurd g
  one_pairs m ks (tree_entry id key value ts) (typed e no_typed) fs g h = absurd g
  one_pairs m ks (tree_entry id key value ts) (typed e (typed e' es)) no_typed g h = absurd h
  one_pairs m ks (tree_entry id key value ts) (typed e (typed e' es)) (typed f no_typed) g h =
      absurd h
  one_pairs m ks (tree_entry id key value ts) (typed e (typed e' es)) (typed f (typed f' fs)) g h =
      ap₂ typed (one_elaboration m ks key e f g.0 h.0)
      (ap₂ typed (one_elaboration m ks value e' f' g.1 h.1) (one_pairs m ks ts es fs g.2 h.2))
