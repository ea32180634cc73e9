-- The steps of an expression are its own and those of its parts.
use Rattle.std.proofs.Common.{◌≡◌, ◌+◌, ◌<◌, ◌≤◌, ℕ, ℤ, Bool, true, false, if◌then◌else◌, is_some, rules, List, [], ◌∷◌, drop, length, get_or, map, Option, Some, None, refl, sym, ap, ◌∙◌, arith}
use Rattle.std.specs.Prelude.{Result, IfErr, IsErrAnd}
use Rattle.std.proofs.lemmas.List.{drop_more}
use Rattle.std.proofs.lemmas.Result.{err_from_is_err_and}
use Rattle.std.specs.declared.alloc.Global.{Global}
use Rattle.std.specs.declared.boxed.Box.{Box}
use Rattle.std.specs.declared.sync.ArcStr.{ArcStr}
use Rattle.std.specs.declared.vec.Vec.{Vec}
use Rattle.attributes.specs.Request.{RequestValue}
use Rattle.cel_tree.specs.Tree.{CelTree, constant, ident, select, call, list_literal, map_literal, comprehension, CelTarget, no_target, target}
use Rattle.cel_tree.specs.View.{LoopParts, constant_view, tree_view}
use Rattle.cel_tree.specs.private.TreeViews.{tree_entries_view, trees_view}
use Rattle.cel_tree.specs.declared.tree.Constant.{Constant}
use Rattle.cel_tree.specs.declared.tree.Tree.{Tree, the_lemmas as tree_lemmas}
use Rattle.cel_tree.specs.declared.tree.Tree as trees
use Rattle.cel_tree.specs.declared.tree.TreeEntry.{TreeEntry}
use Rattle.cel_value.specs.Texts.{text_view}
use Rattle.cel_value.specs.Values.{CelAnswer, bool, fails, value}
use Rattle.cel_types.specs.Names.{root_of, variables_of}
use Rattle.cel_meaning.specs.Origin.{CelAround, CelPlace, CelPlaced, in_result, placed, placed_before, placed_target, placed_turn}
use Rattle.cel_meaning.specs.Steps.{after, after_condition, steps, steps_each, steps_entries, steps_target, turns_over}
use Rattle.cel_meaning.specs.declared.elements.Turn.{Turn}
use Rattle.cel_meaning.specs.declared.stopped.Stopped.{Stopped}
use Rattle.cel_meaning.specs.declared.stopped.Stopped.TheVariants.{OutOfSteps}
use Rattle.cel_meaning.specs.private.Counting.{loop_steps, operand_steps, turn_steps, turns_steps}
use Rattle.cel_meaning.specs.declared.way.Way.TheVariants as ways
use Rattle.cel_meaning.specs.private.Plain.{turn_around, turn_view, way_of}

-- ---- exits

-- at a `?` on a function that takes steps
pub exit_steps : {T : Type 0} (r : Result T Stopped) (e : Stopped) → IsErrAnd r (λ y. y ≡ e) → (P : Type 0)
    → (e ≡ OutOfSteps → P) → IfErr r (λ y. y ≡ OutOfSteps → P)
exit_steps r e is P out =
    let l = err_from_is_err_and r is in
    rw (l.1, l.2) out

-- ---- trees of the code

pub tree_constant : (id : ℤ) (v : Constant) → tree_view (trees.Constant id v) ≡ constant id (constant_view v)
tree_constant id v = search (rules, tree_lemmas)

pub tree_select : (id : ℤ) (operand : Box Tree Global) (name : ArcStr Global) (test_only : Bool)
    → tree_view (trees.Select id operand name test_only) ≡ select id (tree_view operand.value) (text_view name) test_only
tree_select id operand name test_only = search (rules, tree_lemmas)

pub tree_list : (id : ℤ) (ts : Vec Tree Global) → tree_view (trees.List id ts) ≡ list_literal id (trees_view ts.items)
tree_list id ts = search (rules, tree_lemmas)

-- ---- what follows

pub after_some : {A : Type 0} (x : A) (o : Option A) (f : A → ℕ) → Some x ≡ o → after o f ≡ f x
after_some x o f is = ap (λ o. after o f) (sym is)

pub after_none : {A : Type 0} (o : Option A) (f : A → ℕ) → None ≡ o → after o f ≡ 0
after_none o f is = ap (λ o. after o f) (sym is)

after_nothing : (o : Option CelPlaced) → after o (λ _. 0) ≡ 0
after_nothing None = refl
after_nothing (Some a) = refl

-- ---- conditions

-- what follows a condition, by its answer
pub condition_is : (p o : Option CelPlaced) → p ≡ o → (going ended : ℕ)
    → after_condition o going ended ≡ after_condition p going ended
condition_is p o is going ended = ap (λ x. after_condition x going ended) (sym is)

pub turn_is : (p o step : Option CelPlaced) → p ≡ o → (next : CelPlaced → Option CelPlaced) (ended : Option CelPlaced)
    → placed_turn o step next ended ≡ placed_turn p step next ended
turn_is p o step is next ended = ap (λ x. placed_turn x step next ended) (sym is)

pub way_goes : (x : CelAnswer) → ways.Goes ≡ way_of x → x ≡ value (bool true)
way_goes (value (bool true)) is = refl
way_goes (value (bool false)) is = absurd cc
way_goes (fails e) is = absurd cc
way_goes (value _) is = absurd cc

pub way_ends : (x : CelAnswer) → ways.Ends ≡ way_of x → x ≡ value (bool false)
way_ends (value (bool true)) is = absurd cc
way_ends (value (bool false)) is = refl
way_ends (fails e) is = absurd cc
way_ends (value _) is = absurd cc

pub way_fails : (x : CelAnswer) (place : Option CelPlace) → ways.Fails ≡ way_of x → (going ended : ℕ)
    → after_condition (Some (x, place)) going ended ≡ 0
way_fails (value (bool true)) place is going ended = absurd cc
way_fails (value (bool false)) place is going ended = absurd cc
way_fails (fails e) place is going ended = refl
way_fails (value _) place is going ended = refl

pub turn_fails : (x : CelAnswer) (place : Option CelPlace) → ways.Fails ≡ way_of x → (step : Option CelPlaced)
    → (next : CelPlaced → Option CelPlaced) (ended : Option CelPlaced)
    → placed_turn (Some (x, place)) step next ended ≡ Some (x, place)
turn_fails (value (bool true)) place is step next ended = absurd cc
turn_fails (value (bool false)) place is step next ended = absurd cc
turn_fails (fails e) place is step next ended = refl
turn_fails (value _) place is step next ended = absurd cc

pub way_nothing : (x : CelAnswer) (place : Option CelPlace) → ways.Nothing ≡ way_of x → (going ended : ℕ)
    → after_condition (Some (x, place)) going ended ≡ 0
way_nothing (value (bool true)) place is going ended = absurd cc
way_nothing (value (bool false)) place is going ended = absurd cc
way_nothing (fails e) place is going ended = refl
way_nothing (value _) place is going ended = refl

pub turn_nothing : (x : CelAnswer) (place : Option CelPlace) → ways.Nothing ≡ way_of x → (step : Option CelPlaced)
    → (next : CelPlaced → Option CelPlaced) (ended : Option CelPlaced)
    → placed_turn (Some (x, place)) step next ended ≡ None
turn_nothing (value (bool true)) place is step next ended = absurd cc
turn_nothing (value (bool false)) place is step next ended = absurd cc
turn_nothing (fails e) place is step next ended = absurd cc
turn_nothing (value _) place is step next ended = refl

module _ (r : RequestValue) (c : CelAround) where
  -- each expression takes a step
  pub takes_one : (t : CelTree) → 0 < steps r c t
  takes_one (constant id v) = omega arith
  takes_one (ident id name) = omega arith
  takes_one (select id operand name test_only) = omega arith
  takes_one (call id name on args) = omega arith
  takes_one (list_literal id elements) = omega arith
  takes_one (map_literal id entries) = omega arith
  takes_one (comprehension id x y acc range init condition step result) = omega arith

  -- ---- operands

  pub root_free : (t : CelTree) (root : List ℕ) → Some root ≡ root_of t c.locals → operand_steps r c t ≡ 0
  root_free t root is = ap (λ o. if is_some o then 0 else steps r c t) (sym is)

  pub no_root : (t : CelTree) → None ≡ root_of t c.locals → operand_steps r c t ≡ steps r c t
  no_root t is = ap (λ o. if is_some o then 0 else steps r c t) (sym is)

  pub target_alone : (t : CelTree) → steps_target r c (target t) 0 ≡ steps r c t
  target_alone t =
      let none = after_nothing (placed r c t) in
      omega (arith, none)

  -- the others may take further steps
  pub target_least : (on : CelTarget) (others : ℕ) → steps_target r c on 0 ≤ steps_target r c on others
  target_least no_target others = omega arith
  target_least (target t) others =
      let none = after_nothing (placed r c t) in
      omega (arith, none)

  pub target_more : (on : CelTarget) (operands : List CelPlaced) → Some operands ≡ placed_target r c on (Some [])
      → (others : ℕ) → steps_target r c on others ≡ steps_target r c on 0 + others
  target_more no_target operands is others = omega arith
  target_more (target t) operands is others = at (placed r c t) is
    where
      at : (o : Option CelPlaced) → Some operands ≡ placed_before o (Some [])
          → steps r c t + after o (λ _. others) ≡ steps r c t + after o (λ _. 0) + others
      at None some = absurd (let no : Some operands ≡ None = some in cc)
      at (Some a) some = omega arith

  pub target_ends : (on : CelTarget) → None ≡ placed_target r c on (Some [])
      → (others : ℕ) → steps_target r c on others ≡ steps_target r c on 0
  target_ends no_target is others = absurd (let no : None ≡ Some [] = is in cc)
  target_ends (target t) is others = at (placed r c t) is
    where
      at : (o : Option CelPlaced) → None ≡ placed_before o (Some [])
          → steps r c t + after o (λ _. others) ≡ steps r c t + after o (λ _. 0)
      at None none = refl
      at (Some a) none = absurd (let no : None ≡ Some (a ∷ []) = none in cc)

  pub each_next : (ts : List Tree) (i : ℕ) (d : Tree) → i < length ts → d ≡ get_or ts i d
      → steps_each r c (trees_view (drop i ts))
      ≡ steps r c (tree_view d) + after (placed r c (tree_view d)) (λ _. steps_each r c (trees_view (drop (i + 1) ts)))
  each_next ts i d within is =
      ap (λ l. steps_each r c (trees_view l))
      (drop_more ts i d within ∙ ap (λ t. t ∷ drop (i + 1) ts) (sym is))

  pub entries_next : (es : List TreeEntry) (i : ℕ) (d : TreeEntry) → i < length es → d ≡ get_or es i d
      → steps_entries r c (tree_entries_view (drop i es))
      ≡ steps r c (tree_view d.key) + after (placed r c (tree_view d.key)) (λ _.
      steps r c (tree_view d.value) + after (placed r c (tree_view d.value)) (λ _.
      steps_entries r c (tree_entries_view (drop (i + 1) es))))
  entries_next es i d within is =
      ap (λ l. steps_entries r c (tree_entries_view l))
      (drop_more es i d within ∙ ap (λ t. t ∷ drop (i + 1) es) (sym is))

  -- ---- comprehensions

  pub loop_least : (p : LoopParts) → steps r c p.iter_range ≤ loop_steps p r c
  loop_least p = omega arith

  pub loop_nothing : (p : LoopParts) → None ≡ placed r c p.iter_range → loop_steps p r c ≡ steps r c p.iter_range
  loop_nothing p is =
      let none = after_none (placed r c p.iter_range) (λ a. after (turns_over (variables_of p.iter_var2) a.0)
      (λ each. steps r c p.accu_init + after (placed r c p.accu_init) (turns_steps p r c 0 each))) is in
      omega (arith, none)

  pub loop_still : (p : LoopParts) (a : CelPlaced) → Some a ≡ placed r c p.iter_range
      → None ≡ turns_over (variables_of p.iter_var2) a.0 → loop_steps p r c ≡ steps r c p.iter_range
  loop_still p a is none =
      let some = after_some a (placed r c p.iter_range) (λ a. after (turns_over (variables_of p.iter_var2) a.0)
      (λ each. steps r c p.accu_init + after (placed r c p.accu_init) (turns_steps p r c 0 each))) is in
      let ends = after_none (turns_over (variables_of p.iter_var2) a.0)
      (λ each. steps r c p.accu_init + after (placed r c p.accu_init) (turns_steps p r c 0 each)) none in
      omega (arith, some, ends)

  pub loop_turns : (p : LoopParts) (a : CelPlaced) (each : List (List CelAnswer)) → Some a ≡ placed r c p.iter_range
      → Some each ≡ turns_over (variables_of p.iter_var2) a.0
      → loop_steps p r c
      ≡ steps r c p.iter_range + (steps r c p.accu_init + after (placed r c p.accu_init) (turns_steps p r c 0 each))
  loop_turns p a each is turns =
      let some = after_some a (placed r c p.iter_range) (λ a. after (turns_over (variables_of p.iter_var2) a.0)
      (λ each. steps r c p.accu_init + after (placed r c p.accu_init) (turns_steps p r c 0 each))) is in
      let goes = after_some each (turns_over (variables_of p.iter_var2) a.0)
      (λ each. steps r c p.accu_init + after (placed r c p.accu_init) (turns_steps p r c 0 each)) turns in
      omega (arith, some, goes)

  pub turns_next : (p : LoopParts) (each : List Turn) (i : ℕ) (t : Turn) (a : CelPlaced) → i < length each
      → t ≡ get_or each i t
      → turns_steps p r c i (map turn_view (drop i each)) a
      ≡ turn_steps p r (turn_around p c i (turn_view t) a) (turns_steps p r c (i + 1) (map turn_view (drop (i + 1) each)))
      (steps r (in_result p.accu_var a c) p.result)
  turns_next p each i t a within here =
      ap (λ ts. turns_steps p r c i (map turn_view ts) a)
      (drop_more each i t within ∙ ap (λ t. t ∷ drop (i + 1) each) (sym here))
