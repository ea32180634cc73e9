-- An answer with a place is that of the definition of meaning.
use Rattle.std.proofs.Common.{◌≡◌, ◌+◌, ℕ, Bool, true, false, cond, is_some, List, [], ◌∷◌, ◌++◌, map, Option, Some, None, option_map, refl, sym, ap, ◌∙◌}
use Rattle.std.specs.Option.{option_and_then}
use Rattle.std.specs.Str.{bytes_eq}
use Rattle.attributes.specs.Request.{RequestValue}
use Rattle.cel_value.specs.Values.{CelAnswer, bool, fails, value}
use Rattle.cel_ops.specs.Collections as collections
use Rattle.cel_overload.specs.Answers.{function_answer}
use Rattle.cel_overload.specs.Functions.{function_named}
use Rattle.cel_overload.specs.declared.function.Function.{Function}
use Rattle.cel_tree.specs.Tree.{CelTree, constant, ident, select, call, list_literal, map_literal, comprehension, CelTarget, no_target, target, CelTrees, no_trees, tree, CelTreeEntries, no_tree_entries, tree_entry}
use Rattle.cel_types.specs.Meaning.{Locals, before, call_answer, eval, eval_each, eval_entries, eval_target, fold, name_answer, over, select_answer, turn, turns_of}
use Rattle.cel_types.specs.Names.{Scope, bare_root, bound, is_root, local, root_of, turn_scope, variable_names, variables_of}
use Rattle.cel_types.specs.declared.typed.Variables.{Variables}
use Rattle.cel_meaning.specs.Origin.{CelAround, CelPlace, CelPlaced, answers_of, bare, call_place, first_place, in_result, in_turn, placed, placed_before, placed_each, placed_entries, placed_fold, placed_over, placed_target, placed_turn, settled}
use Rattle.cel_meaning.specs.Places.{around}

-- the answer, without its place
abbrev pub answer_of : Option CelPlaced → Option CelAnswer
answer_of o = option_map (λ a. a.0) o

-- those of operands
abbrev pub all_answers : Option (List CelPlaced) → Option (List CelAnswer)
all_answers o = option_map (map (λ a. a.0)) o

-- ---- locals

pub local_answers : (name : List ℕ) (ls : Scope CelPlaced) → answer_of (local name ls) ≡ local name (answers_of ls)
local_answers name [] = refl
local_answers name (l ∷ ls) = at (bytes_eq l.0 name) (local_answers name ls)
  where
    at : (b : Bool) → answer_of (local name ls) ≡ local name (answers_of ls) → answer_of (cond b (Some l.1) (local name ls)) ≡ cond b (Some l.1.0) (local name (answers_of ls))
    at true outer = refl
    at false outer = outer

some_answer : (o : Option CelPlaced) → is_some o ≡ is_some (answer_of o)
some_answer None = refl
some_answer (Some a) = refl

bare_answers : (name : List ℕ) (ls : Scope CelPlaced) → bare_root name ls ≡ bare_root name (answers_of ls)
bare_answers name ls = ap (λ some. cond some false (is_root name))
    (some_answer (local name ls) ∙ ap is_some (local_answers name ls))

pub root_answers : (t : CelTree) (ls : Scope CelPlaced) → root_of t ls ≡ root_of t (answers_of ls)
root_answers (ident id name) ls = ap (λ bare. cond bare (Some name) None) (bare_answers name ls)
root_answers _ ls = refl

-- one more local
abbrev also : List ℕ → CelAnswer → Locals → Locals
also name a ls = (name, a) ∷ ls

bound_answers : (names : List (List ℕ)) (vs : List CelAnswer) (rest : Scope CelPlaced)
    → answers_of (bound names (map bare vs) ++ rest) ≡ bound names vs ++ answers_of rest
bound_answers [] vs rest = refl
bound_answers (name ∷ names) [] rest = refl
bound_answers (name ∷ names) (v ∷ vs) rest = ap (also name v) (bound_answers names vs rest)

-- ---- operands

pub settled_answer : (t : CelTree) (c : CelAround) (a : Option CelAnswer) (inner : Option CelPlace)
    → answer_of (settled t c a inner) ≡ a
settled_answer t c None inner = refl
settled_answer t c (Some (value v)) inner = refl
settled_answer t c (Some (fails e)) inner = refl

before_answers : (a : Option CelPlaced) (os : Option (List CelPlaced))
    → all_answers (placed_before a os) ≡ before (answer_of a) (all_answers os)
before_answers None os = refl
before_answers (Some a) None = refl
before_answers (Some a) (Some os) = refl

operands_answer : (f : List CelPlaced → Option CelPlaced) (g : List CelAnswer → Option CelAnswer)
    → ((os : List CelPlaced) → answer_of (f os) ≡ g (map (λ a. a.0) os)) → (os : Option (List CelPlaced))
    → answer_of (option_and_then f os) ≡ option_and_then g (all_answers os)
operands_answer f g same None = refl
operands_answer f g same (Some os) = same os

-- a call of operands without a meaning has none
pub no_call : (name : List ℕ) → call_answer name None ≡ None
no_call name = at (function_named name)
  where
    at : (f : Option Function) → option_and_then (λ g. option_and_then (function_answer g) None) f ≡ None
    at None = refl
    at (Some g) = refl

called : (name : List ℕ) (answers : Option (List CelAnswer))
    → option_and_then (λ answers. call_answer name (Some answers)) answers ≡ call_answer name answers
called name None = sym (no_call name)
called name (Some answers) = refl

-- ---- comprehensions

turn_answers : (condition step : Option CelPlaced) (next : CelPlaced → Option CelPlaced) (ended : Option CelPlaced)
    (meant : CelAnswer → Option CelAnswer) → ((a : CelPlaced) → answer_of (next a) ≡ meant a.0)
    → answer_of (placed_turn condition step next ended) ≡ turn (answer_of condition) (answer_of step) meant (answer_of ended)
turn_answers None step next ended meant same = refl
turn_answers (Some (fails e, p)) step next ended meant same = refl
turn_answers (Some (value (bool true), p)) None next ended meant same = refl
turn_answers (Some (value (bool true), p)) (Some a) next ended meant same = same a
turn_answers (Some (value (bool false), p)) step next ended meant same = refl
turn_answers (Some (value _, p)) step next ended meant same = refl

fold_answers : (condition step : ℕ → List CelAnswer → CelPlaced → Option CelPlaced) (result : CelPlaced → Option CelPlaced)
    (meant_condition meant_step : List CelAnswer → CelAnswer → Option CelAnswer) (meant_result : CelAnswer → Option CelAnswer)
    → ((n : ℕ) (vs : List CelAnswer) (a : CelPlaced) → answer_of (condition n vs a) ≡ meant_condition vs a.0)
    → ((n : ℕ) (vs : List CelAnswer) (a : CelPlaced) → answer_of (step n vs a) ≡ meant_step vs a.0)
    → ((a : CelPlaced) → answer_of (result a) ≡ meant_result a.0)
    → (turns : List (List CelAnswer)) (n : ℕ) (a : CelPlaced)
    → answer_of (placed_fold condition step result n turns a) ≡ fold meant_condition meant_step meant_result turns a.0
fold_answers condition step result meant_condition meant_step meant_result on_condition on_step on_result [] n a = on_result a
fold_answers condition step result meant_condition meant_step meant_result on_condition on_step on_result (vs ∷ turns) n a =
    turn_answers (condition n vs a) (step n vs a) (placed_fold condition step result (n + 1) turns) (result a)
    (fold meant_condition meant_step meant_result turns)
    (fold_answers condition step result meant_condition meant_step meant_result on_condition on_step on_result turns (n + 1))
    ∙ (ap (λ o. turn o (answer_of (step n vs a)) (fold meant_condition meant_step meant_result turns) (answer_of (result a)))
    (on_condition n vs a)
    ∙ (ap (λ o. turn (meant_condition vs a.0) o (fold meant_condition meant_step meant_result turns) (answer_of (result a)))
    (on_step n vs a)
    ∙ ap (turn (meant_condition vs a.0) (meant_step vs a.0) (fold meant_condition meant_step meant_result turns))
    (on_result a)))

over_answers : (variables : Variables) (range : Option CelPlaced) (go : List (List CelAnswer) → Option CelPlaced)
    (meant : List (List CelAnswer) → Option CelAnswer)
    → ((turns : List (List CelAnswer)) → answer_of (go turns) ≡ meant turns)
    → answer_of (placed_over variables range go) ≡ over variables (answer_of range) meant
over_answers variables None go meant same = refl
over_answers variables (Some (fails e, p)) go meant same = refl
over_answers variables (Some (value v, p)) go meant same = at (turns_of variables v)
  where
    at : (o : Option (List (List CelAnswer))) → answer_of (option_and_then go o) ≡ option_and_then meant o
    at None = refl
    at (Some turns) = same turns

then_answers : (f : CelPlaced → Option CelPlaced) (g : CelAnswer → Option CelAnswer)
    → ((a : CelPlaced) → answer_of (f a) ≡ g a.0) → (o : Option CelPlaced)
    → answer_of (option_and_then f o) ≡ option_and_then g (answer_of o)
then_answers f g same None = refl
then_answers f g same (Some a) = same a

-- ---- expressions

mutual
  pub placed_answer : (r : RequestValue) (c : CelAround) (t : CelTree)
      → answer_of (placed r c t) ≡ eval t r (answers_of c.locals)
  placed_answer r c (constant id v) = refl
  placed_answer r c (ident id name) =
      settled_answer (ident id name) c (name_answer r name (answer_of (local name c.locals))) _
      ∙ ap (name_answer r name) (local_answers name c.locals)
  placed_answer r c (select id operand name test_only) =
      settled_answer (select id operand name test_only) c
      (select_answer r (root_of operand c.locals) (answer_of (placed r c operand)) name test_only) _
      ∙ (ap (λ root. select_answer r root (answer_of (placed r c operand)) name test_only) (root_answers operand c.locals)
      ∙ ap (λ o. select_answer r (root_of operand (answers_of c.locals)) o name test_only) (placed_answer r c operand))
  placed_answer r c (call id name on args) =
      operands_answer
      (λ os. settled (call id name on args) c (call_answer name (Some (map (λ a. a.0) os)))
      (call_place (function_named name) os))
      (λ answers. call_answer name (Some answers))
      (λ os. settled_answer (call id name on args) c (call_answer name (Some (map (λ a. a.0) os)))
      (call_place (function_named name) os))
      (placed_target r c on (placed_each r c args))
      ∙ (called name (all_answers (placed_target r c on (placed_each r c args)))
      ∙ ap (call_answer name) (target_answers r c on (placed_each r c args) ∙
      ap (eval_target on r (answers_of c.locals)) (each_answers r c args)))
  placed_answer r c (list_literal id elements) =
      operands_answer
      (λ os. settled (list_literal id elements) c (collections.list_literal (map (λ a. a.0) os)) (first_place os))
      collections.list_literal
      (λ os. settled_answer (list_literal id elements) c (collections.list_literal (map (λ a. a.0) os)) (first_place os))
      (placed_each r c elements)
      ∙ ap (option_and_then collections.list_literal) (each_answers r c elements)
  placed_answer r c (map_literal id entries) =
      operands_answer
      (λ os. settled (map_literal id entries) c (collections.map_literal (map (λ a. a.0) os)) (first_place os))
      collections.map_literal
      (λ os. settled_answer (map_literal id entries) c (collections.map_literal (map (λ a. a.0) os)) (first_place os))
      (placed_entries r c entries)
      ∙ ap (option_and_then collections.map_literal) (entries_answers r c entries)
  placed_answer r c (comprehension id x y acc range init condition step result) =
      let ls = answers_of c.locals in
      over_answers (variables_of y) (placed r c range)
      (λ turns. option_and_then (placed_fold (λ n vs a. placed r (in_turn x y acc n vs a c) condition)
      (λ n vs a. placed r (in_turn x y acc n vs a c) step) (λ a. placed r (in_result acc a c) result) 0 turns) (placed r c init))
      (λ turns. option_and_then (fold (λ vs a. eval condition r (turn_scope x y acc vs a ls))
      (λ vs a. eval step r (turn_scope x y acc vs a ls)) (λ a. eval result r ((acc, a) ∷ ls)) turns)
      (eval init r ls))
      (λ turns. then_answers
      (placed_fold (λ n vs a. placed r (in_turn x y acc n vs a c) condition)
      (λ n vs a. placed r (in_turn x y acc n vs a c) step) (λ a. placed r (in_result acc a c) result) 0 turns)
      (fold (λ vs a. eval condition r (turn_scope x y acc vs a ls))
      (λ vs a. eval step r (turn_scope x y acc vs a ls)) (λ a. eval result r ((acc, a) ∷ ls)) turns)
      (fold_answers (λ n vs a. placed r (in_turn x y acc n vs a c) condition)
      (λ n vs a. placed r (in_turn x y acc n vs a c) step) (λ a. placed r (in_result acc a c) result)
      (λ vs a. eval condition r (turn_scope x y acc vs a ls))
      (λ vs a. eval step r (turn_scope x y acc vs a ls)) (λ a. eval result r ((acc, a) ∷ ls))
      (λ n vs a. placed_answer r (in_turn x y acc n vs a c) condition
      ∙ ap (eval condition r) (bound_answers (variable_names x y) vs ((acc, a) ∷ c.locals)))
      (λ n vs a. placed_answer r (in_turn x y acc n vs a c) step
      ∙ ap (eval step r) (bound_answers (variable_names x y) vs ((acc, a) ∷ c.locals)))
      (λ a. placed_answer r (in_result acc a c) result) turns 0)
      (placed r c init)
      ∙ ap (option_and_then (fold (λ vs a. eval condition r (turn_scope x y acc vs a ls))
      (λ vs a. eval step r (turn_scope x y acc vs a ls)) (λ a. eval result r ((acc, a) ∷ ls)) turns))
      (placed_answer r c init))
      ∙ ap (λ o. over (variables_of y) o (λ turns. option_and_then (fold (λ vs a. eval condition r (turn_scope x y acc vs a ls))
      (λ vs a. eval step r (turn_scope x y acc vs a ls)) (λ a. eval result r ((acc, a) ∷ ls)) turns)
      (eval init r ls))) (placed_answer r c range)

  pub target_answers : (r : RequestValue) (c : CelAround) (on : CelTarget) (os : Option (List CelPlaced))
      → all_answers (placed_target r c on os) ≡ eval_target on r (answers_of c.locals) (all_answers os)
  target_answers r c no_target os = refl
  target_answers r c (target t) os =
      before_answers (placed r c t) os ∙ ap (λ o. before o (all_answers os)) (placed_answer r c t)

  pub each_answers : (r : RequestValue) (c : CelAround) (ts : CelTrees)
      → all_answers (placed_each r c ts) ≡ eval_each ts r (answers_of c.locals)
  each_answers r c no_trees = refl
  each_answers r c (tree t ts) =
      before_answers (placed r c t) (placed_each r c ts)
      ∙ (ap (λ o. before o (all_answers (placed_each r c ts))) (placed_answer r c t)
      ∙ ap (before (eval t r (answers_of c.locals))) (each_answers r c ts))

  pub entries_answers : (r : RequestValue) (c : CelAround) (es : CelTreeEntries)
      → all_answers (placed_entries r c es) ≡ eval_entries es r (answers_of c.locals)
  entries_answers r c no_tree_entries = refl
  entries_answers r c (tree_entry id key v es) =
      before_answers (placed r c key) (placed_before (placed r c v) (placed_entries r c es))
      ∙ (ap (λ o. before o (all_answers (placed_before (placed r c v) (placed_entries r c es)))) (placed_answer r c key)
      ∙ ap (before (eval key r (answers_of c.locals)))
      (before_answers (placed r c v) (placed_entries r c es)
      ∙ (ap (λ o. before o (all_answers (placed_entries r c es))) (placed_answer r c v)
      ∙ ap (before (eval v r (answers_of c.locals))) (entries_answers r c es))))

-- locals without places have these answers
pub around_answers : (ls : Locals) → answers_of (around ls).locals ≡ ls
around_answers [] = refl
around_answers (l ∷ ls) = ap (λ ls. l ∷ ls) (around_answers ls)
