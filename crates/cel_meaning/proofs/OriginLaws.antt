-- The part at which an error begins is the same error, it is found again in itself, and every error has one.
use Rattle.std.proofs.Common.{◌≡◌, ◌+◌, ℕ, Bool, true, false, is_some, List, [], ◌∷◌, map, Option, Some, None, option_map, refl, sym, ap, ◌∙◌}
use Rattle.std.specs.Option.{option_and_then}
use Rattle.attributes.specs.Request.{RequestValue}
use Rattle.cel_value.specs.Values.{CelAnswer, bool, fails, list, value}
use Rattle.cel_value.specs.declared.error.CelError.{CelError}
use Rattle.cel_ops.specs.Collections as collections
use Rattle.cel_ops.specs.private.Gathering.{some_error}
use Rattle.cel_overload.specs.Functions.{function_named}
use Rattle.cel_tree.specs.Tree.{CelTree, constant, ident, select, call, list_literal, map_literal, comprehension, CelTarget, no_target, target, CelTrees, no_trees, tree, CelTreeEntries, no_tree_entries, tree_entry}
use Rattle.cel_types.specs.Meaning.{call_answer, name_answer, select_answer, turns_of}
use Rattle.cel_types.specs.Names.{local, root_of, variable_names, variables_of}
use Rattle.cel_types.specs.declared.typed.Variables.{Variables}
use Rattle.cel_meaning.specs.Origin.{CelAround, CelPlace, CelPlaced, answers_of, bare, call_place, first_place, in_result, in_turn, place_of, placed, placed_before, placed_each, placed_entries, placed_fold, placed_over, placed_target, placed_turn, select_place, settled}
use Rattle.cel_meaning.specs.Places.{is_error, place_around}
use Rattle.cel_meaning.proofs.Meaning.{all_answers, answer_of, around_answers, local_answers}
use Rattle.cel_meaning.proofs.Good.{AllFound, AllGood, IsGood, bare_answer, bare_around, bare_found, bare_local, bare_root_of, call_error, call_some, call_within, each_again, entries_again, first_some, literal_within, local_found, name_within, no_place, own_again, own_place, same_good, select_within, settled_good, target_again, turn_found, value_good, with_place}

-- ---- comprehensions

abbrev Gives : RequestValue → Option CelPlaced → Type 0
Gives r o = (a : CelPlaced) → o ≡ Some a → IsGood r a

turn_good : (r : RequestValue) (condition step : Option CelPlaced) (next : CelPlaced → Option CelPlaced) (ended : Option CelPlaced)
    → Gives r condition → Gives r step → ((a : CelPlaced) → IsGood r a → Gives r (next a)) → Gives r ended
    → Gives r (placed_turn condition step next ended)
turn_good r None step next ended on_condition on_step on_next on_ended a is = absurd cc
turn_good r (Some (fails e, p)) step next ended on_condition on_step on_next on_ended a is = on_condition a is
turn_good r (Some (value (bool true), p)) None next ended on_condition on_step on_next on_ended a is = absurd cc
turn_good r (Some (value (bool true), p)) (Some b) next ended on_condition on_step on_next on_ended a is =
    on_next b (on_step b refl) a is
turn_good r (Some (value (bool false), p)) step next ended on_condition on_step on_next on_ended a is = on_ended a is
turn_good r (Some (value _, p)) step next ended on_condition on_step on_next on_ended a is = absurd cc

fold_good : (r : RequestValue) (condition step : ℕ → List CelAnswer → CelPlaced → Option CelPlaced)
    (result : CelPlaced → Option CelPlaced)
    → ((n : ℕ) (vs : List CelAnswer) (a : CelPlaced) → IsGood r a → Gives r (condition n vs a))
    → ((n : ℕ) (vs : List CelAnswer) (a : CelPlaced) → IsGood r a → Gives r (step n vs a))
    → ((a : CelPlaced) → IsGood r a → Gives r (result a))
    → (turns : List (List CelAnswer)) (n : ℕ) (a : CelPlaced) → IsGood r a → Gives r (placed_fold condition step result n turns a)
fold_good r condition step result on_condition on_step on_result [] n a good = on_result a good
fold_good r condition step result on_condition on_step on_result (vs ∷ turns) n a good =
    turn_good r (condition n vs a) (step n vs a) (placed_fold condition step result (n + 1) turns) (result a)
    (on_condition n vs a good) (on_step n vs a good)
    (fold_good r condition step result on_condition on_step on_result turns (n + 1)) (on_result a good)

over_good : (r : RequestValue) (variables : Variables) (range : Option CelPlaced) (go : List (List CelAnswer) → Option CelPlaced)
    → Gives r range → ((turns : List (List CelAnswer)) → Gives r (go turns)) → Gives r (placed_over variables range go)
over_good r variables None go on_range on_go a is = absurd cc
over_good r variables (Some (fails e, p)) go on_range on_go a is = on_range a is
over_good r variables (Some (value v, p)) go on_range on_go a is = at (turns_of variables v) is
  where
    at : (o : Option (List (List CelAnswer))) → option_and_then go o ≡ Some a → IsGood r a
    at None is = absurd cc
    at (Some turns) is = on_go turns a is

then_good : (r : RequestValue) (f : CelPlaced → Option CelPlaced) → ((a : CelPlaced) → IsGood r a → Gives r (f a))
    → (o : Option CelPlaced) → Gives r o → Gives r (option_and_then f o)
then_good r f on_next None on a is = absurd cc
then_good r f on_next (Some b) on a is = on_next b (on b refl) a is

-- ---- expressions

abbrev GiveAll : RequestValue → Option (List CelPlaced) → Type 0
GiveAll r o = (os : List CelPlaced) → o ≡ Some os → AllGood r os

before_good : (r : RequestValue) (a : Option CelPlaced) (rest : Option (List CelPlaced)) → Gives r a → GiveAll r rest
    → GiveAll r (placed_before a rest)
before_good r None rest on all os is = absurd cc
before_good r (Some a) None on all os is = absurd cc
before_good r (Some a) (Some rest) on all os is =
    let same : os ≡ a ∷ rest = cc in rw same (on a refl, all rest refl)

-- an expression of operands: if it is its own place, it is so again without the places of locals
operands_own : (r : RequestValue) (t : CelTree) (c : CelAround) (answer : List CelAnswer → Option CelAnswer)
    (place : List CelPlaced → Option CelPlace) (due : List CelAnswer → Bool)
    → ((os : List CelPlaced) → AllGood r os → is_some (place os) ≡ due (map (λ a. a.0) os))
    → (os : List CelPlaced) → AllGood r os → (again : Option (List CelPlaced)) → GiveAll r again
    → all_answers again ≡ Some (map (λ a. a.0) os) → (e : CelError) → answer (map (λ a. a.0) os) ≡ Some (fails e)
    → place os ≡ None
    → option_and_then (λ os. settled t (bare_around c) (answer (map (λ a. a.0) os)) (place os)) again
    ≡ own_place t c e (answers_of c.locals)
operands_own r t c answer place due some os all None again_all same e error none = absurd cc
operands_own r t c answer place due some os all (Some again) again_all same e error none =
    let answers : map (λ a. a.0) again ≡ map (λ a. a.0) os = cc in
    let no : due (map (λ a. a.0) os) ≡ false = sym (some os all) ∙ ap is_some none in
    own_again t c (answer (map (λ a. a.0) again)) (place again) e (ap answer answers ∙ error)
    (no_place (place again) (due (map (λ a. a.0) again)) (some again (again_all again refl)) (ap due answers ∙ no))

operands_good : (r : RequestValue) (t : CelTree) (c : CelAround) (answer : List CelAnswer → Option CelAnswer)
    (place : List CelPlaced → Option CelPlace) (due : List CelAnswer → Bool)
    → ((os : List CelPlaced) → AllGood r os → is_some (place os) ≡ due (map (λ a. a.0) os))
    → ((os : List CelPlaced) → AllGood r os → (e : CelError) (p : CelPlace) → answer (map (λ a. a.0) os) ≡ Some (fails e)
    → place os ≡ Some p → placed r (place_around p) p.part ≡ with_place (fails e) (Some p))
    → (os again : Option (List CelPlaced)) → GiveAll r os → GiveAll r again → all_answers again ≡ all_answers os
    → placed r (bare_around c) t ≡ option_and_then (λ os. settled t (bare_around c) (answer (map (λ a. a.0) os)) (place os)) again
    → Gives r (option_and_then (λ os. settled t c (answer (map (λ a. a.0) os)) (place os)) os)
operands_good r t c answer place due some within None again all again_all same whole a is = absurd cc
operands_good r t c answer place due some within (Some os) again all again_all same whole a is =
    settled_good r t c (answer (map (λ a. a.0) os)) (place os)
    (λ e error none. whole ∙ operands_own r t c answer place due some os (all os refl) again again_all same e error none)
    (λ e p error found. within os (all os refl) e p error found) a is

-- the place of the operand of a Select, again
select_own : (r : RequestValue) (root again_root : Option (List ℕ)) (o again : Option CelPlaced) → again_root ≡ root
    → answer_of again ≡ answer_of o → Gives r o → Gives r again → select_place root o ≡ None
    → select_place again_root again ≡ None
select_own r (Some root) again_root o again same_root same good again_good none = rw same_root refl
select_own r None again_root None None same_root same good again_good none = rw same_root refl
select_own r None again_root None (Some b) same_root same good again_good none = absurd cc
select_own r None again_root (Some a) None same_root same good again_good none = absurd cc
select_own r None again_root (Some a) (Some b) same_root same good again_good none =
    let answers : b.0 ≡ a.0 = cc in
    let no : is_error a.0 ≡ false = sym (good a refl).0 ∙ ap is_some none in
    rw same_root (no_place b.1 (is_error b.0) (again_good b refl).0 (ap is_error answers ∙ no))

mutual
  pub placed_good : (r : RequestValue) (c : CelAround) (t : CelTree) → AllFound r c.locals → Gives r (placed r c t)
  placed_good r c (constant id v) all a is = same_good r (bare (value v)) a is (value_good r v)
  placed_good r c (ident id name) all a is =
      settled_good r (ident id name) c (name_answer r name (answer_of (local name c.locals))) (place_of (local name c.locals))
      (λ e error none. own_again (ident id name) c (name_answer r name (answer_of (local name (bare_around c).locals)))
      (place_of (local name (bare_around c).locals)) e
      (ap (name_answer r name) (local_answers name (bare_around c).locals
      ∙ (ap (local name) (around_answers (answers_of c.locals)) ∙ sym (local_answers name c.locals))) ∙ error)
      (bare_local name (answers_of c.locals)))
      (name_within r name (local name c.locals) (local_found r name c.locals all)) a is
  placed_good r c (select id operand name test_only) all a is =
      settled_good r (select id operand name test_only) c
      (select_answer r (root_of operand c.locals) (answer_of (placed r c operand)) name test_only)
      (select_place (root_of operand c.locals) (placed r c operand))
      (λ e error none. own_again (select id operand name test_only) c
      (select_answer r (root_of operand (bare_around c).locals) (answer_of (placed r (bare_around c) operand)) name test_only)
      (select_place (root_of operand (bare_around c).locals) (placed r (bare_around c) operand)) e
      (ap (λ root. select_answer r root (answer_of (placed r (bare_around c) operand)) name test_only) (bare_root_of operand c)
      ∙ (ap (λ o. select_answer r (root_of operand c.locals) o name test_only) (bare_answer r c operand) ∙ error))
      (select_own r (root_of operand c.locals) (root_of operand (bare_around c).locals) (placed r c operand) (placed r (bare_around c) operand)
      (bare_root_of operand c) (bare_answer r c operand) (placed_good r c operand all)
      (placed_good r (bare_around c) operand (bare_found r (answers_of c.locals))) none))
      (select_within r (root_of operand c.locals) (placed r c operand) name test_only (placed_good r c operand all)) a is
  placed_good r c (call id name on args) all a is =
      operands_good r (call id name on args) c (λ answers. call_answer name (Some answers)) (call_place (function_named name))
      (call_error (function_named name)) (call_some r (function_named name)) (call_within r (function_named name))
      (placed_target r c on (placed_each r c args)) (placed_target r (bare_around c) on (placed_each r (bare_around c) args))
      (target_good r c on all (placed_each r c args) (each_good r c args all))
      (target_good r (bare_around c) on (bare_found r (answers_of c.locals)) (placed_each r (bare_around c) args)
      (each_good r (bare_around c) args (bare_found r (answers_of c.locals))))
      (target_again r c on (placed_each r (bare_around c) args) (placed_each r c args) (each_again r c args)) refl a is
  placed_good r c (list_literal id elements) all a is =
      operands_good r (list_literal id elements) c collections.list_literal first_place some_error (first_some r)
      (literal_within r (λ vs. Some (value (list vs)))) (placed_each r c elements) (placed_each r (bare_around c) elements) (each_good r c elements all)
      (each_good r (bare_around c) elements (bare_found r (answers_of c.locals))) (each_again r c elements) refl a is
  placed_good r c (map_literal id entries) all a is =
      operands_good r (map_literal id entries) c collections.map_literal first_place some_error (first_some r)
      (literal_within r (λ vs. option_map collections.map_made_of (collections.written_entries vs))) (placed_entries r c entries) (placed_entries r (bare_around c) entries) (entries_good r c entries all)
      (entries_good r (bare_around c) entries (bare_found r (answers_of c.locals))) (entries_again r c entries) refl a is
  placed_good r c (comprehension id x y acc range init condition step result) all a is =
      over_good r (variables_of y) (placed r c range)
      (λ turns. option_and_then (placed_fold (λ n vs a. placed r (in_turn x y acc n vs a c) condition)
      (λ n vs a. placed r (in_turn x y acc n vs a c) step) (λ a. placed r (in_result acc a c) result) 0 turns) (placed r c init))
      (placed_good r c range all)
      (λ turns. then_good r (placed_fold (λ n vs a. placed r (in_turn x y acc n vs a c) condition)
      (λ n vs a. placed r (in_turn x y acc n vs a c) step) (λ a. placed r (in_result acc a c) result) 0 turns)
      (fold_good r (λ n vs a. placed r (in_turn x y acc n vs a c) condition)
      (λ n vs a. placed r (in_turn x y acc n vs a c) step) (λ a. placed r (in_result acc a c) result)
      (λ n vs a good. placed_good r (in_turn x y acc n vs a c) condition
      (turn_found r (variable_names x y) vs ((acc, a) ∷ c.locals) (good.1, all)))
      (λ n vs a good. placed_good r (in_turn x y acc n vs a c) step
      (turn_found r (variable_names x y) vs ((acc, a) ∷ c.locals) (good.1, all)))
      (λ a good. placed_good r (in_result acc a c) result (good.1, all)) turns 0)
      (placed r c init) (placed_good r c init all)) a is

  target_good : (r : RequestValue) (c : CelAround) (on : CelTarget) → AllFound r c.locals → (os : Option (List CelPlaced))
      → GiveAll r os → GiveAll r (placed_target r c on os)
  target_good r c no_target all os good = good
  target_good r c (target t) all os good = before_good r (placed r c t) os (placed_good r c t all) good

  each_good : (r : RequestValue) (c : CelAround) (ts : CelTrees) → AllFound r c.locals → GiveAll r (placed_each r c ts)
  each_good r c no_trees all os is = let same : os ≡ [] = cc in rw same tt
  each_good r c (tree t ts) all os is =
      before_good r (placed r c t) (placed_each r c ts) (placed_good r c t all) (each_good r c ts all) os is

  entries_good : (r : RequestValue) (c : CelAround) (es : CelTreeEntries) → AllFound r c.locals
      → GiveAll r (placed_entries r c es)
  entries_good r c no_tree_entries all os is = let same : os ≡ [] = cc in rw same tt
  entries_good r c (tree_entry id key v es) all os is =
      before_good r (placed r c key) (placed_before (placed r c v) (placed_entries r c es)) (placed_good r c key all)
      (before_good r (placed r c v) (placed_entries r c es) (placed_good r c v all) (entries_good r c es all)) os is
