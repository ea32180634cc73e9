-- What holds of an answer with a place: the part at the place has the same answer with the same place.
use Rattle.std.proofs.Common.{◌≡◌, ℕ, Bool, true, false, cond, is_some, List, [], ◌∷◌, ◌++◌, map, Option, Some, None, refl, sym, ap, ◌∙◌}
use Rattle.std.specs.Option.{option_and_then}
use Rattle.std.specs.Str.{bytes_eq}
use Rattle.attributes.specs.Request.{RequestValue}
use Rattle.cel_value.specs.Values.{CelAnswer, CelValue, CelValues, bool, fails, value}
use Rattle.cel_value.specs.declared.error.CelError.{CelError}
use Rattle.cel_ops.specs.Strict.{first_error, gather, gathered_after, strict_all}
use Rattle.cel_ops.specs.private.Gathering.{some_error}
use Rattle.cel_overload.specs.Answers.{conditional, function_answer}
use Rattle.cel_overload.specs.declared.function.Function.{Function}
use Rattle.cel_overload.specs.declared.function.Function.TheVariants as functions
use Rattle.cel_tree.specs.Tree.{CelTree, CelTarget, CelTrees, CelTreeEntries}
use Rattle.cel_types.specs.Meaning.{Locals, eval, eval_each, eval_entries, eval_target, name_answer, select_answer}
use Rattle.cel_types.specs.Names.{Scope, bound, local, root_of}
use Rattle.cel_meaning.specs.Origin.{CelAround, CelPlace, CelPlaced, answers_of, bare, begins, call_place, choice_place, first_place, place_of, placed, placed_each, placed_entries, placed_target, select_place, settled}
use Rattle.cel_meaning.specs.Places.{around, is_error, place_around}
use Rattle.cel_meaning.proofs.FunctionErrors.{fails_with, function_error}
use Rattle.cel_meaning.proofs.Meaning.{all_answers, answer_of, around_answers, each_answers, entries_answers, placed_answer, root_answers, target_answers}

-- ---- what holds of an answer with a place

-- the part at the place has the same answer with the same place
abbrev pub IsFound : RequestValue → CelPlaced → Type 0
IsFound r a = (p : CelPlace) → a.1 ≡ Some p → placed r (place_around p) p.part ≡ Some a

-- there is a place exactly if the answer is an error
abbrev pub IsGood : RequestValue → CelPlaced → Type 0
IsGood r a = (is_some a.1 ≡ is_error a.0) × IsFound r a

abbrev pub AllGood : RequestValue → List CelPlaced → Type 0
AllGood r [] = Unit {0}
AllGood r (a ∷ os) = IsGood r a × AllGood r os

abbrev pub AllFound : RequestValue → Scope CelPlaced → Type 0
AllFound r [] = Unit {0}
AllFound r (l ∷ ls) = IsFound r l.1 × AllFound r ls

-- what is around, without the places of locals
abbrev pub bare_around : CelAround → CelAround
bare_around c = record { turns = c.turns; locals = (around (answers_of c.locals)).locals }

pub bare_found : (r : RequestValue) (ls : Locals) → AllFound r (around ls).locals
bare_found r [] = tt
bare_found r (l ∷ ls) = ((λ p none. absurd cc), bare_found r ls)

pub local_found : (r : RequestValue) (name : List ℕ) (ls : Scope CelPlaced) → AllFound r ls → (a : CelPlaced)
    → local name ls ≡ Some a → IsFound r a
local_found r name [] all a is = absurd cc
local_found r name (l ∷ ls) all a is = at (bytes_eq l.0 name) (local_found r name ls all.1 a) is
  where
    at : (b : Bool) → (local name ls ≡ Some a → IsFound r a) → cond b (Some l.1) (local name ls) ≡ Some a → IsFound r a
    at true outer is = let same : a ≡ l.1 = cc in rw same all.0
    at false outer is = outer is

pub bare_local : (name : List ℕ) (ls : Locals) → place_of (local name (around ls).locals) ≡ None
bare_local name [] = refl
bare_local name (l ∷ ls) = at (bytes_eq l.0 name) (bare_local name ls)
  where
    at : (b : Bool) → place_of (local name (around ls).locals) ≡ None → place_of (cond b (Some (bare l.1)) (local name (around ls).locals)) ≡ None
    at true outer = refl
    at false outer = outer

-- a turn's locals
pub turn_found : (r : RequestValue) (names : List (List ℕ)) (vs : List CelAnswer) (rest : Scope CelPlaced) → AllFound r rest
    → AllFound r (bound names (map bare vs) ++ rest)
turn_found r [] vs rest all = all
turn_found r (name ∷ names) [] rest all = all
turn_found r (name ∷ names) (v ∷ vs) rest all = ((λ p none. absurd cc), turn_found r names vs rest all)

-- ---- settled answers

-- an answer with a place, if there is one
abbrev pub with_place : CelAnswer → Option CelPlace → Option CelPlaced
with_place a place = Some (a, place)

-- the error of an expression with these locals, which is its own place
abbrev pub own_place : CelTree → CelAround → CelError → Locals → Option CelPlaced
own_place t c e ls = Some (fails e, Some (record { part = t; turns = c.turns; locals = ls }))

pub same_good : (r : RequestValue) (b a : CelPlaced) → Some b ≡ Some a → IsGood r b → IsGood r a
same_good r b a is good = let same : a ≡ b = cc in rw same good

same_found : (r : RequestValue) (q p : CelPlace) (a : Option CelPlaced) → Some q ≡ Some p
    → placed r (place_around q) q.part ≡ a → placed r (place_around p) p.part ≡ a
same_found r q p a is found = let same : p ≡ q = cc in rw same found

found_as : (r : RequestValue) (a : CelAnswer) (place : Option CelPlace) (e : CelError) (p : CelPlace) → IsFound r (a, place)
    → a ≡ fails e → place ≡ Some p → placed r (place_around p) p.part ≡ with_place (fails e) (Some p)
found_as r a place e p found same is =
    found p is ∙ (ap (λ b. with_place b place) same ∙ ap (with_place (fails e)) is)

pub value_good : (r : RequestValue) (v : CelValue) → IsGood r (bare (value v))
value_good r v = (refl, λ p none. absurd cc)

own_good : (r : RequestValue) (t : CelTree) (c : CelAround) (e : CelError)
    → placed r (bare_around c) t ≡ own_place t c e (answers_of c.locals)
    → IsGood r (fails e, Some (begins t c None))
own_good r t c e own = (refl, λ p is. same_found r (begins t c None) p (own_place t c e (answers_of c.locals)) is own)

within_good : (r : RequestValue) (e : CelError) (q : CelPlace)
    → placed r (place_around q) q.part ≡ with_place (fails e) (Some q) → IsGood r (fails e, Some q)
within_good r e q within = (refl, λ p is. same_found r q p (with_place (fails e) (Some q)) is within)

pub settled_good : (r : RequestValue) (t : CelTree) (c : CelAround) (answer : Option CelAnswer) (inner : Option CelPlace)
    → ((e : CelError) → answer ≡ Some (fails e) → inner ≡ None
    → placed r (bare_around c) t ≡ own_place t c e (answers_of c.locals))
    → ((e : CelError) (p : CelPlace) → answer ≡ Some (fails e) → inner ≡ Some p
    → placed r (place_around p) p.part ≡ with_place (fails e) (Some p))
    → (a : CelPlaced) → settled t c answer inner ≡ Some a → IsGood r a
settled_good r t c None inner own within a is = absurd cc
settled_good r t c (Some (value v)) inner own within a is = same_good r (bare (value v)) a is (value_good r v)
settled_good r t c (Some (fails e)) None own within a is =
    same_good r (fails e, Some (begins t c None)) a is (own_good r t c e (own e refl refl))
settled_good r t c (Some (fails e)) (Some q) own within a is =
    same_good r (fails e, Some q) a is (within_good r e q (within e q refl refl))

-- an expression that is its own place is so again without the places of locals
pub own_again : (t : CelTree) (c : CelAround) (answer : Option CelAnswer) (inner : Option CelPlace) (e : CelError)
    → answer ≡ Some (fails e) → inner ≡ None
    → settled t (bare_around c) answer inner ≡ own_place t c e (answers_of c.locals)
own_again t c answer inner e is none =
    ap (λ a. settled t (bare_around c) a inner) is
    ∙ (ap (settled t (bare_around c) (Some (fails e))) none
    ∙ ap (own_place t c e) (around_answers (answers_of c.locals)))

pub bare_answer : (r : RequestValue) (c : CelAround) (t : CelTree) → answer_of (placed r (bare_around c) t) ≡ answer_of (placed r c t)
bare_answer r c t = placed_answer r (bare_around c) t ∙ (ap (eval t r) (around_answers (answers_of c.locals)) ∙ sym (placed_answer r c t))

pub bare_root_of : (t : CelTree) (c : CelAround) → root_of t (bare_around c).locals ≡ root_of t c.locals
bare_root_of t c = root_answers t (bare_around c).locals
    ∙ (ap (root_of t) (around_answers (answers_of c.locals)) ∙ sym (root_answers t c.locals))

-- ---- without the places of locals, operands have the same answers

pub each_again : (r : RequestValue) (c : CelAround) (ts : CelTrees)
    → all_answers (placed_each r (bare_around c) ts) ≡ all_answers (placed_each r c ts)
each_again r c ts = each_answers r (bare_around c) ts
    ∙ (ap (λ ls. eval_each ts r ls) (around_answers (answers_of c.locals)) ∙ sym (each_answers r c ts))

pub entries_again : (r : RequestValue) (c : CelAround) (es : CelTreeEntries)
    → all_answers (placed_entries r (bare_around c) es) ≡ all_answers (placed_entries r c es)
entries_again r c es = entries_answers r (bare_around c) es
    ∙ (ap (λ ls. eval_entries es r ls) (around_answers (answers_of c.locals)) ∙ sym (entries_answers r c es))

pub target_again : (r : RequestValue) (c : CelAround) (on : CelTarget) (again os : Option (List CelPlaced))
    → all_answers again ≡ all_answers os
    → all_answers (placed_target r (bare_around c) on again) ≡ all_answers (placed_target r c on os)
target_again r c on again os same = target_answers r (bare_around c) on again
    ∙ (ap (λ ls. eval_target on r ls (all_answers again)) (around_answers (answers_of c.locals))
    ∙ (ap (eval_target on r (answers_of c.locals)) same ∙ sym (target_answers r c on os)))

-- ---- which operands have places

pub no_place : (place : Option CelPlace) (b : Bool) → is_some place ≡ b → b ≡ false → place ≡ None
no_place None b some is = refl
no_place (Some p) b some is = absurd cc

pub first_some : (r : RequestValue) (os : List CelPlaced) → AllGood r os → is_some (first_place os) ≡ some_error (map (λ a. a.0) os)
first_some r [] all = refl
first_some r ((fails e, None) ∷ os) all = absurd (let no : false ≡ true = all.0.0 in cc)
first_some r ((fails e, Some p) ∷ os) all = refl
first_some r ((value v, None) ∷ os) all = first_some r os all.1
first_some r ((value v, Some p) ∷ os) all = absurd (let no : true ≡ false = all.0.0 in cc)

-- whether a choice of these answers has a place
abbrev choice_error : List CelAnswer → Bool
choice_error (value (bool true) ∷ a ∷ b ∷ []) = is_error a
choice_error (value (bool false) ∷ a ∷ b ∷ []) = is_error b
choice_error answers = some_error answers

choice_some : (r : RequestValue) (os : List CelPlaced) → AllGood r os
    → is_some (choice_place os) ≡ choice_error (map (λ a. a.0) os)
choice_some r [] all = refl
choice_some r ((value (bool true), p) ∷ a ∷ b ∷ []) all = all.1.0.0
choice_some r ((value (bool false), p) ∷ a ∷ b ∷ []) all = all.1.1.0.0
choice_some r ((value (bool true), p) ∷ []) all = first_some r ((value (bool true), p) ∷ []) all
choice_some r ((value (bool true), p) ∷ a ∷ []) all = first_some r ((value (bool true), p) ∷ a ∷ []) all
choice_some r ((value (bool true), p) ∷ a ∷ b ∷ d ∷ os) all = first_some r ((value (bool true), p) ∷ a ∷ b ∷ d ∷ os) all
choice_some r ((value (bool false), p) ∷ []) all = first_some r ((value (bool false), p) ∷ []) all
choice_some r ((value (bool false), p) ∷ a ∷ []) all = first_some r ((value (bool false), p) ∷ a ∷ []) all
choice_some r ((value (bool false), p) ∷ a ∷ b ∷ d ∷ os) all = first_some r ((value (bool false), p) ∷ a ∷ b ∷ d ∷ os) all
choice_some r ((value v, p) ∷ os) all = first_some r ((value v, p) ∷ os) all
choice_some r ((fails e, p) ∷ os) all = first_some r ((fails e, p) ∷ os) all

-- whether a call of these answers has a place
abbrev pub call_error : Option Function → List CelAnswer → Bool
call_error (Some functions.Conditional) answers = choice_error answers
call_error _ answers = some_error answers

pub call_some : (r : RequestValue) (f : Option Function) (os : List CelPlaced) → AllGood r os
    → is_some (call_place f os) ≡ call_error f (map (λ a. a.0) os)
call_some r None os all = first_some r os all
call_some r (Some functions.Conditional) os all = choice_some r os all
call_some r (Some _) os all = first_some r os all

-- ---- the place of an operand of an error is that of the error

-- the error of the leftmost operand with a place
first_found : (r : RequestValue) (os : List CelPlaced) → AllGood r os → (p : CelPlace) → first_place os ≡ Some p
    → (e : CelError) × (gather (map (λ a. a.0) os) ≡ first_error e)
    × (placed r (place_around p) p.part ≡ with_place (fails e) (Some p))
first_found r [] all p is = absurd cc
first_found r ((fails e, None) ∷ os) all p is = absurd (let no : false ≡ true = all.0.0 in cc)
first_found r ((fails e, Some q) ∷ os) all p is = (e, refl, found_as r (fails e) (Some q) e p all.0.1 refl is)
first_found r ((value v, None) ∷ os) all p is =
    let found = first_found r os all.1 p is in (found.0, ap (gathered_after v) found.1, found.2)
first_found r ((value v, Some q) ∷ os) all p is = absurd (let no : true ≡ false = all.0.0 in cc)

pub literal_within : (r : RequestValue) (make : CelValues → Option CelAnswer) (os : List CelPlaced) → AllGood r os
    → (e : CelError) (p : CelPlace) → strict_all make (gather (map (λ a. a.0) os)) ≡ Some (fails e) → first_place os ≡ Some p
    → placed r (place_around p) p.part ≡ with_place (fails e) (Some p)
literal_within r make os all e p error is =
    let found = first_found r os all p is in
    let own : Some (fails found.0) ≡ Some (fails e) = sym (ap (strict_all make) found.1) ∙ error in
    let same : found.0 ≡ e = cc in rw (← same) found.2

choice_within : (r : RequestValue) (os : List CelPlaced) → AllGood r os → (e : CelError) (p : CelPlace)
    → conditional (map (λ a. a.0) os) ≡ Some (fails e) → choice_place os ≡ Some p
    → placed r (place_around p) p.part ≡ with_place (fails e) (Some p)
choice_within r [] all e p error is = absurd cc
choice_within r ((value (bool true), q) ∷ (a, s) ∷ b ∷ []) all e p error is =
    let same : a ≡ fails e = cc in found_as r a s e p all.1.0.1 same is
choice_within r ((value (bool false), q) ∷ a ∷ (b, s) ∷ []) all e p error is =
    let same : b ≡ fails e = cc in found_as r b s e p all.1.1.0.1 same is
choice_within r ((value (bool true), q) ∷ []) all e p error is = absurd cc
choice_within r ((value (bool true), q) ∷ a ∷ []) all e p error is = absurd cc
choice_within r ((value (bool true), q) ∷ a ∷ b ∷ d ∷ os) all e p error is = absurd cc
choice_within r ((value (bool false), q) ∷ []) all e p error is = absurd cc
choice_within r ((value (bool false), q) ∷ a ∷ []) all e p error is = absurd cc
choice_within r ((value (bool false), q) ∷ a ∷ b ∷ d ∷ os) all e p error is = absurd cc
choice_within r ((value v, q) ∷ os) all e p error is = absurd cc
choice_within r ((fails d, None) ∷ os) all e p error is = absurd (let no : false ≡ true = all.0.0 in cc)
choice_within r ((fails d, Some q) ∷ []) all e p error is = absurd cc
choice_within r ((fails d, Some q) ∷ a ∷ []) all e p error is = absurd cc
choice_within r ((fails d, Some q) ∷ a ∷ b ∷ []) all e p error is =
    let same : fails d ≡ fails e = cc in found_as r (fails d) (Some q) e p all.0.1 same is
choice_within r ((fails d, Some q) ∷ a ∷ b ∷ x ∷ os) all e p error is = absurd cc

pub call_within : (r : RequestValue) (f : Option Function) (os : List CelPlaced) → AllGood r os → (e : CelError) (p : CelPlace)
    → option_and_then (λ f. option_and_then (function_answer f) (Some (map (λ a. a.0) os))) f ≡ Some (fails e)
    → call_place f os ≡ Some p → placed r (place_around p) p.part ≡ with_place (fails e) (Some p)
call_within r None os all e p error is = absurd cc
call_within r (Some functions.Conditional) os all e p error is = choice_within r os all e p error is
call_within r (Some f) os all e p error is =
    let found = first_found r os all p is in
    let own = function_error f refl (map (λ a. a.0) os) found.0 found.1 (ap fails_with error) in
    let both : Some (fails found.0) ≡ Some (fails e) = sym own ∙ error in
    let same : found.0 ≡ e = cc in rw (← same) found.2

pub select_within : (r : RequestValue) (root : Option (List ℕ)) (o : Option CelPlaced) (name : List ℕ) (test_only : Bool)
    → ((a : CelPlaced) → o ≡ Some a → IsGood r a) → (e : CelError) (p : CelPlace)
    → select_answer r root (answer_of o) name test_only ≡ Some (fails e) → select_place root o ≡ Some p
    → placed r (place_around p) p.part ≡ with_place (fails e) (Some p)
select_within r (Some root) o name test_only good e p error is = absurd cc
select_within r None None name test_only good e p error is = absurd cc
select_within r None (Some (value v, s)) name test_only good e p error is =
    absurd (let no : is_some s ≡ false = (good (value v, s) refl).0 in
    let clash : true ≡ false = sym (ap is_some is) ∙ no in cc)
select_within r None (Some (fails d, s)) name true good e p error is =
    let same : fails d ≡ fails e = cc in found_as r (fails d) s e p (good (fails d, s) refl).1 same is
select_within r None (Some (fails d, s)) name false good e p error is =
    let same : fails d ≡ fails e = cc in found_as r (fails d) s e p (good (fails d, s) refl).1 same is

pub name_within : (r : RequestValue) (name : List ℕ) (o : Option CelPlaced) → ((a : CelPlaced) → o ≡ Some a → IsFound r a)
    → (e : CelError) (p : CelPlace) → name_answer r name (answer_of o) ≡ Some (fails e) → place_of o ≡ Some p
    → placed r (place_around p) p.part ≡ with_place (fails e) (Some p)
name_within r name None found e p error is = absurd cc
name_within r name (Some (a, s)) found e p error is =
    let same : a ≡ fails e = cc in found_as r a s e p (found (a, s) refl) same is
