-- An elaboration means what its expression means: names and numbers of locals say the same, and so do
-- functions and overloads on operands of the overload's types.
use Rattle.std.proofs.Common.{◌≡◌, suc, ℕ, Bool, true, false, cond, is_some, List, [], ◌∷◌, ◌++◌, length, map, Option, Some, None, option_map, refl, sym, ap, ap₂, ◌∙◌, subst}
use Rattle.std.specs.Option.{option_and_then}
use Rattle.std.specs.Str.{bytes_eq}
use Rattle.attributes.specs.Request.{IsRequest, RequestValue}
use Rattle.attributes.specs.declared.attribute.AttrId.{AttrId}
use Rattle.cel_value.specs.Types.{AnswerHasType, ValueType}
use Rattle.cel_value.specs.Values.{CelAnswer, bool, fails, value}
use Rattle.cel_ops.specs.Attributes.{attribute}
use Rattle.cel_ops.specs.Collections as collections
use Rattle.cel_ops.specs.Typed.{Answers}
use Rattle.cel_overload.specs.Answers.{HaveTypes, function_answer, overload_answer}
use Rattle.cel_tree.specs.GoodConstants.{AreGood, EntriesAreGood, HasGoodConstants, TargetIsGood}
use Rattle.cel_tree.specs.Tree.{CelTree, constant, ident, select, call, list_literal, map_literal, comprehension, CelTarget, no_target, target, CelTrees, no_trees, tree, CelTreeEntries, no_tree_entries, tree_entry}
use Rattle.cel_types.specs.Attributes.{attribute_named}
use Rattle.cel_types.specs.Elaborated.{Elaborates, ElaboratesEach, ElaboratesPairs, ElaboratesTarget, TypedTree, TypedTrees, kind, kinds, no_typed, slot, typed, typed_attribute, typed_call, typed_constant, typed_field, typed_has, typed_list, typed_local, typed_loop, typed_map}
use Rattle.cel_types.specs.Meaning.{Locals, before, eval, eval_each, eval_entries, eval_target, fold, name_answer, over, select_answer, turn, turns_of}
use Rattle.cel_types.specs.Names.{Scope, bound, is_root, joined_name, local, root_of, turn_scope, variable_names, variables_of}
use Rattle.cel_types.specs.TypedMeaning.{typed_answer, typed_answers}
use Rattle.cel_types.specs.Typing.{IsOver, Kinds, Maps, SelectRule, Types}
use Rattle.cel_types.specs.declared.typed.Variables.{Variables}
use Rattle.cel_types.proofs.MeansCalls.{call_same}
use Rattle.cel_types.proofs.TurnScopes.{known_turn, over_length, scoped, scoped_turn}
use Rattle.cel_types.proofs.WellTypedAnswers.{TurnsHaveTypes, WalkHasTypes, answer_typed, answers_typed, walked_typed}
use Rattle.cel_types.proofs.WellTypedElaborations.{elaborated_typed, known, loop_kinds, no_slot, slot_known}

-- ---- locals in scope, each with what it comes to and with its type

abbrev pub Bound : Type 0
Bound = CelAnswer × ValueType

abbrev pub locals_of : Scope Bound → Locals
locals_of = scoped (λ b. b.0)

abbrev pub kinds_of : Scope Bound → Kinds
kinds_of = scoped (λ b. b.1)

-- each local's answer has its type
abbrev pub AreTyped : Scope Bound → Type 0
AreTyped [] = Unit {0}
AreTyped (l ∷ ls) = AnswerHasType l.1.0 l.1.1 × AreTyped ls

have_types : (ls : Scope Bound) → AreTyped ls
    → HaveTypes (known (locals_of ls)) (known (kinds_of ls))
have_types [] h = tt
have_types (l ∷ ls) h = (h.0, have_types ls h.1)

scoped_length : {A B : Type 0} (f : A → B) (ls : Scope A) → length (scoped f ls) ≡ length ls
scoped_length f [] = refl
scoped_length f (l ∷ ls) = ap suc (scoped_length f ls)

slot_scoped : {A B : Type 0} (f : A → B) (name : List ℕ) (ls : Scope A)
    → slot name (scoped f ls) ≡ slot name ls
slot_scoped f name [] = refl
slot_scoped f name (l ∷ ls) =
    ap₂ (cond (bytes_eq l.0 name)) (ap Some (scoped_length f ls)) (slot_scoped f name ls)

-- a local's slot is the same by types and by answers
slots_same : (name : List ℕ) (ls : Scope Bound) → slot name (locals_of ls) ≡ slot name (kinds_of ls)
slots_same name ls = slot_scoped (λ b. b.0) name ls ∙ sym (slot_scoped (λ b. b.1) name ls)

found_scoped : {A B : Type 0} (f : A → B) (name : List ℕ) (ls : Scope A)
    → is_some (local name (scoped f ls)) ≡ is_some (local name ls)
found_scoped f name [] = refl
found_scoped {A} {B} f name (l ∷ ls) = at (found_scoped f name ls) (bytes_eq l.0 name)
  where
    at : is_some (local name (scoped f ls)) ≡ is_some (local name ls) → (b : Bool)
        → is_some (cond b (Some (f l.1)) (local name (scoped f ls)))
        ≡ is_some (cond b (Some l.1) (local name ls))
    at more true = refl
    at more false = more

root_scoped : {A B : Type 0} (f : A → B) (t : CelTree) (ls : Scope A)
    → root_of t (scoped f ls) ≡ root_of t ls
root_scoped f (ident id name) ls =
    ap (λ hidden. cond (cond hidden false (is_root name)) (Some name) None) (found_scoped f name ls)
root_scoped f _ ls = refl

-- an expression names a root by types where it does so by answers
roots_same : (t : CelTree) (ls : Scope Bound) → root_of t (locals_of ls) ≡ root_of t (kinds_of ls)
roots_same t ls = root_scoped (λ b. b.0) t ls ∙ sym (root_scoped (λ b. b.1) t ls)

-- ---- comprehensions whose parts mean the same

turn_same : (condition step : Option CelAnswer) (next others : CelAnswer → Option CelAnswer)
    (ended : Option CelAnswer) (g : ValueType) → Answers step g
    → ((a : CelAnswer) → AnswerHasType a g → next a ≡ others a)
    → turn condition step next ended ≡ turn condition step others ended
turn_same None step next others ended g h same = refl
turn_same (Some (fails e)) step next others ended g h same = refl
turn_same (Some (value (bool true))) None next others ended g h same = refl
turn_same (Some (value (bool true))) (Some a) next others ended g h same = same a h
turn_same (Some (value (bool false))) step next others ended g h same = refl
turn_same (Some (value _)) step next others ended g h same = refl

module _ (condition condition' step step' : List CelAnswer → CelAnswer → Option CelAnswer)
    (result result' : CelAnswer → Option CelAnswer) (each : List ValueType) (g : ValueType)
    (conditions : (vs : List CelAnswer) (a : CelAnswer) → HaveTypes vs each → AnswerHasType a g
    → condition vs a ≡ condition' vs a)
    (steps : (vs : List CelAnswer) (a : CelAnswer) → HaveTypes vs each → AnswerHasType a g
    → step vs a ≡ step' vs a)
    (results : (a : CelAnswer) → AnswerHasType a g → result a ≡ result' a)
    (stays : (vs : List CelAnswer) (a : CelAnswer) → HaveTypes vs each → AnswerHasType a g
    → Answers (step' vs a) g) where
  -- parts that mean the same for answers of their types make the same fold
  fold_same : (turns : List (List CelAnswer)) (a : CelAnswer) → TurnsHaveTypes turns each
      → AnswerHasType a g → fold condition step result turns a ≡ fold condition' step' result' turns a
  fold_same [] a have h = results a h
  fold_same (vs ∷ turns) a have h =
      rw (conditions vs a have.0 h, steps vs a have.0 h, results a h)
      (turn_same (condition' vs a) (step' vs a) (fold condition step result turns)
      (fold condition' step' result' turns) (result' a) g (stays vs a have.0 h)
      (λ b more. fold_same turns b have.1 more))

over_same : (vars : Variables) (o : Option CelAnswer)
    (go others : List (List CelAnswer) → Option CelAnswer) (w : ValueType) (each : List ValueType)
    → IsOver vars w each → Answers o w
    → ((turns : List (List CelAnswer)) → TurnsHaveTypes turns each → go turns ≡ others turns)
    → over vars o go ≡ over vars o others
over_same vars None go others w each is h same = refl
over_same vars (Some (fails e)) go others w each is h same = refl
over_same vars (Some (value v)) go others w each is h same =
    at (turns_of vars v) (walked_typed vars w each is v h)
  where
    at : (found : Option (List (List CelAnswer))) → WalkHasTypes found each
        → option_and_then go found ≡ option_and_then others found
    at None have = refl
    at (Some turns) have = same turns have

then_same : (o : Option CelAnswer) (go others : CelAnswer → Option CelAnswer) (t : ValueType)
    → Answers o t → ((a : CelAnswer) → AnswerHasType a t → go a ≡ others a)
    → option_and_then go o ≡ option_and_then others o
then_same None go others t h same = refl
then_same (Some a) go others t h same = same a h

-- ---- the locals of a turn

-- answers, each with its type
abbrev paired : List CelAnswer → List ValueType → List Bound
paired [] each = []
paired (v ∷ vs) [] = []
paired (v ∷ vs) (t ∷ each) = (v, t) ∷ paired vs each

first_paired : (vs : List CelAnswer) (each : List ValueType) → HaveTypes vs each
    → map (λ b. b.0) (paired vs each) ≡ vs
first_paired [] each h = refl
first_paired (v ∷ vs) [] h = absurd h
first_paired (v ∷ vs) (t ∷ each) h = ap (λ l. v ∷ l) (first_paired vs each h.1)

second_paired : (vs : List CelAnswer) (each : List ValueType) → HaveTypes vs each
    → map (λ b. b.1) (paired vs each) ≡ each
second_paired [] [] h = refl
second_paired [] (t ∷ each) h = absurd h
second_paired (v ∷ vs) [] h = absurd h
second_paired (v ∷ vs) (t ∷ each) h = ap (λ l. t ∷ l) (second_paired vs each h.1)

have_length : (vs : List CelAnswer) (each : List ValueType) → HaveTypes vs each
    → length vs ≡ length each
have_length [] [] h = refl
have_length [] (t ∷ each) h = absurd h
have_length (v ∷ vs) [] h = absurd h
have_length (v ∷ vs) (t ∷ each) h = ap suc (have_length vs each h.1)

-- answers of their types at names, before locals of theirs
bound_typed : (names : List (List ℕ)) (vs : List CelAnswer) (each : List ValueType) (ls : Scope Bound)
    → HaveTypes vs each → AreTyped ls → AreTyped (bound names (paired vs each) ++ ls)
bound_typed [] vs each ls h more = more
bound_typed (name ∷ names) [] each ls h more = more
bound_typed (name ∷ names) (v ∷ vs) [] ls h more = absurd h
bound_typed (name ∷ names) (v ∷ vs) (t ∷ each) ls h more =
    (h.0, bound_typed names vs each ls h.1 more)

module _ (x y acc : List ℕ) (w : ValueType) (each : List ValueType) (is : IsOver (variables_of y) w each)
    (g : ValueType) (ls : Scope Bound) (typed_around : AreTyped ls) where
  -- the locals of a turn, each with its answer and its type
  abbrev inside : List CelAnswer → CelAnswer → Scope Bound
  inside vs a = turn_scope x y acc (paired vs each) (a, g) ls

  inside_typed : (vs : List CelAnswer) (a : CelAnswer) → HaveTypes vs each → AnswerHasType a g
      → AreTyped (inside vs a)
  inside_typed vs a hv ha =
      bound_typed (variable_names x y) vs each ((acc, (a, g)) ∷ ls) hv (ha, typed_around)

  inside_answers : (vs : List CelAnswer) (a : CelAnswer) → HaveTypes vs each
      → locals_of (inside vs a) ≡ turn_scope x y acc vs a (locals_of ls)
  inside_answers vs a hv =
      scoped_turn (λ b. b.0) x y acc (paired vs each) (a, g) ls
      ∙ ap (λ l. turn_scope x y acc l a (locals_of ls)) (first_paired vs each hv)

  inside_kinds : (vs : List CelAnswer) (a : CelAnswer) → HaveTypes vs each
      → kinds_of (inside vs a) ≡ turn_scope x y acc each g (kinds_of ls)
  inside_kinds vs a hv =
      scoped_turn (λ b. b.1) x y acc (paired vs each) (a, g) ls
      ∙ ap (λ l. turn_scope x y acc l g (kinds_of ls)) (second_paired vs each hv)

  inside_known : (vs : List CelAnswer) (a : CelAnswer) → HaveTypes vs each
      → known (turn_scope x y acc vs a (locals_of ls)) ≡ vs ++ a ∷ known (locals_of ls)
  inside_known vs a hv =
      known_turn x y acc vs a (locals_of ls) (have_length vs each hv ∙ over_length x y w each is)

  -- a part means the same in a turn, if it does with all locals
  part_same : (m : Maps) (request : RequestValue) (t : CelTree) (e : TypedTree)
      → ((ls : Scope Bound) → AreTyped ls → Elaborates m (kinds_of ls) t e
      → eval t request (locals_of ls) ≡ typed_answer e request (known (locals_of ls)))
      → Elaborates m (turn_scope x y acc each g (kinds_of ls)) t e
      → (vs : List CelAnswer) (a : CelAnswer) → HaveTypes vs each → AnswerHasType a g
      → eval t request (turn_scope x y acc vs a (locals_of ls))
      ≡ typed_answer e request (vs ++ a ∷ known (locals_of ls))
  part_same m request t e same of vs a hv ha =
      subst (λ l. eval t request l ≡ typed_answer e request (known l)) (inside_answers vs a hv)
      (same (inside vs a) (inside_typed vs a hv ha)
      (subst (λ ks. Elaborates m ks t e) (sym (inside_kinds vs a hv)) of))
      ∙ ap (typed_answer e request) (inside_known vs a hv)

  -- so it answers with its type
  part_typed : (m : Maps) (request : RequestValue) (t : CelTree) (e : TypedTree)
      → ((ls : Scope Bound) → AreTyped ls → Elaborates m (kinds_of ls) t e
      → Answers (typed_answer e request (known (locals_of ls))) (kind e))
      → Elaborates m (turn_scope x y acc each g (kinds_of ls)) t e
      → (vs : List CelAnswer) (a : CelAnswer) → HaveTypes vs each → AnswerHasType a g
      → Answers (typed_answer e request (vs ++ a ∷ known (locals_of ls))) (kind e)
  part_typed m request t e has of vs a hv ha =
      subst (λ l. Answers (typed_answer e request l) (kind e))
      (ap known (inside_answers vs a hv) ∙ inside_known vs a hv)
      (has (inside vs a) (inside_typed vs a hv ha)
      (subst (λ ks. Elaborates m ks t e) (sym (inside_kinds vs a hv)) of))

-- ---- calls and Selects

call_means : (f : List CelAnswer → Option CelAnswer) (g : List CelAnswer → Option CelAnswer)
    (o : Option (List CelAnswer)) (answers : List CelAnswer) → o ≡ Some answers
    → f answers ≡ g answers → option_and_then f o ≡ option_and_then g o
call_means f g o answers is same = rw is same

select_attribute : (request : RequestValue) (root name : List ℕ) (Operand : ValueType → Type 0)
    (operand : Option CelAnswer) (test_only : Bool) (t : ValueType) (a : AttrId)
    → SelectRule (Some root) Operand name test_only t
    → attribute_named (joined_name root name) ≡ Some a
    → select_answer request (Some root) operand name test_only ≡ Some (attribute request a)
select_attribute request root name Operand operand true t a rule is = absurd rule
select_attribute request root name Operand operand false t a rule is =
    ap (option_map (attribute request)) is

-- ---- expressions

module _ (m : Maps) (request : RequestValue) (sound : IsRequest request) where
  -- an elaboration answers with its type
  has_type : (t : CelTree) (e : TypedTree) (ls : Scope Bound) → AreTyped ls → HasGoodConstants t
      → Elaborates m (kinds_of ls) t e
      → Answers (typed_answer e request (known (locals_of ls))) (kind e)
  has_type t e ls h good g =
      let a = answer_typed request sound e (known (kinds_of ls)) (known (locals_of ls))
      (have_types ls h) (elaborated_typed m (kinds_of ls) t e good g) in
      rw (a.1) (a.2)

  mutual
    pub means_same : (t : CelTree) (e : TypedTree) (ls : Scope Bound) → AreTyped ls
        → HasGoodConstants t → Elaborates m (kinds_of ls) t e
        → eval t request (locals_of ls) ≡ typed_answer e request (known (locals_of ls))
    means_same (constant id v) (typed_constant t w) ls h good g = ap (λ v. Some (value v)) g.1
    means_same (constant id v) _ ls h good g = absurd g
    means_same (ident id name) (typed_local t outside) ls h good g =
        let found = slot_known name (locals_of ls) outside (slots_same name ls ∙ g.1) in
        ap (name_answer request name) found.1 ∙ sym found.2
    means_same (ident id name) (typed_attribute t a) ls h good g =
        ap (name_answer request name) (no_slot name (locals_of ls) (slots_same name ls ∙ g.1))
        ∙ ap (option_map (attribute request)) g.2
    means_same (ident id name) _ ls h good g = absurd g
    means_same (select id operand name test_only) (typed_attribute t a) ls h good g =
        ap (λ root. select_answer request root (eval operand request (locals_of ls)) name test_only)
        (roots_same operand ls ∙ g.2)
        ∙ select_attribute request g.1 name (Types m (kinds_of ls) operand)
        (eval operand request (locals_of ls)) test_only t a
        (subst (λ o. SelectRule o (Types m (kinds_of ls) operand) name test_only t) g.2 g.0) g.3
    means_same (select id operand name test_only) (typed_field t on field_name) ls h good g =
        rw (roots_same operand ls, g.2, g.1, g.3, means_same operand on ls h good g.4) refl
    means_same (select id operand name test_only) (typed_has t on field_name) ls h good g =
        rw (roots_same operand ls, g.2, g.1, g.3, means_same operand on ls h good g.4) refl
    means_same (select id operand name test_only) _ ls h good g = absurd g
    means_same (call id name on args) (typed_call t o operands) ls h good g =
        let ready = elaborated_typed m (kinds_of ls) (call id name on args)
        (typed_call t o operands) good g in
        let found = answers_typed request sound operands (known (kinds_of ls))
        (known (locals_of ls)) (have_types ls h) ready.0 in
        rw (
          target_same on args operands ls h good.0 (λ es each. each_same args es ls h good.1 each)
              g.2,
          g.1.1,
        )
        (call_means (function_answer g.1.0) (overload_answer o)
        (typed_answers operands request (known (locals_of ls))) found.0 found.1
        (call_same g.1.0 _ (kinds operands) o t found.0 g.1.2 found.2))
    means_same (call id name on args) _ ls h good g = absurd g
    means_same (list_literal id elements) (typed_list t es) ls h good g =
        ap (option_and_then collections.list_literal) (each_same elements es ls h good g.1)
    means_same (list_literal id elements) _ ls h good g = absurd g
    means_same (map_literal id entries) (typed_map t pairs) ls h good g =
        ap (option_and_then collections.map_literal) (pairs_same entries pairs ls h good g.1)
    means_same (map_literal id entries) _ ls h good g = absurd g
    means_same (comprehension id x y acc range init condition step result)
        (typed_loop t vars r i c s e) ls h good g =
        let of = loop_kinds m (kinds_of ls) id x y acc range init condition step result t vars r i c s e g in
        let is = subst (λ v. IsOver v (kind r) g.2) g.1 g.4 in
        let at_end = λ (a : CelAnswer). (acc, (a, g.3)) ∷ ls in
        rw (means_same range r ls h good.0 g.6, means_same init i ls h good.1 g.7, g.1)
        (over_same (variables_of y) (typed_answer r request (known (locals_of ls))) _ _ (kind r) g.2 is
        (has_type range r ls h good.0 g.6)
        (λ turns have. then_same (typed_answer i request (known (locals_of ls))) _ _ (kind i)
        (has_type init i ls h good.1 g.7)
        (λ a gathered. fold_same _ _ _ _ _ _ g.2 g.3
        (part_same x y acc (kind r) g.2 is g.3 ls h m request condition c
        (λ at ht gt. means_same condition c at ht good.2 gt) g.8)
        (part_same x y acc (kind r) g.2 is g.3 ls h m request step s
        (λ at ht gt. means_same step s at ht good.3 gt) g.9)
        (λ b hb. means_same result e (at_end b) (hb, h) good.4 g.10)
        (λ vs b hv hb. subst (Answers (typed_answer s request (vs ++ b ∷ known (locals_of ls))))
        (of.1 ∙ g.5)
        (part_typed x y acc (kind r) g.2 is g.3 ls h m request step s
        (λ at ht gt. has_type step s at ht good.3 gt) g.9 vs b hv hb))
        turns a have (subst (AnswerHasType a) g.5 gathered))))
    means_same (comprehension id x y acc range init condition step result) _ ls h good g = absurd g

    target_same : (on : CelTarget) (args : CelTrees) (es : TypedTrees) (ls : Scope Bound)
        → AreTyped ls → TargetIsGood on
        → ((fs : TypedTrees) → ElaboratesEach m (kinds_of ls) args fs
        → eval_each args request (locals_of ls) ≡ typed_answers fs request (known (locals_of ls)))
        → ElaboratesTarget m (kinds_of ls) on (ElaboratesEach m (kinds_of ls) args) es
        → eval_target on request (locals_of ls) (eval_each args request (locals_of ls))
        ≡ typed_answers es request (known (locals_of ls))
    target_same no_target args es ls h good others g = others es g
    target_same (target on) args no_typed ls h good others g = absurd g
    target_same (target on) args (typed e es) ls h good others g =
        ap₂ before (means_same on e ls h good g.0) (others es g.1)

    each_same : (ts : CelTrees) (es : TypedTrees) (ls : Scope Bound) → AreTyped ls → AreGood ts
        → ElaboratesEach m (kinds_of ls) ts es
        → eval_each ts request (locals_of ls) ≡ typed_answers es request (known (locals_of ls))
    each_same no_trees no_typed ls h good g = refl
    each_same no_trees (typed e es) ls h good g = absurd g
    each_same (tree t ts) no_typed ls h good g = absurd g
    each_same (tree t ts) (typed e es) ls h good g =
        ap₂ before (means_same t e ls h good.0 g.0) (each_same ts es ls h good.1 g.1)

    pairs_same : (ts : CelTreeEntries) (es : TypedTrees) (ls : Scope Bound) → AreTyped ls
        → EntriesAreGood ts → ElaboratesPairs m (kinds_of ls) ts es
        → eval_entries ts request (locals_of ls) ≡ typed_answers es request (known (locals_of ls))
    pairs_same no_tree_entries no_typed ls h good g = refl
    pairs_same no_tree_entries (typed e es) ls h good g = absurd g
    pairs_same (tree_entry id key v ts) no_typed ls h good g = absurd g
    pairs_same (tree_entry id key v ts) (typed e no_typed) ls h good g = absurd g
    pairs_same (tree_entry id key v ts) (typed e (typed f es)) ls h good g =
        ap₂ before (means_same key e ls h good.0 g.0)
        (ap₂ before (means_same v f ls h good.1 g.1) (pairs_same ts es ls h good.2 g.2))

-- an expression with an elaboration has an answer of its type
pub meaning_typed : (m : Maps) (request : RequestValue) → IsRequest request → (t : CelTree)
    (e : TypedTree) → HasGoodConstants t → Elaborates m [] t e
    → (a : CelAnswer) × (eval t request [] ≡ Some a) × AnswerHasType a (kind e)
meaning_typed m request sound t e good g =
    let a = answer_typed request sound e [] [] tt (elaborated_typed m [] t e good g) in
    (a.0, means_same m request sound t e [] tt good g ∙ a.1, a.2)
