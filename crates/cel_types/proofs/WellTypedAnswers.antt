-- A well typed expression has an answer of its type, whatever the locals of those types come to.
use Rattle.std.proofs.Common.{◌≡◌, suc, ℕ, ℤ, pos, Bool, true, false, cond, nat_eq, List, [], ◌∷◌, ◌++◌, length, map, Option, Some, None, option_map, refl, ap}
use Rattle.std.specs.Option.{option_and_then}
use Rattle.std.proofs.lemmas.Option.{none-some}
use Rattle.attributes.specs.Request.{IsRequest, RequestValue}
use Rattle.cel_value.specs.Types.{AnswerHasType, EachEntry, EachItem, HasType, KeyHasType, ValueType, bool_type, int_type, list_type, map_type, type_of_key}
use Rattle.cel_value.specs.Values.{CelAnswer, CelEntries, CelValue, CelValues, bool, entry, fails, int, item, list, map_of, no_entries, no_items, value}
use Rattle.cel_value.specs.declared.cel_type.KeyType.{KeyType}
use Rattle.cel_value.specs.declared.cel_type.KeyType.TheVariants as keys
use Rattle.cel_value.specs.declared.error.CelError.TheVariants.{Overflow}
use Rattle.cel_ops.specs.Arithmetic.{int_answer, is_int64}
use Rattle.cel_ops.specs.Collections.{elements_of, field_of, has_field_of, keyed, numbered}
use Rattle.cel_ops.specs.Typed.{Answers, EachHasType, ElementsHaveType, PairsHaveType}
use Rattle.cel_ops.proofs.AttributeTypes.{attribute_typed_fact}
use Rattle.cel_ops.proofs.Numbers.{int64_fits}
use Rattle.cel_ops.proofs.Typing.{elements_typed, field_typed, has_field_typed, key_typed, list_typed, map_typed, one}
use Rattle.cel_overload.specs.Answers.{HaveTypes}
use Rattle.cel_overload.proofs.TypedCalls.{overload_typed_fact}
use Rattle.cel_types.specs.Elaborated.{TypedTree, TypedTrees, kind, kinds, no_typed, typed, typed_attribute, typed_call, typed_constant, typed_field, typed_has, typed_list, typed_local, typed_loop, typed_map}
use Rattle.cel_types.specs.Meaning.{before, fold, one_each, over, turn, turns_of}
use Rattle.cel_types.specs.TypedMeaning.{local_at, typed_answer, typed_answers}
use Rattle.cel_types.specs.Typing.{IsOver}
use Rattle.cel_types.specs.declared.typed.Variables.{Variables}
use Rattle.cel_types.specs.declared.typed.Variables.TheVariants as variables
use Rattle.cel_types.specs.WellTyped.{AreAll, AreKeyed, AreWellTyped, IsWellTyped}

-- there is an answer for each, of the type at its place
abbrev pub HaveAnswers : Option (List CelAnswer) → List ValueType → Type 0
HaveAnswers None ts = ⊥
HaveAnswers (Some answers) ts = HaveTypes answers ts

-- ---- locals

lengths : (ls : List CelAnswer) (ks : List ValueType) → HaveTypes ls ks → length ls ≡ length ks
lengths [] [] h = refl
lengths [] (k ∷ ks) h = absurd h
lengths (a ∷ ls) [] h = absurd h
lengths (a ∷ ls) (k ∷ ks) h = ap suc (lengths ls ks h.1)

local_typed : (outside : ℕ) (ls : List CelAnswer) (ks : List ValueType) (t : ValueType)
    → HaveTypes ls ks → local_at outside ks ≡ Some t → Answers (local_at outside ls) t
local_typed n [] [] t h e = absurd (none-some t e)
local_typed n [] (k ∷ ks) t h e = absurd h
local_typed n (a ∷ ls) [] t h e = absurd h
local_typed n (a ∷ ls) (k ∷ ks) t h e =
    rw (lengths ls ks h.1) (at (local_typed n ls ks t h.1) (nat_eq n (length ks)) e)
  where
    at : (local_at n ks ≡ Some t → Answers (local_at n ls) t)
        → (b : Bool) → cond b (Some k) (local_at n ks) ≡ Some t
        → Answers (cond b (Some a) (local_at n ls)) t
    at more true e = let same : k ≡ t = cc in rw (← same) (h.0)
    at more false e = more e

-- ---- operands and elements

then_typed : (f : CelAnswer → Option CelAnswer) (o : Option CelAnswer) (s t : ValueType)
    → Answers o s → ((a : CelAnswer) → AnswerHasType a s → Answers (f a) t)
    → Answers (option_and_then f o) t
then_typed f None s t h each = absurd h
then_typed f (Some a) s t h each = each a h

all_then_typed : (f : List CelAnswer → Option CelAnswer) (o : Option (List CelAnswer))
    (ts : List ValueType) (t : ValueType) → HaveAnswers o ts
    → ((answers : List CelAnswer) → HaveTypes answers ts → Answers (f answers) t)
    → Answers (option_and_then f o) t
all_then_typed f None ts t h each = absurd h
all_then_typed f (Some answers) ts t h each = each answers h

before_typed : (o : Option CelAnswer) (os : Option (List CelAnswer)) (t : ValueType)
    (ts : List ValueType) → Answers o t → HaveAnswers os ts → HaveAnswers (before o os) (t ∷ ts)
before_typed None os t ts h hs = absurd h
before_typed (Some a) None t ts h hs = absurd hs
before_typed (Some a) (Some answers) t ts h hs = (h, hs)

each_typed : (answers : List CelAnswer) (ts : List ValueType) (t : ValueType) → AreAll t ts
    → HaveTypes answers ts → EachHasType answers t
each_typed [] [] t all h = tt
each_typed [] (s ∷ ts) t all h = absurd h
each_typed (a ∷ answers) [] t all h = absurd h
each_typed (a ∷ answers) (s ∷ ts) t all h =
    (rw (← all.0) (h.0), each_typed answers ts t all.1 h.1)

pairs_typed : (answers : List CelAnswer) (ts : List ValueType) (k : KeyType) (t : ValueType)
    → AreKeyed k t ts → HaveTypes answers ts → PairsHaveType answers k t
pairs_typed [] [] k t all h = tt
pairs_typed [] (r ∷ ts) k t all h = absurd h
pairs_typed (a ∷ answers) [] k t all h = absurd h
pairs_typed (a ∷ []) (r ∷ []) k t all h = absurd all
pairs_typed (a ∷ b ∷ answers) (r ∷ []) k t all h = absurd all
pairs_typed (a ∷ []) (r ∷ s ∷ ts) k t all h = absurd h.1
pairs_typed (a ∷ b ∷ answers) (r ∷ s ∷ ts) k t all h =
    (rw (← all.0) (h.0), rw (← all.1) (h.1.0), pairs_typed answers ts k t all.2 h.1.1)

-- ---- comprehensions

turn_typed : (condition step : Option CelAnswer) (next : CelAnswer → Option CelAnswer)
    (ended : Option CelAnswer) (g t : ValueType) → Answers condition bool_type → Answers step g
    → ((a : CelAnswer) → AnswerHasType a g → Answers (next a) t) → Answers ended t
    → Answers (turn condition step next ended) t
turn_typed None step next ended g t c s n e = absurd c
turn_typed (Some (fails d)) step next ended g t c s n e = tt
turn_typed (Some (value (bool true))) None next ended g t c s n e = absurd s
turn_typed (Some (value (bool true))) (Some a) next ended g t c s n e = n a s
turn_typed (Some (value (bool false))) step next ended g t c s n e = e
turn_typed (Some (value _)) step next ended g t c s n e = absurd c

-- in each turn, the variables get answers of these types
abbrev pub TurnsHaveTypes : List (List CelAnswer) → List ValueType → Type 0
TurnsHaveTypes [] each = Unit {0}
TurnsHaveTypes (vs ∷ turns) each = HaveTypes vs each × TurnsHaveTypes turns each

-- there are turns, and in each of them the variables get answers of these types
abbrev pub WalkHasTypes : Option (List (List CelAnswer)) → List ValueType → Type 0
WalkHasTypes None each = ⊥
WalkHasTypes (Some turns) each = TurnsHaveTypes turns each

-- answers of their types before others of theirs
pub all_have_types : (vs ls : List CelAnswer) (each ks : List ValueType) → HaveTypes vs each
    → HaveTypes ls ks → HaveTypes (vs ++ ls) (each ++ ks)
all_have_types [] ls [] ks h more = more
all_have_types [] ls (t ∷ each) ks h more = absurd h
all_have_types (v ∷ vs) ls [] ks h more = absurd h
all_have_types (v ∷ vs) ls (t ∷ each) ks h more = (h.0, all_have_types vs ls each ks h.1 more)

pub fold_typed : (condition step : List CelAnswer → CelAnswer → Option CelAnswer)
    (result : CelAnswer → Option CelAnswer) (each : List ValueType) (g t : ValueType)
    → ((vs : List CelAnswer) (a : CelAnswer) → HaveTypes vs each → AnswerHasType a g
    → Answers (condition vs a) bool_type)
    → ((vs : List CelAnswer) (a : CelAnswer) → HaveTypes vs each → AnswerHasType a g
    → Answers (step vs a) g)
    → ((a : CelAnswer) → AnswerHasType a g → Answers (result a) t)
    → (turns : List (List CelAnswer)) (a : CelAnswer) → TurnsHaveTypes turns each → AnswerHasType a g
    → Answers (fold condition step result turns a) t
fold_typed condition step result each g t c s r [] a have h = r a h
fold_typed condition step result each g t c s r (vs ∷ turns) a have h =
    turn_typed (condition vs a) (step vs a) (fold condition step result turns) (result a) g t
    (c vs a have.0 h) (s vs a have.0 h)
    (λ b more. fold_typed condition step result each g t c s r turns b have.1 more) (r a h)

-- ---- what the variables get

-- an int or an error
int_typed : (z : ℤ) → AnswerHasType (int_answer z) int_type
int_typed z = at (is_int64 z) refl
  where
    at : (b : Bool) → is_int64 z ≡ b → AnswerHasType (cond b (value (int z)) (fails Overflow)) int_type
    at true e = int64_fits z e
    at false e = tt

one_typed : (vs : CelValues) (t : ValueType) → EachItem (λ v. HasType v t) vs
    → TurnsHaveTypes (one_each vs) (t ∷ [])
one_typed no_items t h = tt
one_typed (item v vs) t h = ((h.0, tt), one_typed vs t h.1)

one_walk_typed : (found : Option CelValues) (t : ValueType) → ElementsHaveType found t
    → WalkHasTypes (option_map one_each found) (t ∷ [])
one_walk_typed None t h = absurd h
one_walk_typed (Some vs) t h = one_typed vs t h

numbered_typed : (n : ℕ) (vs : CelValues) (t : ValueType) → EachItem (λ v. HasType v t) vs
    → TurnsHaveTypes (map (λ pair. value pair.1 ∷ pair.0 ∷ []) (numbered n vs)) (t ∷ int_type ∷ [])
numbered_typed n no_items t h = tt
numbered_typed n (item v vs) t h = ((h.0, (int_typed (pos n), tt)), numbered_typed (suc n) vs t h.1)

keyed_typed : (k : KeyType) (t : ValueType) (es : CelEntries)
    → EachEntry (λ j. KeyHasType j k) (λ v. HasType v t) es
    → TurnsHaveTypes (map (λ pair. value pair.1 ∷ pair.0 ∷ []) (keyed es)) (t ∷ type_of_key k ∷ [])
keyed_typed k t no_entries h = tt
keyed_typed k t (entry j v es) h = ((h.1, (key_typed k j h.0, tt)), keyed_typed k t es h.2)

-- what the variables get from a value that is walked over
pub walked_typed : (vars : Variables) (w : ValueType) (each : List ValueType) → IsOver vars w each
    → (v : CelValue) → HasType v w → WalkHasTypes (turns_of vars v) each
walked_typed variables.One (list_type s) each is (list vs) h = rw is (one_typed vs s h)
walked_typed variables.One (map_type k s) each is v h =
    rw is (one_walk_typed (elements_of v) (type_of_key k) (elements_typed k s v h))
walked_typed variables.Two (list_type s) each is (list vs) h = rw is (numbered_typed 0 vs s h)
walked_typed variables.Two (map_type k s) each is (map_of es) h = rw is (keyed_typed k s es h.0)
walked_typed variables.One (list_type s) each is _ h = absurd h
walked_typed variables.Two (list_type s) each is _ h = absurd h
walked_typed variables.Two (map_type k s) each is _ h = absurd h
walked_typed variables.One _ each is v h = absurd is
walked_typed variables.Two _ each is v h = absurd is

over_typed : (vars : Variables) (o : Option CelAnswer) (go : List (List CelAnswer) → Option CelAnswer)
    (w t : ValueType) (each : List ValueType) → IsOver vars w each → Answers o w
    → ((turns : List (List CelAnswer)) → TurnsHaveTypes turns each → Answers (go turns) t)
    → Answers (over vars o go) t
over_typed vars None go w t each is h have = absurd h
over_typed vars (Some (fails e)) go w t each is h have = tt
over_typed vars (Some (value v)) go w t each is h have =
    at (turns_of vars v) (walked_typed vars w each is v h)
  where
    at : (found : Option (List (List CelAnswer))) → WalkHasTypes found each
        → Answers (option_and_then go found) t
    at None walked = absurd walked
    at (Some turns) walked = have turns walked

-- ---- expressions

module _ (request : RequestValue) (sound : IsRequest request) where
  mutual
    typed_here : (e : TypedTree) (ks : List ValueType) (ls : List CelAnswer) → HaveTypes ls ks
        → IsWellTyped ks e → Answers (typed_answer e request ls) (kind e)
    typed_here (typed_constant t v) ks ls h g = g.1
    typed_here (typed_local t outside) ks ls h g = local_typed outside ls ks t h g
    typed_here (typed_attribute t a) ks ls h g = rw g (attribute_typed_fact request sound a)
    typed_here (typed_field t on name) ks ls h g =
        then_typed _ (typed_answer on request ls) (map_type keys.Text t) t
        (rw (← g.1) (typed_here on ks ls h g.0))
        (one (field_of name) (map_type keys.Text t) t (field_typed keys.Text t name))
    typed_here (typed_has t on name) ks ls h g = rw (g.2)
        (then_typed _ (typed_answer on request ls) (map_type keys.Text g.1.0) bool_type
        (rw (← g.1.1) (typed_here on ks ls h g.0))
        (one (has_field_of name) (map_type keys.Text g.1.0) bool_type
        (has_field_typed keys.Text g.1.0 name)))
    typed_here (typed_call t o operands) ks ls h g =
        all_then_typed _ (typed_answers operands request ls) (kinds operands) t
        (all_typed_here operands ks ls h g.0)
        (λ answers have. overload_typed_fact o (kinds operands) t answers g.1 have)
    typed_here (typed_list t elements) ks ls h g = rw (g.1.1)
        (all_then_typed _ (typed_answers elements request ls) (kinds elements) (list_type g.1.0)
        (all_typed_here elements ks ls h g.0)
        (λ answers have. list_typed g.1.0 answers
        (each_typed answers (kinds elements) g.1.0 g.1.2 have)))
    typed_here (typed_map t pairs) ks ls h g = rw (g.1.2)
        (all_then_typed _ (typed_answers pairs request ls) (kinds pairs) (map_type g.1.0 g.1.1)
        (all_typed_here pairs ks ls h g.0)
        (λ answers have. map_typed g.1.0 g.1.1 answers
        (pairs_typed answers (kinds pairs) g.1.0 g.1.1 g.1.3 have)))
    typed_here (typed_loop t vars range init condition step result) ks ls h g =
        let each = g.2.0 in
        rw (g.4)
        (over_typed vars (typed_answer range request ls) _ (kind range) (kind result) each g.2.1
        (typed_here range ks ls h g.0)
        (λ turns have. then_typed _ (typed_answer init request ls) (kind init) (kind result)
        (typed_here init ks ls h g.1)
        (λ a gathered. fold_typed _ _ _ each (kind init) (kind result)
        (λ vs b hv hb. rw (← g.2.3) (typed_here condition (each ++ kind init ∷ ks) (vs ++ b ∷ ls)
        (all_have_types vs (b ∷ ls) each (kind init ∷ ks) hv (hb, h)) g.2.2))
        (λ vs b hv hb. rw (← g.2.5) (typed_here step (each ++ kind init ∷ ks) (vs ++ b ∷ ls)
        (all_have_types vs (b ∷ ls) each (kind init ∷ ks) hv (hb, h)) g.2.4))
        (λ b hb. typed_here result (kind init ∷ ks) (b ∷ ls) (hb, h) g.3)
        turns a have gathered)))

    all_typed_here : (es : TypedTrees) (ks : List ValueType) (ls : List CelAnswer)
        → HaveTypes ls ks → AreWellTyped ks es → HaveAnswers (typed_answers es request ls) (kinds es)
    all_typed_here no_typed ks ls h g = tt
    all_typed_here (typed e es) ks ls h g =
        before_typed (typed_answer e request ls) (typed_answers es request ls) (kind e) (kinds es)
        (typed_here e ks ls h g.0) (all_typed_here es ks ls h g.1)

-- an answer that there is
the_answer : (o : Option CelAnswer) (t : ValueType) → Answers o t
    → (a : CelAnswer) × (o ≡ Some a) × AnswerHasType a t
the_answer None t h = absurd h
the_answer (Some a) t h = (a, refl, h)

the_answers : (o : Option (List CelAnswer)) (ts : List ValueType) → HaveAnswers o ts
    → (answers : List CelAnswer) × (o ≡ Some answers) × HaveTypes answers ts
the_answers None ts h = absurd h
the_answers (Some answers) ts h = (answers, refl, h)

-- an expression has an answer of its type
pub answer_typed : (r : RequestValue) → IsRequest r → (e : TypedTree) (ks : List ValueType)
    (ls : List CelAnswer) → HaveTypes ls ks → IsWellTyped ks e
    → (a : CelAnswer) × (typed_answer e r ls ≡ Some a) × AnswerHasType a (kind e)
answer_typed r sound e ks ls h g =
    the_answer (typed_answer e r ls) (kind e) (typed_here r sound e ks ls h g)

-- and so do expressions one after the other
pub answers_typed : (r : RequestValue) → IsRequest r → (es : TypedTrees) (ks : List ValueType)
    (ls : List CelAnswer) → HaveTypes ls ks → AreWellTyped ks es
    → (answers : List CelAnswer) × (typed_answers es r ls ≡ Some answers)
    × HaveTypes answers (kinds es)
answers_typed r sound es ks ls h g =
    the_answers (typed_answers es r ls) (kinds es) (all_typed_here r sound es ks ls h g)
