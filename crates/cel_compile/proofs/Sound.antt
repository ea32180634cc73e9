-- The theorem, by induction on the expression.
use Rattle.std.proofs.Common.{◌≡◌, ℕ, suc, ◌+◌, ◌*◌, ◌≤◌, List, [], ◌∷◌, ◌++◌, length, Option, Some, None, refl, sym, ap, ◌∙◌, subst, arith, slice_get}
use Rattle.std.specs.Option.{option_and_then}
use Rattle.attributes.specs.Limits.{LimitsValue}
use Rattle.attributes.specs.Request.{IsRequest, RequestValue}
use Rattle.cel_value.specs.Masses.{length_of}
use Rattle.cel_value.specs.Types.{AnswerHasType, ValueType, bool_type, list_type, map_type}
use Rattle.cel_value.specs.Values.{CelAnswer, CelValue, CelValues, no_items, no_entries, list, map_of, value, fails}
use Rattle.cel_value.specs.declared.cel_type.KeyType.{KeyType}
use Rattle.cel_value.specs.declared.error.CelError.{CelError}
use Rattle.cel_ops.specs.Charges.{list_literal_charge, loop_charge, map_literal_charge}
use Rattle.cel_ops.specs.Collections.{elements_of, field, has_field, list_literal, map_literal}
use Rattle.cel_ops.specs.Logic.{conjunction, disjunction}
use Rattle.cel_overload.specs.Answers.{HaveTypes, conditional, on_two, overload_answer}
use Rattle.cel_overload.specs.private.Charges.{overload_charge}
use Rattle.cel_ops.specs.declared.operation.Operation.TheVariants as operations
use Rattle.cel_overload.specs.declared.overload.Overload.TheVariants as overloads
use Rattle.cel_types.specs.Elaborated.{TypedTree, typed_constant, typed_local, typed_attribute, typed_field, typed_has, typed_call, typed_list, typed_map, typed_loop, TypedTrees, no_typed, typed, kind, kinds}
use Rattle.cel_types.specs.Meaning.{before, fold, over, turns_of}
use Rattle.cel_types.specs.Names.{variable_count}
use Rattle.cel_types.specs.declared.typed.Variables.{Variables}
use Rattle.cel_types.specs.TypedMeaning.{typed_answer, typed_answers}
use Rattle.cel_types.specs.WellTyped.{AreKeyed, AreWellTyped, IsWellTyped}
use Rattle.cel_types.proofs.WellTypedAnswers.{all_have_types, answer_typed, answers_typed, walked_typed}
use Rattle.cel_costs.specs.Costs.{charge_at, cost_of, costs_of, grown, map_cost, size_of, sizes_of, total, turns_cost, variable_sizes}
use Rattle.cel_costs.specs.Sizes.{AllWithin, Size, Within, most_of}
use Rattle.cel_costs.proofs.Within.{all_within_more}
use Rattle.machine_code.specs.Instructions.{Instruction, Const, Attr, Load, Store, Field, HasField, LoopStart, MakeList, MakeMap}
use Rattle.machine_code.specs.Machine.{OpenLoop, gives, opened}
use Rattle.cel_compile.specs.Codes.{count, instruction_of, list_instruction, map_instruction, pairs}
use Rattle.cel_compile.proofs.Answering.{before_some, then_some}
use Rattle.cel_compile.proofs.Bounds.{Bounds}
use Rattle.cel_compile.proofs.Calls.{Makes, call_makes, literal_makes, pushed_all}
use Rattle.cel_compile.proofs.Goes.{Goes, at, at_most, held, one, plain, state, stay, stores, then_goes, turned}
use Rattle.cel_compile.proofs.Loop.{Parts, left_all, loop_goes}
use Rattle.cel_compile.proofs.Nodes.{and_goes, choice_goes, makes_goes, or_goes}
use Rattle.cel_compile.proofs.Placing.{Placed, PlacedAll}
use Rattle.cel_compile.proofs.Turns.{both_each, scope_count, turns_typed, walks_over}

-- ---- answers of two or three operands

two_some : (oa ob : Option CelAnswer) (xs : List CelAnswer) → before oa (before ob (Some [])) ≡ Some xs
    → (a : CelAnswer) × (b : CelAnswer) × (oa ≡ Some a) × (ob ≡ Some b) × (xs ≡ a ∷ b ∷ [])
two_some oa ob xs e =
    let x = before_some oa (before ob (Some [])) xs e in
    let y = before_some ob (Some []) x.1 x.3 in
    let none : [] ≡ y.1 = cc (y.3) in
    (x.0, y.0, x.2, y.2, x.4 ∙ ap (λ l. x.0 ∷ l) (y.4 ∙ ap (λ l. y.0 ∷ l) (sym none)))

three_some : (oc oa ob : Option CelAnswer) (xs : List CelAnswer) → before oc (before oa (before ob (Some []))) ≡ Some xs
    → (c : CelAnswer) × (a : CelAnswer) × (b : CelAnswer) × (oc ≡ Some c) × (oa ≡ Some a) × (ob ≡ Some b) × (xs ≡ c ∷ a ∷ b ∷ [])
three_some oc oa ob xs e =
    let x = before_some oc (before oa (before ob (Some []))) xs e in
    let y = two_some oa ob x.1 x.3 in
    (x.0, y.0, y.1, x.2, y.2, y.3, x.4 ∙ ap (λ l. x.0 ∷ l) y.4)

-- a range that has an answer is an error, or has turns
data Ranges (vars : Variables) (o : Option CelAnswer) (go : List (List CelAnswer) → Option CelAnswer) (r : CelAnswer) : Type 0 where
  failed : (e : CelError) → o ≡ Some (fails e) → r ≡ fails e → Ranges vars o go r
  walks : (v : CelValue) (turns : List (List CelAnswer)) → o ≡ Some (value v) → turns_of vars v ≡ Some turns → go turns ≡ Some r → Ranges vars o go r

over_some : (vars : Variables) (o : Option CelAnswer) (go : List (List CelAnswer) → Option CelAnswer) (r : CelAnswer) → over vars o go ≡ Some r
    → Ranges vars o go r
over_some vars None go r e = absurd cc
over_some vars (Some (fails d)) go r e = failed d refl cc
over_some vars (Some (value v)) go r e = let x = then_some go (turns_of vars v) r e in walks v x.0 refl x.1 x.2

-- ---- numbers of operands

counted : (es : TypedTrees) (request : RequestValue) (ls xs : List CelAnswer) → typed_answers es request ls ≡ Some xs → length xs ≡ count es
counted no_typed request ls xs e = let none : [] ≡ xs = cc in ap length (sym none)
counted (typed t es) request ls xs e =
    let x = before_some (typed_answer t request ls) (typed_answers es request ls) xs e in
    let one_more = ap length x.4 in
    let rest = counted es request ls x.1 x.3 in
    omega (arith, one_more, rest)

costs_counted : (es : TypedTrees) (limits : LimitsValue) (sizes : List Size) → length (costs_of es limits sizes) ≡ count es
costs_counted no_typed limits sizes = refl
costs_counted (typed t es) limits sizes = let rest = costs_counted es limits sizes in omega (arith, rest)

paired : (es : TypedTrees) (k : KeyType) (t : ValueType) → AreKeyed k t (kinds es) → count es ≡ 2 * pairs es
paired no_typed k t h = refl
paired (typed a no_typed) k t h = absurd h
paired (typed a (typed b es)) k t h = let rest = paired es k t h.2 in omega (arith, rest)

-- ---- instructions of literals

pub some_list : (t : ValueType) (e : TypedTree) (es : TypedTrees) → list_instruction t (typed e es) ≡ MakeList (count (typed e es))
some_list (list_type t) e es = refl
some_list t e es = refl

pub some_map : (t : ValueType) (e : TypedTree) (es : TypedTrees) → map_instruction t (typed e es) ≡ MakeMap (pairs (typed e es))
some_map (map_type k t) e es = refl
some_map t e es = refl

list_makes : (t : ValueType) (es : TypedTrees) (xs : List CelAnswer) (r : CelAnswer) → length xs ≡ count es → list_literal xs ≡ Some r
    → Makes (list_instruction t es) xs r (list_literal_charge xs)
list_makes (list_type t) no_typed [] r many e =
    let same : r ≡ value (list no_items) = cc in
    rw same record { does = λ request p st f lo. refl; costs = λ st. refl }
list_makes (list_type t) no_typed (a ∷ xs) r many e = absurd (omega arith)
list_makes t es xs r many e =
    literal_makes (MakeList (count es)) list_literal list_literal_charge (count es) (λ q z. refl) (λ st. refl) xs r many e

map_makes : (t : ValueType) (es : TypedTrees) (xs : List CelAnswer) (r : CelAnswer) → length xs ≡ 2 * pairs es → map_literal xs ≡ Some r
    → Makes (map_instruction t es) xs r (map_literal_charge xs)
map_makes (map_type k t) no_typed [] r many e =
    let same : r ≡ value (map_of no_entries) = cc in
    rw same record { does = λ request p st f lo. refl; costs = λ st. refl }
map_makes (map_type k t) no_typed (a ∷ xs) r many e = absurd (omega arith)
map_makes t es xs r many e =
    literal_makes (MakeMap (pairs es)) map_literal map_literal_charge (2 * pairs es) (λ q z. refl) (λ st. refl) xs r many e

-- ---- a loop whole, from its range, its init and its turns

module _ (code : List Instruction) (request : RequestValue) (st ls : List CelAnswer) (lo : List OpenLoop) where
  range_fails : (p m q c e : ℕ) (d : CelError) → slice_get code m ≡ Some (LoopStart q) → c + 1 ≤ e
      → Goes code request c (at p st ls lo) (at m (fails d ∷ st) ls lo)
      → Goes code request e (at p st ls lo) (at q (fails d ∷ st) ls lo)
  range_fails p m q c e d stands le way =
      let g : Goes code request 1 (at m (fails d ∷ st) ls lo) (at q (fails d ∷ st) ls lo) =
      plain code request (LoopStart q) m (fails d ∷ st) ls lo q (fails d ∷ st) lo stands (λ f. refl) in
      at_most code request le (then_goes code request way g)

  range_walks : (p m n q cr ci cl most e : ℕ) (v : CelValue) (vs : CelValues) (a r : CelAnswer)
      → slice_get code m ≡ Some (LoopStart q) → slice_get code n ≡ Some (Store (length ls))
      → elements_of v ≡ Some vs → loop_charge (value v) ≤ 1 + most → cr + (1 + most) + ci + 1 + cl ≤ e
      → Goes code request cr (at p st ls lo) (at m (value v ∷ st) ls lo)
      → Goes code request ci (at (m + 1) st ls (turned v 0 ∷ lo)) (at n (a ∷ st) ls (turned v 0 ∷ lo))
      → Goes code request cl (at (n + 1) st (a ∷ ls) (turned v 0 ∷ lo)) (at q (r ∷ st) ls lo)
      → Goes code request e (at p st ls lo) (at q (r ∷ st) ls lo)
  range_walks p m n q cr ci cl most e v vs a r h1 h2 is charged le gr gi gl =
      let g : Goes code request (loop_charge (value v)) (at m (value v ∷ st) ls lo) (at (m + 1) st ls (turned v 0 ∷ lo)) =
      plain code request (LoopStart q) m (value v ∷ st) ls lo (m + 1) st (turned v 0 ∷ lo) h1 (λ f. ap (λ o. opened o v (state m (value v ∷ st) f lo) st) is) in
      let g' : Goes code request (1 + most) (at m (value v ∷ st) ls lo) (at (m + 1) st ls (turned v 0 ∷ lo)) = at_most code request charged g in
      let kept = stores code request n st ls (turned v 0 ∷ lo) a h2 in
      at_most code request le (then_goes code request (then_goes code request (then_goes code request (then_goes code request gr g') gi) kept) gl)

-- a loop whole, by what its range comes to
loop_runs : (code : List Instruction) (request : RequestValue) (limits : LimitsValue) (st ls : List CelAnswer) (lo : List OpenLoop) (vars : Variables) (range init : TypedTree)
    (p m n q : ℕ) (sizes : List Size) (r : CelAnswer) (go : List (List CelAnswer) → Option CelAnswer) (cr ci cl e : ℕ)
    → slice_get code m ≡ Some (LoopStart q) → slice_get code n ≡ Some (Store (length ls))
    → Ranges vars (typed_answer range request ls) go r
    → ((a : CelAnswer) → typed_answer range request ls ≡ Some a → Goes code request cr (at p st ls lo) (at m (a ∷ st) ls lo))
    → ((v : CelValue) (turns : List (List CelAnswer)) → typed_answer range request ls ≡ Some (value v) → turns_of vars v ≡ Some turns → go turns ≡ Some r
    → (a : CelAnswer) × Goes code request ci (at (m + 1) st ls (turned v 0 ∷ lo)) (at n (a ∷ st) ls (turned v 0 ∷ lo))
    × (length_of v ≤ most_of (size_of range limits sizes))
    × Goes code request cl (at (n + 1) st (a ∷ ls) (turned v 0 ∷ lo)) (at q (r ∷ st) ls lo))
    → cr + (1 + most_of (size_of range limits sizes)) + ci + 1 + cl ≤ e
    → Goes code request e (at p st ls lo) (at q (r ∷ st) ls lo)
loop_runs code request limits st ls lo vars range init p m n q sizes r go cr ci cl e h1 h2 (failed d is same) gr rest le =
    rw same (range_fails code request st ls lo p m q cr e d h1 (omega arith) (gr (fails d) is))
loop_runs code request limits st ls lo vars range init p m n q sizes r go cr ci cl e h1 h2 (walks v turns is begun made) gr rest le =
    let x = rest v turns is begun made in
    let elements = walks_over vars v turns begun in
    let long = x.2 in
    range_walks code request st ls lo p m n q cr ci cl (most_of (size_of range limits sizes)) e v elements.0 x.0 r h1 h2 elements.1 (omega (arith, long)) le
    (gr (value v) is) x.1 x.3

-- ---- every expression

module _ (code : List Instruction) (request : RequestValue) (limits : LimitsValue) (valid : IsRequest request) (bounds : Bounds request limits) where
  answer_has_type : (e : TypedTree) (ks : List ValueType) (ls : List CelAnswer) (a : CelAnswer) → HaveTypes ls ks → IsWellTyped ks e
      → typed_answer e request ls ≡ Some a → AnswerHasType a (kind e)
  answer_has_type e ks ls a h g is =
      let x = answer_typed request valid e ks ls h g in
      let both : Some x.0 ≡ Some a = sym x.1 ∙ is in
      let same : x.0 ≡ a = cc (both) in
      subst (λ z. AnswerHasType z (kind e)) same x.2

  answers_have_types : (es : TypedTrees) (ks : List ValueType) (ls xs : List CelAnswer) → HaveTypes ls ks → AreWellTyped ks es
      → typed_answers es request ls ≡ Some xs → HaveTypes xs (kinds es)
  answers_have_types es ks ls xs h g is =
      let x = answers_typed request valid es ks ls h g in
      let both : Some x.0 ≡ Some xs = sym x.1 ∙ is in
      let same : x.0 ≡ xs = cc (both) in
      subst (λ z. HaveTypes z (kinds es)) same x.2

  answers_within : (es : TypedTrees) (ks : List ValueType) (ls xs : List CelAnswer) (sizes : List Size) → AreWellTyped ks es → AllWithin ls sizes
      → typed_answers es request ls ≡ Some xs → AllWithin xs (sizes_of es limits sizes)
  answers_within no_typed ks ls xs sizes g h is = let none : [] ≡ xs = cc in subst (λ z. AllWithin z []) none tt
  answers_within (typed e es) ks ls xs sizes g h is =
      let x = before_some (typed_answer e request ls) (typed_answers es request ls) xs is in
      subst (λ z. AllWithin z (size_of e limits sizes ∷ sizes_of es limits sizes)) (sym x.4)
      (bounds.answer e ks ls sizes x.0 g.0 h x.2, answers_within es ks ls x.1 sizes g.1 h x.3)

  mutual
    pub runs : (e : TypedTree) (p q : ℕ) (st ls : List CelAnswer) (lo : List OpenLoop) (sizes : List Size) (ks : List ValueType) (r : CelAnswer)
        → HaveTypes ls ks → AllWithin ls sizes → IsWellTyped ks e → Placed code p (length ls) e q → typed_answer e request ls ≡ Some r
        → Goes code request (cost_of e limits sizes) (at p st ls lo) (at q (r ∷ st) ls lo)
    runs (typed_constant t v) p q st ls lo sizes ks r ht hw g (h, e) is =
        let same : r ≡ value v = cc in
        rw (e, same) (plain code request (Const v) p st ls lo (p + 1) (value v ∷ st) lo h (λ f. refl))
    runs (typed_local t outside) p q st ls lo sizes ks r ht hw g (h, e) is =
        rw e (one code request (Load outside) p st ls lo (at (p + 1) (r ∷ st) ls lo) h
        (λ f k. (f, k, ap (λ o. gives o (state p st f lo) st) (held ls f outside r k is))))
    runs (typed_attribute t a) p q st ls lo sizes ks r ht hw g (h, e) is =
        rw e (plain code request (Attr a) p st ls lo (p + 1) (r ∷ st) lo h (λ f. ap (λ o. gives o (state p st f lo) st) is))
    runs (typed_field t on name) p q st ls lo sizes ks r ht hw g (m, po, h, e) is =
        let x = then_some (field name) (typed_answer on request ls) r is in
        let w = bounds.answer on ks ls sizes x.0 g.0 hw x.1 in
        let charged = bounds.field name x.0 (size_of on limits sizes) w in
        rw e (makes_goes code request ls lo (Field name) p m (x.0 ∷ []) st r (cost_of on limits sizes) _ _ h
        (record { does = λ q' p' st' f lo'. ap (λ o. gives o (state p' (x.0 ∷ st') f lo') st') x.2; costs = λ st'. refl })
        (omega (arith, charged)) (runs on p m st ls lo sizes ks x.0 ht hw g.0 po x.1))
    runs (typed_has t on name) p q st ls lo sizes ks r ht hw g (m, po, h, e) is =
        let x = then_some (has_field name) (typed_answer on request ls) r is in
        let w = bounds.answer on ks ls sizes x.0 g.0 hw x.1 in
        let charged = bounds.field name x.0 (size_of on limits sizes) w in
        rw e (makes_goes code request ls lo (HasField name) p m (x.0 ∷ []) st r (cost_of on limits sizes) _ _ h
        (record { does = λ q' p' st' f lo'. ap (λ o. gives o (state p' (x.0 ∷ st') f lo') st') x.2; costs = λ st'. refl })
        (omega (arith, charged)) (runs on p m st ls lo sizes ks x.0 ht hw g.0 po x.1))
    runs (typed_call t (overloads.Operate operations.And) (typed a (typed b no_typed))) p q st ls lo sizes ks r ht hw g (m, n, pa, h1, pb, h2, e) is =
        let all = then_some (overload_answer (overloads.Operate operations.And)) (typed_answers (typed a (typed b no_typed)) request ls) r is in
        let x = two_some (typed_answer a request ls) (typed_answer b request ls) all.0 all.1 in
        let made : conjunction x.0 x.1 ≡ Some r = subst (λ z. on_two conjunction z ≡ Some r) x.4 all.2 in
        and_goes code request ls lo p m n q st (cost_of a limits sizes) (cost_of b limits sizes) x.0 x.1 r h1 h2 e made
        (runs a p m st ls lo sizes ks x.0 ht hw g.0.0 pa x.2) (runs b (m + 1) n (x.0 ∷ st) ls lo sizes ks x.1 ht hw g.0.1.0 pb x.3)
    runs (typed_call t (overloads.Operate operations.Or) (typed a (typed b no_typed))) p q st ls lo sizes ks r ht hw g (m, n, pa, h1, pb, h2, e) is =
        let all = then_some (overload_answer (overloads.Operate operations.Or)) (typed_answers (typed a (typed b no_typed)) request ls) r is in
        let x = two_some (typed_answer a request ls) (typed_answer b request ls) all.0 all.1 in
        let made : disjunction x.0 x.1 ≡ Some r = subst (λ z. on_two disjunction z ≡ Some r) x.4 all.2 in
        or_goes code request ls lo p m n q st (cost_of a limits sizes) (cost_of b limits sizes) x.0 x.1 r h1 h2 e made
        (runs a p m st ls lo sizes ks x.0 ht hw g.0.0 pa x.2) (runs b (m + 1) n (x.0 ∷ st) ls lo sizes ks x.1 ht hw g.0.1.0 pb x.3)
    runs (typed_call t overloads.Conditional (typed c (typed a (typed b no_typed)))) p q st ls lo sizes ks r ht hw g (m, n, pc, h1, pa, h2, pb) is =
        let all = then_some (overload_answer overloads.Conditional) (typed_answers (typed c (typed a (typed b no_typed))) request ls) r is in
        let x = three_some (typed_answer c request ls) (typed_answer a request ls) (typed_answer b request ls) all.0 all.1 in
        let made : conditional (x.0 ∷ x.1 ∷ x.2 ∷ []) ≡ Some r = subst (λ z. conditional z ≡ Some r) x.6 all.2 in
        choice_goes code request ls lo p m n q st (cost_of c limits sizes) (cost_of a limits sizes) (cost_of b limits sizes) x.0 x.1 x.2 r h1 h2 made
        (runs c p m st ls lo sizes ks x.0 ht hw g.0.0 pc x.3) (runs a (m + 1) n st ls lo sizes ks x.1 ht hw g.0.1.0 pa x.4)
        (runs b (n + 1) q st ls lo sizes ks x.2 ht hw g.0.1.1.0 pb x.5)
    runs (typed_call t overloads.Conditional operands) p q st ls lo sizes ks r ht hw g placed is =
        let takes : kinds operands ≡ bool_type ∷ t ∷ t ∷ [] = g.1 in absurd cc
    runs (typed_call t o operands) p q st ls lo sizes ks r ht hw g placed is =
        let m = placed.0 in
        let all = then_some (overload_answer o) (typed_answers operands request ls) r is in
        let charged = bounds.call o (kinds operands) all.0 (sizes_of operands limits sizes) (answers_have_types operands ks ls all.0 ht g.0 all.1)
        (answers_within operands ks ls all.0 sizes g.0 hw all.1) in
        rw (placed.3) (makes_goes code request ls lo (instruction_of o) p m all.0 st r (total (costs_of operands limits sizes)) (overload_charge o all.0)
        (total (costs_of operands limits sizes) + charge_at o (kinds operands) (sizes_of operands limits sizes)) placed.2
        (call_makes o all.0 r tt all.2) (omega (arith, charged)) (runs_all operands p m st ls lo sizes ks all.0 ht hw g.0 placed.1 all.1))
    runs (typed_list t elements) p q st ls lo sizes ks r ht hw g (m, po, h, e) is =
        let all = then_some list_literal (typed_answers elements request ls) r is in
        let many = counted elements request ls all.0 all.1 in
        let costs = costs_counted elements limits sizes in
        let charged = bounds.listed all.0 in
        rw e (makes_goes code request ls lo (list_instruction t elements) p m all.0 st r (total (costs_of elements limits sizes)) (list_literal_charge all.0) _ h
        (list_makes t elements all.0 r many all.2) (omega (arith, charged, many, costs)) (runs_all elements p m st ls lo sizes ks all.0 ht hw g.0 po all.1))
    runs (typed_map t entries) p q st ls lo sizes ks r ht hw g (m, po, h, e) is =
        let all = then_some map_literal (typed_answers entries request ls) r is in
        let many = counted entries request ls all.0 all.1 ∙ paired entries g.1.0 g.1.1 g.1.3 in
        let charged = bounds.mapped all.0 (sizes_of entries limits sizes) (answers_within entries ks ls all.0 sizes g.0 hw all.1) in
        rw e (makes_goes code request ls lo (map_instruction t entries) p m all.0 st r (total (costs_of entries limits sizes)) (map_literal_charge all.0)
        (total (costs_of entries limits sizes) + map_cost (sizes_of entries limits sizes)) h
        (map_makes t entries all.0 r many all.2) (omega (arith, charged)) (runs_all entries p m st ls lo sizes ks all.0 ht hw g.0 po all.1))
    runs (typed_loop t vars range init condition step result) p q st ls lo sizes ks r ht hw g (m, n, k, l, pr, h1, pi, h2, h3, pc, h4, ps, h5, h6, pe) is =
        let C : List CelAnswer → CelAnswer → Option CelAnswer = λ vs a. typed_answer condition request (vs ++ a ∷ ls) in
        let S : List CelAnswer → CelAnswer → Option CelAnswer = λ vs a. typed_answer step request (vs ++ a ∷ ls) in
        let R : CelAnswer → Option CelAnswer = λ a. typed_answer result request (a ∷ ls) in
        let over_size = size_of range limits sizes in
        let each_size = variable_sizes vars over_size in
        let cc : Size → ℕ = λ z. cost_of condition limits (each_size ++ z ∷ sizes) in
        let cs : Size → ℕ = λ z. cost_of step limits (each_size ++ z ∷ sizes) in
        let cr : Size → ℕ = λ z. cost_of result limits (z ∷ sizes) in
        let next : Size → Size = λ z. size_of step limits (each_size ++ z ∷ sizes) in
        let each = g.2.0 in
        let inner = each ++ kind init ∷ ks in
        let IsTurn : List CelAnswer → Type 0 = λ vs. HaveTypes vs each × AllWithin vs each_size in
        let IsGathered : CelAnswer → Size → Type 0 = λ a s. AnswerHasType a (kind init) × Within a s in
        -- the scope of a turn
        let types : (vs : List CelAnswer) (a : CelAnswer) (s : Size) → IsTurn vs → IsGathered a s → HaveTypes (vs ++ a ∷ ls) inner =
        λ vs a s hv ha. all_have_types vs (a ∷ ls) each (kind init ∷ ks) hv.0 (ha.0, ht) in
        let fits : (vs : List CelAnswer) (a : CelAnswer) (s : Size) → IsTurn vs → IsGathered a s → AllWithin (vs ++ a ∷ ls) (each_size ++ s ∷ sizes) =
        λ vs a s hv ha. all_within_more vs (a ∷ ls) each_size (s ∷ sizes) hv.1 (ha.1, hw) in
        let scope : (vs : List CelAnswer) (a : CelAnswer) → HaveTypes vs each → variable_count vars + suc (length ls) ≡ length (vs ++ a ∷ ls) =
        λ vs a hv. sym (scope_count vars (kind range) each vs ls a g.2.1 hv) in
        let parts : (over : CelValue) → Parts code request ls lo st vars over n k l q C S R cc cs cr next IsTurn IsGathered = λ over. record {
          starts = h3;
          tested = h4;
          kept = h5;
          again = h6;
          condition = λ vs a s i c hv ha e. runs condition (n + 1 + 1) k st (vs ++ a ∷ ls) (turned over i ∷ lo) (each_size ++ s ∷ sizes) inner c
              (types vs a s hv ha) (fits vs a s hv ha) g.2.2 (subst (λ d. Placed code (n + 1 + 1) d condition k) (scope vs a hv.0) pc) e;
          body = λ vs a s i b hv ha e. runs step (k + 1) l st (vs ++ a ∷ ls) (turned over i ∷ lo) (each_size ++ s ∷ sizes) inner b
              (types vs a s hv ha) (fits vs a s hv ha) g.2.4 (subst (λ d. Placed code (k + 1) d step l) (scope vs a hv.0) ps) e;
          gathers = λ vs a s b hv ha e. (
            subst (λ z. AnswerHasType b z) g.2.5 (answer_has_type step inner (vs ++ a ∷ ls) b (types vs a s hv ha) g.2.4 e),
            bounds.right b s (next s) (bounds.answer step inner (vs ++ a ∷ ls) (each_size ++ s ∷ sizes) b g.2.4 (fits vs a s hv ha) e),
          );
          keeps = λ a s ha. (ha.0, bounds.left a s (next s) ha.1);
          result = λ a s b ha e. runs result (l + 1 + 1) q st (a ∷ ls) lo (s ∷ sizes) (kind init ∷ ks) b (ha.0, ht) (ha.1, hw) g.3 pe e;
        } in
        let most = most_of over_size in
        let from = size_of init limits sizes in
        let far = grown next most from in
        let all_turns = turns_cost next (λ z. cc z + cs z + 4) most from in
        loop_runs code request limits st ls lo vars range init p m n q sizes r
        (λ turns. option_and_then (fold C S R turns) (typed_answer init request ls)) (cost_of range limits sizes) (cost_of init limits sizes) (all_turns + 1 + cr far) _
        h1 h2 (over_some vars (typed_answer range request ls) _ r is)
        (λ a e. runs range p m st ls lo sizes ks a ht hw g.0 pr e)
        (λ v turns e is_turns is_made.
        let x = then_some (fold C S R turns) (typed_answer init request ls) r is_made in
        let fit = bounds.answer range ks ls sizes (value v) g.0 hw e in
        let range_typed = answer_has_type range ks ls (value v) ht g.0 e in
        let found = bounds.turns vars v turns over_size fit is_turns in (
          x.0,
          runs init (m + 1) n st ls (turned v 0 ∷ lo) sizes ks x.0 ht hw g.1 pi x.1,
          bounds.long v over_size fit,
          loop_goes code request ls lo st vars v n k l q C S R cc cs cr next IsTurn IsGathered (parts v) turns 0 most x.0 from r (left_all vars v turns is_turns)
              (answer_has_type init ks ls x.0 ht g.1 x.1, bounds.answer init ks ls sizes x.0 g.1 hw x.1)
              (both_each each each_size turns (turns_typed (turns_of vars v) turns each is_turns (walked_typed vars (kind range) each g.2.1 v range_typed)) found.1)
              found.0 x.2,
        ))
        (omega arith)

    pub runs_all : (es : TypedTrees) (p q : ℕ) (st ls : List CelAnswer) (lo : List OpenLoop) (sizes : List Size) (ks : List ValueType) (xs : List CelAnswer)
        → HaveTypes ls ks → AllWithin ls sizes → AreWellTyped ks es → PlacedAll code p (length ls) es q → typed_answers es request ls ≡ Some xs
        → Goes code request (total (costs_of es limits sizes)) (at p st ls lo) (at q (pushed_all xs st) ls lo)
    runs_all no_typed p q st ls lo sizes ks xs ht hw g e is =
        let none : xs ≡ [] = cc in rw (e, none) (stay code request (at p st ls lo))
    runs_all (typed t es) p q st ls lo sizes ks xs ht hw g (m, pt, ps) is =
        let x = before_some (typed_answer t request ls) (typed_answers es request ls) xs is in
        rw (x.4) (then_goes code request (runs t p m st ls lo sizes ks x.0 ht hw g.0 pt x.2)
        (runs_all es m q (x.0 ∷ st) ls lo sizes ks x.1 ht hw g.1 ps x.3))
