-- The run of a comprehension's loop, by induction on the turns that are left.
use Rattle.std.proofs.Common.{◌≡◌, ℕ, zero, suc, ◌+◌, ◌≤◌, true, false, List, [], ◌∷◌, ◌++◌, length, map, Option, Some, None, option_map, refl, sym, ap, ◌∙◌, subst, arith, slice_get}
use Rattle.std.specs.List.{AllByRecursion}
use Rattle.std.specs.Option.{option_and_then}
use Rattle.std.proofs.lemmas.Option.{slice_get-map}
use Rattle.cel_value.specs.Items.{item_at}
use Rattle.cel_value.specs.Values.{CelAnswer, CelValue, CelValues, no_items, item, bool, value, fails}
use Rattle.attributes.specs.Request.{RequestValue}
use Rattle.cel_ops.specs.Collections.{elements_of, pairs_of}
use Rattle.cel_types.specs.Meaning.{turn, turns_of, one_each, fold}
use Rattle.cel_types.specs.declared.typed.Variables.{Variables}
use Rattle.cel_types.specs.declared.typed.Variables.TheVariants as variables
use Rattle.cel_costs.specs.Sizes.{Size, join}
use Rattle.cel_costs.specs.Costs.{grown, turns_cost}
use Rattle.machine_code.specs.Instructions.{Instruction, Store, Jump, LoopNext, LoopNext2, LoopTest}
use Rattle.machine_code.specs.Locals.{with_local}
use Rattle.machine_code.specs.Machine as machine
use Rattle.machine_code.specs.Machine.{OpenLoop, element, pair}
use Rattle.cel_compile.specs.Codes.{turn_instruction}
use Rattle.cel_compile.proofs.Goes.{Holds, holds_less, holds_more, at, state, turned, Point, Goes, then_goes, at_most, forget, one, plain, stores}

-- ---- turns of a loop

-- what the variables get in the next turn of an open loop
abbrev pub next_turn : Variables → OpenLoop → Option (List CelAnswer)
next_turn variables.One l = option_map (λ v. value v ∷ []) (element l)
next_turn variables.Two l = option_map (λ p. value p.1 ∷ p.0 ∷ []) (pair l)

element_turn : (vs : CelValues) (i : ℕ) → option_map (λ v. value v ∷ []) (item_at vs i) ≡ slice_get (one_each vs) i
element_turn no_items i = refl
element_turn (item v vs) zero = refl
element_turn (item v vs) (suc i) = element_turn vs i

one_turn : (o : Option CelValues) (turns : List (List CelAnswer)) (i : ℕ) → option_map one_each o ≡ Some turns
    → option_map (λ v. value v ∷ []) (option_and_then (λ vs. item_at vs i) o) ≡ slice_get turns i
one_turn None turns i e = absurd cc
one_turn (Some vs) turns i e =
    let same : one_each vs ≡ turns = cc in element_turn vs i ∙ ap (λ l. slice_get l i) same

pair_turn : (o : Option (List (CelAnswer × CelValue))) (turns : List (List CelAnswer)) (i : ℕ)
    → option_map (map (λ p. value p.1 ∷ p.0 ∷ [])) o ≡ Some turns
    → option_map (λ p. value p.1 ∷ p.0 ∷ []) (option_and_then (λ pairs. slice_get pairs i) o) ≡ slice_get turns i
pair_turn None turns i e = absurd cc
pair_turn (Some pairs) turns i e =
    let same : map (λ p. value p.1 ∷ p.0 ∷ []) pairs ≡ turns = cc in
    sym (slice_get-map (λ p. value p.1 ∷ p.0 ∷ []) pairs i) ∙ ap (λ l. slice_get l i) same

-- an open loop that has begun so many turns is before the turn of that number
turn_at : (vars : Variables) (over : CelValue) (turns : List (List CelAnswer)) (i : ℕ) → turns_of vars over ≡ Some turns
    → next_turn vars (turned over i) ≡ slice_get turns i
turn_at variables.One over turns i e = one_turn (elements_of over) turns i e
turn_at variables.Two over turns i e = pair_turn (pairs_of over) turns i e

-- these turns are left of a loop over a value that has begun so many
pub record Left (vars : Variables) (over : CelValue) (i : ℕ) (turns : List (List CelAnswer)) : Type 0 where
  pub all : List (List CelAnswer)
  pub of : turns_of vars over ≡ Some all
  pub same : (k : ℕ) → slice_get all (i + k) ≡ slice_get turns k

pub left_all : (vars : Variables) (over : CelValue) (turns : List (List CelAnswer)) → turns_of vars over ≡ Some turns
    → Left vars over 0 turns
left_all vars over turns e = record { all = turns; of = e; same = λ k. let n : 0 + k ≡ k = omega arith in ap (slice_get turns) n }

left_first : (vars : Variables) (over : CelValue) (i : ℕ) (turns : List (List CelAnswer)) → Left vars over i turns
    → next_turn vars (turned over i) ≡ slice_get turns 0
left_first vars over i turns left =
    let n : i ≡ i + 0 = omega arith in
    turn_at vars over left.all i left.of ∙ ap (slice_get left.all) n ∙ left.same 0

left_later : (vars : Variables) (over : CelValue) (i : ℕ) (vs : List CelAnswer) (turns : List (List CelAnswer))
    → Left vars over i (vs ∷ turns) → Left vars over (suc i) turns
left_later vars over i vs turns left = record {
  all = left.all;
  of = left.of;
  same = λ k. let n : suc i + k ≡ i + suc k = omega arith in ap (slice_get left.all) n ∙ left.same (suc k);
}

-- ---- the begin of a turn

module _ (code : List Instruction) (request : RequestValue) (ls : List CelAnswer) (lo : List OpenLoop) (st : List CelAnswer) (over : CelValue) (p after i : ℕ) where
  -- where the turn's locals are bound
  abbrev Begun : List CelAnswer → Type 0
  Begun vs = Goes code request 1 (at p st ls (turned over i ∷ lo)) (at (p + 1) st (vs ++ ls) (turned over (suc i) ∷ lo))

  -- where the loop is closed
  abbrev Closed : Type 0
  Closed = Goes code request 1 (at p st ls (turned over i ∷ lo)) (at after st ls lo)

  next_begun : (o : Option CelValue) (vs : List CelAnswer) → slice_get code p ≡ Some (LoopNext (length ls) after)
      → element (turned over i) ≡ o → option_map (λ v. value v ∷ []) o ≡ Some vs → Begun vs
  next_begun None vs stands is e = absurd cc
  next_begun (Some v) vs stands is e =
      let same : value v ∷ [] ≡ vs = cc (e) in
      subst Begun same
      (one code request (LoopNext (length ls) after) p st ls (turned over i ∷ lo) (at (p + 1) st (value v ∷ ls) (turned over (suc i) ∷ lo)) stands
      (λ f h. (
        with_local f (length ls) (value v),
        holds_more ls f (value v) h,
        ap (λ (x : Option CelValue). machine.continued after (option_map (λ v. with_local f (length ls) (value v)) x) (turned over i) lo (state p st f (turned over i ∷ lo))) is,
      )))

  next_closed : (o : Option CelValue) → slice_get code p ≡ Some (LoopNext (length ls) after)
      → element (turned over i) ≡ o → option_map (λ v. value v ∷ []) o ≡ None → Closed
  next_closed (Some v) stands is e = absurd cc
  next_closed None stands is e =
      plain code request (LoopNext (length ls) after) p st ls (turned over i ∷ lo) after st lo stands
      (λ f. ap (λ (x : Option CelValue). machine.continued after (option_map (λ v. with_local f (length ls) (value v)) x) (turned over i) lo (state p st f (turned over i ∷ lo))) is)

  pair_begun : (o : Option (CelAnswer × CelValue)) (vs : List CelAnswer) → slice_get code p ≡ Some (LoopNext2 (length ls) (length ls + 1) after)
      → pair (turned over i) ≡ o → option_map (λ x. value x.1 ∷ x.0 ∷ []) o ≡ Some vs → Begun vs
  pair_begun None vs stands is e = absurd cc
  pair_begun (Some x) vs stands is e =
      let same : value x.1 ∷ x.0 ∷ [] ≡ vs = cc (e) in
      let next : suc (length ls) ≡ length ls + 1 = omega arith in
      subst Begun same
      (one code request (LoopNext2 (length ls) (length ls + 1) after) p st ls (turned over i ∷ lo) (at (p + 1) st (value x.1 ∷ x.0 ∷ ls) (turned over (suc i) ∷ lo)) stands
      (λ f h. (
        with_local (with_local f (length ls) x.0) (length ls + 1) (value x.1),
        subst (λ n. Holds (value x.1 ∷ x.0 ∷ ls) (with_local (with_local f (length ls) x.0) n (value x.1))) next
            (holds_more (x.0 ∷ ls) (with_local f (length ls) x.0) (value x.1) (holds_more ls f x.0 h)),
        ap (λ (z : Option (CelAnswer × CelValue)). machine.continued after (option_map (λ x. with_local (with_local f (length ls) x.0) (length ls + 1) (value x.1)) z) (turned over i) lo (state p st f (turned over i ∷ lo))) is,
      )))

  pair_closed : (o : Option (CelAnswer × CelValue)) → slice_get code p ≡ Some (LoopNext2 (length ls) (length ls + 1) after)
      → pair (turned over i) ≡ o → option_map (λ x. value x.1 ∷ x.0 ∷ []) o ≡ None → Closed
  pair_closed (Some x) stands is e = absurd cc
  pair_closed None stands is e =
      plain code request (LoopNext2 (length ls) (length ls + 1) after) p st ls (turned over i ∷ lo) after st lo stands
      (λ f. ap (λ (z : Option (CelAnswer × CelValue)). machine.continued after (option_map (λ x. with_local (with_local f (length ls) x.0) (length ls + 1) (value x.1)) z) (turned over i) lo (state p st f (turned over i ∷ lo))) is)

  -- there is a turn: its locals are bound
  turn_begins : (vars : Variables) (vs : List CelAnswer) → slice_get code p ≡ Some (turn_instruction vars (length ls) after)
      → next_turn vars (turned over i) ≡ Some vs → Begun vs
  turn_begins variables.One vs stands e = next_begun (element (turned over i)) vs stands refl e
  turn_begins variables.Two vs stands e = pair_begun (pair (turned over i)) vs stands refl e

  -- there is none: the loop is closed
  loop_closes : (vars : Variables) → slice_get code p ≡ Some (turn_instruction vars (length ls) after)
      → next_turn vars (turned over i) ≡ None → Closed
  loop_closes variables.One stands e = next_closed (element (turned over i)) stands refl e
  loop_closes variables.Two stands e = pair_closed (pair (turned over i)) stands refl e

-- ---- the whole loop

module _ (code : List Instruction) (request : RequestValue) (ls : List CelAnswer) (lo : List OpenLoop) (st : List CelAnswer) (vars : Variables) (over : CelValue) (n k l q : ℕ)
    (C S : List CelAnswer → CelAnswer → Option CelAnswer) (R : CelAnswer → Option CelAnswer)
    (cost_c cost_s cost_r : Size → ℕ) (next : Size → Size)
    (IsTurn : List CelAnswer → Type 0) (IsGathered : CelAnswer → Size → Type 0) where
  -- the cost of a turn
  abbrev pub turn_cost : Size → ℕ
  turn_cost s = cost_c s + cost_s s + 4

  -- the instructions of a loop, and what its parts do
  pub record Parts : Type 0 where
    pub starts : slice_get code (n + 1) ≡ Some (turn_instruction vars (suc (length ls)) (l + 1 + 1))
    pub tested : slice_get code k ≡ Some (LoopTest (l + 1 + 1) q)
    pub kept : slice_get code l ≡ Some (Store (length ls))
    pub again : slice_get code (l + 1) ≡ Some (Jump (n + 1))
    pub condition : (vs : List CelAnswer) (a : CelAnswer) (s : Size) (i : ℕ) (c : CelAnswer) → IsTurn vs → IsGathered a s → C vs a ≡ Some c
        → Goes code request (cost_c s) (at (n + 1 + 1) st (vs ++ a ∷ ls) (turned over i ∷ lo)) (at k (c ∷ st) (vs ++ a ∷ ls) (turned over i ∷ lo))
    pub body : (vs : List CelAnswer) (a : CelAnswer) (s : Size) (i : ℕ) (b : CelAnswer) → IsTurn vs → IsGathered a s → S vs a ≡ Some b
        → Goes code request (cost_s s) (at (k + 1) st (vs ++ a ∷ ls) (turned over i ∷ lo)) (at l (b ∷ st) (vs ++ a ∷ ls) (turned over i ∷ lo))
    pub gathers : (vs : List CelAnswer) (a : CelAnswer) (s : Size) (b : CelAnswer) → IsTurn vs → IsGathered a s → S vs a ≡ Some b
        → IsGathered b (join s (next s))
    pub keeps : (a : CelAnswer) (s : Size) → IsGathered a s → IsGathered a (join s (next s))
    pub result : (a : CelAnswer) (s : Size) (r : CelAnswer) → IsGathered a s → R a ≡ Some r
        → Goes code request (cost_r s) (at (l + 1 + 1) st (a ∷ ls) lo) (at q (r ∷ st) (a ∷ ls) lo)

  module _ (parts : Parts) where
    grown_keeps : (m : ℕ) (a : CelAnswer) (s : Size) → IsGathered a s → IsGathered a (grown next m s)
    grown_keeps zero a s h = h
    grown_keeps (suc m) a s h = grown_keeps m a (join s (next s)) (parts.keeps a s h)

    -- the result, from the end of the loop
    leaves : (c e : ℕ) (P : Point) (a : CelAnswer) (s : Size) (r : CelAnswer) → IsGathered a s → R a ≡ Some r → c + cost_r s ≤ e
        → Goes code request c P (at (l + 1 + 1) st (a ∷ ls) lo) → Goes code request e P (at q (r ∷ st) ls lo)
    leaves c e P a s r h is le way =
        let g = parts.result a s r h is in
        let less = forget code request (at q (r ∷ st) (a ∷ ls) lo) (at q (r ∷ st) ls lo) (λ f held. (held.1, refl)) in
        at_most code request (omega arith) (then_goes code request (then_goes code request way g) less)

    -- a turn, once its locals are bound
    turn_goes : (vs : List CelAnswer) (turns : List (List CelAnswer)) (i : ℕ) (a : CelAnswer) (s : Size) (m : ℕ) (r : CelAnswer) (oc os : Option CelAnswer)
        → IsTurn vs → IsGathered a s → C vs a ≡ oc → S vs a ≡ os → turn oc os (fold C S R turns) (R a) ≡ Some r
        → ((b : CelAnswer) → IsGathered b (join s (next s)) → fold C S R turns b ≡ Some r
        → Goes code request (turns_cost next turn_cost m (join s (next s)) + 1 + cost_r (grown next m (join s (next s)))) (at (n + 1) st (b ∷ ls) (turned over i ∷ lo)) (at q (r ∷ st) ls lo))
        → Goes code request (turn_cost s + turns_cost next turn_cost m (join s (next s)) + cost_r (grown next m (join s (next s)))) (at (n + 1 + 1) st (vs ++ a ∷ ls) (turned over i ∷ lo)) (at q (r ∷ st) ls lo)
    turn_goes vs turns i a s m r None os hv ha ec es is rest = absurd cc
    turn_goes vs turns i a s m r (Some (value (bool true))) None hv ha ec es is rest = absurd cc
    turn_goes vs turns i a s m r (Some (value (bool true))) (Some b) hv ha ec es is rest =
        let c = value (bool true) in
        let gc = parts.condition vs a s i c hv ha ec in
        let g1 : Goes code request 1 (at k (c ∷ st) (vs ++ a ∷ ls) (turned over i ∷ lo)) (at (k + 1) st (vs ++ a ∷ ls) (turned over i ∷ lo)) =
        plain code request (LoopTest (l + 1 + 1) q) k (c ∷ st) (vs ++ a ∷ ls) (turned over i ∷ lo) (k + 1) st (turned over i ∷ lo) parts.tested (λ f. refl) in
        let gs = parts.body vs a s i b hv ha es in
        let g2 = forget code request (at l (b ∷ st) (vs ++ a ∷ ls) (turned over i ∷ lo)) (at l (b ∷ st) ls (turned over i ∷ lo)) (λ f h. ((holds_less vs (a ∷ ls) f h).1, refl)) in
        let g3 = stores code request l st ls (turned over i ∷ lo) b parts.kept in
        let g4 : Goes code request 1 (at (l + 1) st (b ∷ ls) (turned over i ∷ lo)) (at (n + 1) st (b ∷ ls) (turned over i ∷ lo)) =
        plain code request (Jump (n + 1)) (l + 1) st (b ∷ ls) (turned over i ∷ lo) (n + 1) st (turned over i ∷ lo) parts.again (λ f. refl) in
        let on = rest b (parts.gathers vs a s b hv ha es) is in
        at_most code request (omega arith)
        (then_goes code request (then_goes code request (then_goes code request (then_goes code request (then_goes code request (then_goes code request gc g1) gs) g2) g3) g4) on)
    turn_goes vs turns i a s m r (Some (value (bool false))) os hv ha ec es is rest =
        let c = value (bool false) in
        let s' = grown next m (join s (next s)) in
        let gc = parts.condition vs a s i c hv ha ec in
        let g1 : Goes code request 1 (at k (c ∷ st) (vs ++ a ∷ ls) (turned over i ∷ lo)) (at (l + 1 + 1) st (vs ++ a ∷ ls) lo) =
        plain code request (LoopTest (l + 1 + 1) q) k (c ∷ st) (vs ++ a ∷ ls) (turned over i ∷ lo) (l + 1 + 1) st lo parts.tested (λ f. refl) in
        let g2 = forget code request (at (l + 1 + 1) st (vs ++ a ∷ ls) lo) (at (l + 1 + 1) st (a ∷ ls) lo) (λ f h. (holds_less vs (a ∷ ls) f h, refl)) in
        leaves (cost_c s + 1 + 0) _ _ a s' r (grown_keeps m a (join s (next s)) (parts.keeps a s ha)) is (omega arith) (then_goes code request (then_goes code request gc g1) g2)
    turn_goes vs turns i a s m r (Some (fails e)) os hv ha ec es is rest =
        let same : r ≡ fails e = cc in
        let gc = parts.condition vs a s i (fails e) hv ha ec in
        let g1 : Goes code request 1 (at k (fails e ∷ st) (vs ++ a ∷ ls) (turned over i ∷ lo)) (at q (fails e ∷ st) (vs ++ a ∷ ls) lo) =
        plain code request (LoopTest (l + 1 + 1) q) k (fails e ∷ st) (vs ++ a ∷ ls) (turned over i ∷ lo) q (fails e ∷ st) lo parts.tested (λ f. refl) in
        let g2 = forget code request (at q (fails e ∷ st) (vs ++ a ∷ ls) lo) (at q (fails e ∷ st) ls lo) (λ f h. ((holds_less vs (a ∷ ls) f h).1, refl)) in
        rw same (at_most code request (omega arith) (then_goes code request (then_goes code request gc g1) g2))
    turn_goes vs turns i a s m r (Some (value w)) os hv ha ec es is rest = absurd cc

    -- the loop from its head, with these turns left, of which there may be m
    pub loop_goes : (turns : List (List CelAnswer)) (i m : ℕ) (a : CelAnswer) (s : Size) (r : CelAnswer) → Left vars over i turns
        → IsGathered a s → AllByRecursion IsTurn turns → length turns ≤ m → fold C S R turns a ≡ Some r
        → Goes code request (turns_cost next turn_cost m s + 1 + cost_r (grown next m s)) (at (n + 1) st (a ∷ ls) (turned over i ∷ lo)) (at q (r ∷ st) ls lo)
    loop_goes [] i m a s r left ha each le is =
        let g = loop_closes code request (a ∷ ls) lo st over (n + 1) (l + 1 + 1) i vars parts.starts (left_first vars over i [] left) in
        leaves 1 _ _ a (grown next m s) r (grown_keeps m a s ha) is (omega arith) g
    loop_goes (vs ∷ turns) i zero a s r left ha each le is = absurd (omega arith)
    loop_goes (vs ∷ turns) i (suc m) a s r left ha each le is =
        let g = turn_begins code request (a ∷ ls) lo st over (n + 1) (l + 1 + 1) i vars vs parts.starts (left_first vars over i (vs ∷ turns) left) in
        let on = turn_goes vs turns (suc i) a s m r (C vs a) (S vs a) each.0 ha refl refl is
        (λ b hb more. loop_goes turns (suc i) m b (join s (next s)) r (left_later vars over i vs turns left) hb each.1 (omega arith) more) in
        at_most code request (omega arith) (then_goes code request g on)
