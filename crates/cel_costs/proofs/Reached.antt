-- What evaluation reaches is well typed, and is within its size and paid for at the sizes of its locals.
use Rattle.std.proofs.Common.{◌≡◌, ◌≤◌, ◌<◌, ◌+◌, ℕ, zero, suc, ◌⊎◌, inl, inr, List, [], ◌∷◌, ◌++◌, length, Some, refl, ap, arith}
use Rattle.attributes.specs.Limits.{InLimits, LimitsValue}
use Rattle.attributes.specs.Request.{IsRequest, RequestValue}
use Rattle.cel_value.specs.Types.{AnswerHasType, ValueType}
use Rattle.cel_value.specs.Values.{CelAnswer, value}
use Rattle.cel_overload.specs.Answers.{HaveTypes}
use Rattle.cel_overload.specs.declared.overload.Overload.{Overload}
use Rattle.cel_ops.specs.declared.operation.Operation.TheVariants as operations
use Rattle.cel_overload.specs.declared.overload.Overload.TheVariants as overloads
use Rattle.cel_types.specs.Elaborated.{TypedTree, TypedTrees, kind, kinds, no_typed, typed, typed_attribute, typed_call, typed_constant, typed_field, typed_has, typed_list, typed_local, typed_loop, typed_map}
use Rattle.cel_types.specs.TypedMeaning.{typed_answer}
use Rattle.cel_types.specs.WellTyped.{AreWellTyped, IsWellTyped}
use Rattle.cel_types.specs.declared.typed.Variables.{Variables}
use Rattle.cel_types.proofs.WellTypedAnswers.{TurnsHaveTypes, all_have_types, answer_typed, walked_typed}
use Rattle.cel_costs.specs.Costs.{call_cost, cost_of, costs_of, grown, size_of, sizes_of, total, turns_cost, variable_sizes}
use Rattle.cel_costs.specs.Reaches.{Gathers, IsAmong, Reaches, ended, gathered_size, inside, more, none, parts, turn, whole}
use Rattle.cel_costs.specs.Sizes.{AllWithin, Size, Within, join, most_of}
use Rattle.cel_costs.proofs.Joins.{grown_within, within_right}
use Rattle.cel_costs.proofs.Within.{TurnsWithin, all_within_more, answer_within, turns_within}

-- ---- turns

-- one more turn joins what there was with what the step makes of it
grown_more : (next : Size → Size) (k : ℕ) (s : Size)
    → grown next (suc k) s ≡ join (grown next k s) (next (grown next k s))
grown_more next zero s = refl
grown_more next (suc k) s = grown_more next k (join s (next s))

-- what is within the size after some turns is within the size after all
later_within : (next : Size → Size) (k n : ℕ) (s : Size) (a : CelAnswer) → k ≤ n
    → Within a (grown next k s) → Within a (grown next n s)
later_within next zero n s a few h = grown_within next n s a h
later_within next (suc k) zero s a few h = absurd (omega arith)
later_within next (suc k) (suc n) s a few h =
    later_within next k n (join s (next s)) a (omega arith) h

-- each turn's cost is among those that are added up
turn_paid : (next : Size → Size) (cost : Size → ℕ) (k n : ℕ) (s : Size) → k < n
    → cost (grown next k s) ≤ turns_cost next cost n s
turn_paid next cost k zero s few = absurd (omega arith)
turn_paid next cost zero (suc n) s few = omega arith
turn_paid next cost (suc k) (suc n) s few =
    let others = turn_paid next cost k n (join s (next s)) (omega arith) in omega arith

-- ---- parts with the same locals

among_typed : (p : TypedTree) (es : TypedTrees) (ks : List ValueType) → AreWellTyped ks es
    → IsAmong p es → IsWellTyped ks p
among_typed p no_typed ks g among = absurd among
among_typed p (typed e es) ks g (inl same) = rw same g.0
among_typed p (typed e es) ks g (inr among) = among_typed p es ks g.1 among

part_typed : (d p : TypedTree) (ks : List ValueType) → IsWellTyped ks d → IsAmong p (parts d)
    → IsWellTyped ks p
part_typed (typed_constant t v) p ks g among = absurd among
part_typed (typed_local t outside) p ks g among = absurd among
part_typed (typed_attribute t a) p ks g among = absurd among
part_typed (typed_field t on name) p ks g among =
    among_typed p (typed on no_typed) ks (g.0, tt) among
part_typed (typed_has t on name) p ks g among =
    among_typed p (typed on no_typed) ks (g.0, tt) among
part_typed (typed_call t o operands) p ks g among = among_typed p operands ks g.0 among
part_typed (typed_list t elements) p ks g among = among_typed p elements ks g.0 among
part_typed (typed_map t pairs) p ks g among = among_typed p pairs ks g.0 among
part_typed (typed_loop t vars range init condition step result) p ks g among =
    among_typed p (typed range (typed init no_typed)) ks (g.0, (g.1, tt)) among

-- one of the numbers
abbrev IsOne : ℕ → List ℕ → Type 0
IsOne c [] = ⊥
IsOne c (d ∷ ds) = (c ≡ d) ⊎ IsOne c ds

one_paid : (c : ℕ) (costs : List ℕ) → IsOne c costs → c ≤ total costs
one_paid c [] one = absurd one
one_paid c (d ∷ ds) (inl same) = omega (arith, same)
one_paid c (d ∷ ds) (inr one) = let others = one_paid c ds one in omega arith

-- an operand costs no more than the call
call_paid : (o : Overload) (ts : List ValueType) (costs : List ℕ) (sizes : List Size) (c : ℕ)
    → IsOne c costs → c ≤ call_cost o ts costs sizes
call_paid (overloads.Operate operations.And) ts [] sizes c one = absurd one
call_paid (overloads.Operate operations.And) ts (a ∷ []) sizes c one = let all = one_paid c (a ∷ []) one in omega arith
call_paid (overloads.Operate operations.And) ts (a ∷ b ∷ []) sizes c one = let all = one_paid c (a ∷ b ∷ []) one in omega arith
call_paid (overloads.Operate operations.And) ts (a ∷ b ∷ d ∷ ds) sizes c one = let all = one_paid c (a ∷ b ∷ d ∷ ds) one in omega arith
call_paid (overloads.Operate operations.Or) ts [] sizes c one = absurd one
call_paid (overloads.Operate operations.Or) ts (a ∷ []) sizes c one = let all = one_paid c (a ∷ []) one in omega arith
call_paid (overloads.Operate operations.Or) ts (a ∷ b ∷ []) sizes c one = let all = one_paid c (a ∷ b ∷ []) one in omega arith
call_paid (overloads.Operate operations.Or) ts (a ∷ b ∷ d ∷ ds) sizes c one = let all = one_paid c (a ∷ b ∷ d ∷ ds) one in omega arith
call_paid overloads.Conditional ts [] sizes c one = absurd one
call_paid overloads.Conditional ts (a ∷ []) sizes c one = let all = one_paid c (a ∷ []) one in omega arith
call_paid overloads.Conditional ts (a ∷ b ∷ []) sizes c one = let all = one_paid c (a ∷ b ∷ []) one in omega arith
call_paid overloads.Conditional ts (a ∷ b ∷ d ∷ []) sizes c (inl same) = omega arith
call_paid overloads.Conditional ts (a ∷ b ∷ d ∷ []) sizes c (inr (inl same)) = omega arith
call_paid overloads.Conditional ts (a ∷ b ∷ d ∷ []) sizes c (inr (inr (inl same))) = omega arith
call_paid overloads.Conditional ts (a ∷ b ∷ d ∷ []) sizes c (inr (inr (inr other))) = absurd other
call_paid overloads.Conditional ts (a ∷ b ∷ d ∷ x ∷ ds) sizes c one = let all = one_paid c (a ∷ b ∷ d ∷ x ∷ ds) one in omega arith
call_paid (overloads.Operate operations.Not) ts costs sizes c one = let all = one_paid c costs one in omega arith
call_paid (overloads.Operate operations.NotStrictlyFalse) ts costs sizes c one = let all = one_paid c costs one in omega arith
call_paid (overloads.Operate (operations.Compare op)) ts costs sizes c one = let all = one_paid c costs one in omega arith
call_paid (overloads.Operate (operations.Arithmetic op)) ts costs sizes c one = let all = one_paid c costs one in omega arith
call_paid (overloads.Operate operations.Concat) ts costs sizes c one = let all = one_paid c costs one in omega arith
call_paid (overloads.Operate operations.Negate) ts costs sizes c one = let all = one_paid c costs one in omega arith
call_paid (overloads.Operate operations.ListIndex) ts costs sizes c one = let all = one_paid c costs one in omega arith
call_paid (overloads.Operate operations.MapIndex) ts costs sizes c one = let all = one_paid c costs one in omega arith
call_paid (overloads.Operate operations.InList) ts costs sizes c one = let all = one_paid c costs one in omega arith
call_paid (overloads.Operate operations.InMap) ts costs sizes c one = let all = one_paid c costs one in omega arith
call_paid (overloads.Operate operations.Size) ts costs sizes c one = let all = one_paid c costs one in omega arith
call_paid (overloads.Operate (operations.Convert kind)) ts costs sizes c one = let all = one_paid c costs one in omega arith
call_paid (overloads.Operate (operations.TestText test)) ts costs sizes c one = let all = one_paid c costs one in omega arith

module _ (l : LimitsValue) where
  among_costs : (p : TypedTree) (es : TypedTrees) (sizes : List Size) → IsAmong p es
      → IsOne (cost_of p l sizes) (costs_of es l sizes)
  among_costs p no_typed sizes among = absurd among
  among_costs p (typed e es) sizes (inl same) = inl (ap (λ x. cost_of x l sizes) same)
  among_costs p (typed e es) sizes (inr among) = inr (among_costs p es sizes among)

  among_paid : (p : TypedTree) (es : TypedTrees) (sizes : List Size) → IsAmong p es
      → cost_of p l sizes ≤ total (costs_of es l sizes)
  among_paid p es sizes among = one_paid _ (costs_of es l sizes) (among_costs p es sizes among)

  part_paid : (d p : TypedTree) (sizes : List Size) → IsAmong p (parts d)
      → cost_of p l sizes ≤ cost_of d l sizes
  part_paid (typed_constant t v) p sizes among = absurd among
  part_paid (typed_local t outside) p sizes among = absurd among
  part_paid (typed_attribute t a) p sizes among = absurd among
  part_paid (typed_field t on name) p sizes among =
      let all = among_paid p (typed on no_typed) sizes among in omega arith
  part_paid (typed_has t on name) p sizes among =
      let all = among_paid p (typed on no_typed) sizes among in omega arith
  part_paid (typed_call t o operands) p sizes among =
      call_paid o (kinds operands) (costs_of operands l sizes) (sizes_of operands l sizes)
      (cost_of p l sizes) (among_costs p operands sizes among)
  part_paid (typed_list t elements) p sizes among =
      let all = among_paid p elements sizes among in omega arith
  part_paid (typed_map t pairs) p sizes among =
      let all = among_paid p pairs sizes among in omega arith
  part_paid (typed_loop t vars range init condition step result) p sizes among =
      let all = among_paid p (typed range (typed init no_typed)) sizes among in omega arith

-- ---- what is reached

-- an expression is well typed in the types of its locals, which have these types and are within these
-- sizes
pub record Placed (p : TypedTree) (ls : List CelAnswer) (sizes : List Size) : Type 0 where
  pub types : List ValueType
  pub typed : IsWellTyped types p
  pub locals : HaveTypes ls types
  pub within : AllWithin ls sizes

-- after so many turns: the turns that are left, and the accumulator
record Kept (vars : Variables) (each : List ValueType) (kept : ValueType) (over now : Size) (k : ℕ)
    (left : List (List CelAnswer)) (a : CelAnswer) : Type 0 where
  pub elements : TurnsHaveTypes left each
  pub gathered : AnswerHasType a kept
  pub fit : TurnsWithin left (variable_sizes vars over)
  pub few : k + length left ≤ most_of over
  pub within : Within a now

module _ (r : RequestValue) (sound : IsRequest r) (l : LimitsValue) (fits : InLimits r l) where
  has_type : (p : TypedTree) (ks : List ValueType) (ls : List CelAnswer) (a : CelAnswer)
      → IsWellTyped ks p → HaveTypes ls ks → typed_answer p r ls ≡ Some a → AnswerHasType a (kind p)
  has_type p ks ls a g h is =
      let found = answer_typed r sound p ks ls h g in
      let there = found.1 in
      let same : found.0 ≡ a = cc in
      rw same at found.2

  turns_kept : (t : ValueType) (vars : Variables) (range init condition step result : TypedTree)
      (ks : List ValueType) (ls : List CelAnswer) (sizes : List Size)
      (g : IsWellTyped ks (typed_loop t vars range init condition step result)) → HaveTypes ls ks
      → AllWithin ls sizes → (k : ℕ) (left : List (List CelAnswer)) (a : CelAnswer)
      → Gathers vars range init step r ls k left a
      → Kept vars g.2.0 (kind init) (size_of range l sizes) (gathered_size vars range init step l sizes k) k left a
  turns_kept t vars range init condition step result ks ls sizes g h w k left a (none v _ _ over is begins) =
      let types = walked_typed vars (kind range) g.2.0 g.2.1 v (has_type range ks ls (value v) g.0 h over) in
      let room = turns_within vars v (size_of range l sizes)
      (answer_within range ks g.0 r sound l fits ls sizes w (value v) over) in
      let each = rw is at types in
      let some = rw is at room in
      record {
        elements = each;
        gathered = has_type init ks ls a g.1 h begins;
        fit = some.1;
        few = omega (arith, some.0);
        within = answer_within init ks g.1 r sound l fits ls sizes w a begins;
      }
  turns_kept t vars range init condition step result ks ls sizes g h w k left b (more j vs _ a _ before is) =
      let was = turns_kept t vars range init condition step result ks ls sizes g h w j (vs ∷ left) a before in
      let each = variable_sizes vars (size_of range l sizes) in
      let next : Size → Size = λ s. size_of step l (each ++ s ∷ sizes) in
      let now = gathered_size vars range init step l sizes j in
      let fresh : Within b (next now) = answer_within step (g.2.0 ++ kind init ∷ ks) g.2.4 r sound l fits
      (vs ++ a ∷ ls) (each ++ now ∷ sizes)
      (all_within_more vs (a ∷ ls) each (now ∷ sizes) was.fit.0 (was.within, w)) b is in
      let step_type = has_type step (g.2.0 ++ kind init ∷ ks) (vs ++ a ∷ ls) b g.2.4
      (all_have_types vs (a ∷ ls) g.2.0 (kind init ∷ ks) was.elements.0 (was.gathered, h)) is in
      let few = was.few in
      record {
        elements = was.elements.1;
        gathered = rw g.2.5 at step_type;
        fit = was.fit.1;
        few = omega arith;
        within = rw (grown_more next j (size_of init l sizes)) (within_right b now (next now) fresh);
      }

  -- in a turn
  turn_placed : (t : ValueType) (vars : Variables) (range init condition step result p : TypedTree)
      (ls : List CelAnswer) (sizes : List Size) (k : ℕ) (vs : List CelAnswer)
      (left : List (List CelAnswer)) (a : CelAnswer)
      → Placed (typed_loop t vars range init condition step result) ls sizes
      → Gathers vars range init step r ls k (vs ∷ left) a
      → IsAmong p (typed condition (typed step no_typed))
      → Placed p (vs ++ a ∷ ls)
      (variable_sizes vars (size_of range l sizes) ++ gathered_size vars range init step l sizes k ∷ sizes)
  turn_placed t vars range init condition step result p ls sizes k vs left a at before among =
      let g = at.typed in
      let now = turns_kept t vars range init condition step result at.types ls sizes g at.locals at.within k
      (vs ∷ left) a before in
      let each = variable_sizes vars (size_of range l sizes) in
      record {
        types = g.2.0 ++ kind init ∷ at.types;
        typed = among_typed p (typed condition (typed step no_typed)) (g.2.0 ++ kind init ∷ at.types)
            (g.2.2, (g.2.4, tt)) among;
        locals = all_have_types vs (a ∷ ls) g.2.0 (kind init ∷ at.types) now.elements.0
            (now.gathered, at.locals);
        within = all_within_more vs (a ∷ ls) each (gathered_size vars range init step l sizes k ∷ sizes)
            now.fit.0 (now.within, at.within);
      }

  -- at the end of a loop
  end_placed : (t : ValueType) (vars : Variables) (range init condition step result : TypedTree)
      (ls : List CelAnswer) (sizes : List Size) (k : ℕ) (left : List (List CelAnswer)) (a : CelAnswer)
      → Placed (typed_loop t vars range init condition step result) ls sizes
      → Gathers vars range init step r ls k left a
      → Placed result (a ∷ ls)
      (gathered_size vars range init step l sizes (most_of (size_of range l sizes)) ∷ sizes)
  end_placed t vars range init condition step result ls sizes k left a at before =
      let g = at.typed in
      let now = turns_kept t vars range init condition step result at.types ls sizes g at.locals at.within k
      left a before in
      let few = now.few in
      record {
        types = kind init ∷ at.types;
        typed = g.3;
        locals = (now.gathered, at.locals);
        within = (
          later_within _ k (most_of (size_of range l sizes)) (size_of init l sizes) a
              (omega arith) now.within,
          at.within,
        );
      }

  pub placed : (e : TypedTree) → IsWellTyped [] e → (p : TypedTree) (ls : List CelAnswer)
      (sizes : List Size) → Reaches e r l p ls sizes → Placed p ls sizes
  placed e g p ls sizes whole = record { types = []; typed = g; locals = tt; within = tt }
  placed e g p ls sizes (inside d _ _ _ there among) =
      let at = placed e g d ls sizes there in record {
        types = at.types;
        typed = part_typed d p at.types at.typed among;
        locals = at.locals;
        within = at.within;
      }
  placed e g p _ _ (turn t vars range init condition step result _ ls sizes k vs left a there before among) =
      turn_placed t vars range init condition step result p ls sizes k vs left a
      (placed e g (typed_loop t vars range init condition step result) ls sizes there) before among
  placed e g p _ _ (ended t vars range init condition step _ ls sizes k left a there before) =
      end_placed t vars range init condition step p ls sizes k left a
      (placed e g (typed_loop t vars range init condition step p) ls sizes there) before

  -- what is reached comes to an answer within its size
  pub placed_within : (p : TypedTree) (ls : List CelAnswer) (sizes : List Size) → Placed p ls sizes
      → (a : CelAnswer) × (typed_answer p r ls ≡ Some a) × Within a (size_of p l sizes)
  placed_within p ls sizes at =
      let found = answer_typed r sound p at.types ls at.locals at.typed in (
        found.0,
        found.1,
        answer_within p at.types at.typed r sound l fits ls sizes at.within found.0 found.1,
      )

  -- and costs no more than the whole
  pub reached_paid : (e : TypedTree) → IsWellTyped [] e → (p : TypedTree) (ls : List CelAnswer)
      (sizes : List Size) → Reaches e r l p ls sizes → cost_of p l sizes ≤ cost_of e l []
  reached_paid e g p ls sizes whole = omega arith
  reached_paid e g p ls sizes (inside d _ _ _ there among) =
      let outer = reached_paid e g d ls sizes there in
      let part = part_paid l d p sizes among in omega arith
  reached_paid e g p _ _ (turn t vars range init condition step result _ ls sizes k vs left a there before among) =
      let outer = reached_paid e g (typed_loop t vars range init condition step result) ls sizes there in
      let at = placed e g (typed_loop t vars range init condition step result) ls sizes there in
      let now = turns_kept t vars range init condition step result at.types ls sizes at.typed at.locals
      at.within k (vs ∷ left) a before in
      let few = now.few in
      let n = most_of (size_of range l sizes) in
      let turn_sizes : Size → List Size = λ s. variable_sizes vars (size_of range l sizes) ++ s ∷ sizes in
      let next : Size → Size = λ s. size_of step l (turn_sizes s) in
      let cost : Size → ℕ = λ s. cost_of condition l (turn_sizes s) + cost_of step l (turn_sizes s) + 4 in
      let this = turn_paid next cost k n (size_of init l sizes) (omega arith) in
      let part = among_paid l p (typed condition (typed step no_typed))
      (turn_sizes (grown next k (size_of init l sizes))) among in
      omega arith
  reached_paid e g p _ _ (ended t vars range init condition step _ ls sizes k left a there before) =
      let outer = reached_paid e g (typed_loop t vars range init condition step p) ls sizes there in omega arith
