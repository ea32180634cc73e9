-- The policies that are tried, with why each matches or does not.
use Rattle.std.proofs.Common.{arith, ◌≡◌, ◌≢◌, ◌⊎◌, inl, inr, ℕ, ◌+◌, ◌<◌, Bool, true, false, ◌&&◌, List, [], ◌∷◌, ◌++◌, length, take, drop, get_or, map, IsTrue, Option, Some, None, MatchOption, MatchBool, IsSomeAnd, refl, sym, ap, subst, ◌∙◌, add-zero, zero-add}
use Rattle.std.proofs.lemmas.List.{append_assoc, length-map, length-take-le, map-append, take-append-drop, take_more}
use Rattle.std.specs.Prelude.{IfErr, IfOk, Result, Ok, Err}
use Rattle.std.specs.String.{string_bytes}
use Rattle.std.specs.FinMap.{entries}
use Rattle.std.specs.Cmp.Lexicographic.{nat_list_cmp_total}
use Rattle.std.specs.FinMap.{from_entries, is_sorted}
use Rattle.attributes.specs.Headers.{name_cmp}
use Rattle.attributes.specs.Limits.{LimitsValue}
use Rattle.attributes.specs.Request.{IsRequest, RequestValue}
use Rattle.cel_value.specs.Values.{CelAnswer, CelValue, bool, fails, value}
use Rattle.cel_tree.specs.Checked.{CelChecked}
use Rattle.cel_tree.specs.GoodConstants.{HasGoodConstants}
use Rattle.proto_wire.proofs.MapOrder.{entries_from_entries}
use Rattle.rbac_match.specs.Formula.{some_hold}
use Rattle.machine_code.proofs.Chains.{one_end_lem}
use Rattle.rbac_match.specs.Tokens.{Token}
use Rattle.rbac_policy.specs.Condition.{IsProgramOf, Program, came_true}
use Rattle.rbac_policy.specs.Admission.{IsAdmittedAs}
use Rattle.rbac_policy.specs.Filter.{Filter, Policy}
use Rattle.rbac_policy.specs.Named.{named_view, named_views, policy_view}
use Rattle.rbac_policy.specs.Trials.{AreTrials, HasReason, IsReasonOf, Means, TakesSteps, is_match}
use Rattle.rbac_policy.specs.declared.policy.NamedPolicy.{NamedPolicy}
use Rattle.rbac_policy.specs.declared.reason.Reason.{Reason}
use Rattle.rbac_policy.specs.declared.reason.Reason.TheVariants.{NoPermission, NoPrincipal, Matches, ConditionFalse, ConditionFails, ConditionTrue}
use Rattle.rbac_policy.specs.declared.trials.Trial.{Trial}
use Rattle.stack_machine.specs.declared.error.RunError.{RunError}
use Rattle.rbac_policy.specs.private.Runs.{IsFirst, RunsAs, MatchesByRun}
use Rattle.rbac_policy.specs.private.Trials.{EndsWith, HasRunReason, TakesOf}
use Rattle.rbac_policy.proofs.Besides.{Beside}
use Rattle.rbac_policy.proofs.Deciding.{GoodCondition, Stands, listed, order, same_sides, views_are}
use Rattle.rbac_policy.proofs.FirstRun.{Failed}
use Rattle.rbac_policy.proofs.Programs.{program_means}

-- ---- from runs to meanings

module _ (limits : LimitsValue) (r : RequestValue) (valid : IsRequest r) where
  module _ (c : CelChecked) (q : Program) (of : IsProgramOf limits c q) (good : HasGoodConstants c.tree) where
    comes : (answer : CelAnswer) → EndsWith r q answer → Means r c answer
    comes answer (steps, ends, within) =
        let means = program_means limits c q good of r valid in
        let same : answer ≡ means.0 = (one_end_lem q.code r answer means.0 steps means.1 ends means.3).0 in
        means.2 ∙ ap Some (sym same)

    reason_of : (reason : Reason) → IsReasonOf (EndsWith r) (TakesOf r) q reason
        → IsReasonOf (Means r) (TakesSteps limits r) c reason
    reason_of ConditionFalse (v, other, ends) = (v, other, comes (value v) ends)
    reason_of (ConditionFails e) ends = comes (fails e) ends
    reason_of (ConditionTrue steps bound) (ends, (is, came, took)) = (comes (value (bool true)) ends, (q, of, is, came, took))
    reason_of NoPermission h = absurd h
    reason_of NoPrincipal h = absurd h
    reason_of Matches h = absurd h

  of_condition : (reason : Reason) (c : Option CelChecked) (q : Option Program)
      → MatchOption c (q ≡ None) (λ d. IsSomeAnd q (IsProgramOf limits d)) → GoodCondition c
      → IsSomeAnd q (λ program. IsReasonOf (EndsWith r) (TakesOf r) program reason)
      → IsSomeAnd c (λ d. IsReasonOf (Means r) (TakesSteps limits r) d reason)
  of_condition reason c None is good h = absurd h
  of_condition reason None (Some q) is good h = let clash : Some q ≡ None = is in cc
  of_condition reason (Some c) (Some q) is good h = reason_of c q is good reason h

  -- a policy without a condition has none that is enforced, and the other way
  none_of : (c : Option CelChecked) (q : Option Program)
      → MatchOption c (q ≡ None) (λ d. IsSomeAnd q (IsProgramOf limits d)) → q ≡ None → c ≡ None
  none_of None q is none = refl
  none_of (Some c) None is none = absurd is
  none_of (Some c) (Some q) is none = let clash : Some q ≡ None = none in cc

  -- what the runs give as a reason is the policy's
  lifted : (p : Policy CelChecked) (v : Policy Program) → Stands limits r valid v p → (reason : Reason)
      → HasRunReason r v reason → HasReason (Means r) (TakesSteps limits r) r p reason
  lifted p v (is, good) NoPermission h = rw (← is.permissions) h
  lifted p v (is, good) NoPrincipal (some, none) = (rw (← is.permissions) some, rw (← is.principals) none)
  lifted p v (is, good) Matches (sides, none) =
      (sym (same_sides limits r valid p v is) ∙ sides, none_of p.condition v.condition is.condition none)
  lifted p v (is, good) ConditionFalse (sides, h) =
      (sym (same_sides limits r valid p v is) ∙ sides, of_condition ConditionFalse p.condition v.condition is.condition good h)
  lifted p v (is, good) (ConditionFails e) (sides, h) =
      (sym (same_sides limits r valid p v is) ∙ sides, of_condition (ConditionFails e) p.condition v.condition is.condition good h)
  lifted p v (is, good) (ConditionTrue steps bound) (sides, h) =
      (sym (same_sides limits r valid p v is) ∙ sides, of_condition (ConditionTrue steps bound) p.condition v.condition is.condition good h)

  -- what follows a test that is false
  on_rest : (A B C : Type 0) (b : Bool) → (B → C) → MatchBool b A B → MatchBool b A C
  on_rest A B C true go h = h
  on_rest A B C false go h = go h

  -- so of all that were tried
  pub trials_lifted : (number : ℕ) (vs : List (List ℕ × Policy Program)) (ps : List (List ℕ × Policy CelChecked))
      (trials : List Trial) → Beside (Stands limits r valid) vs ps → AreTrials (HasRunReason r) number vs trials
      → AreTrials (HasReason (Means r) (TakesSteps limits r) r) number ps trials
  trials_lifted number [] ps trials beside none = rw beside none
  trials_lifted number (v ∷ vs) ps [] beside none = absurd none
  trials_lifted number (v ∷ vs) ps (t ∷ trials) (p, others, stand, rest, made) (at, name, has, more) =
      rw made (
        at,
        name,
        lifted p v.1 stand t.reason has,
        on_rest _ _ _ (is_match t.reason) (λ next. trials_lifted (number + 1) vs others trials rest next) more,
      )

-- and in the filter, whose policies stand beside what is enforced
module _ (enforced : Filter Program) (list : List Token) (items : List NamedPolicy) (ordered : IsTrue (is_sorted name_cmp (named_views list items)))
    (at : enforced.policies ≡ from_entries (named_views list items)) (limits : LimitsValue) (r : RequestValue) (valid : IsRequest r)
    (filter : Filter CelChecked) (admitted : IsAdmittedAs limits filter enforced) where
  pub filter_tried : (trials : List Trial) → AreTrials (HasRunReason r) 0 (named_views list items) trials
      → AreTrials (HasReason (Means r) (TakesSteps limits r) r) 0 (entries filter.policies) trials
  filter_tried trials are =
      let found = listed enforced list items ordered at limits r valid filter admitted in
      let same : entries filter.policies ≡ found.0 =
      ap entries found.2 ∙ entries_from_entries name_cmp nat_list_cmp_total found.0 (order enforced list items ordered at limits r valid filter admitted) in
      rw same (trials_lifted limits r valid 0 (named_views list items) found.0 trials found.1 are)

-- ---- the loop

module _ (r : RequestValue) where
  -- the policies have their trials, and none matches
  abbrev pub TriedWithoutMatch : ℕ → List (List ℕ × Policy Program) → List Trial → Type 0
  TriedWithoutMatch number [] trials = trials ≡ []
  TriedWithoutMatch number (e ∷ es) [] = ⊥
  TriedWithoutMatch number (e ∷ es) (t ∷ trials) = (t.number ≡ number) × (t.name.now ≡ e.0) × HasRunReason r e.1 t.reason
      × (is_match t.reason ≡ false) × TriedWithoutMatch (number + 1) es trials

  pub unmatched_push : (number : ℕ) (es : List (List ℕ × Policy Program)) (trials : List Trial) (e : List ℕ × Policy Program) (t : Trial)
      → TriedWithoutMatch number es trials → t.number ≡ number + length es → t.name.now ≡ e.0 → HasRunReason r e.1 t.reason
      → is_match t.reason ≡ false → TriedWithoutMatch number (es ++ e ∷ []) (trials ++ t ∷ [])
  unmatched_push number [] trials e t none at name has other =
      rw none (at ∙ add-zero number, name, has, other, refl)
  unmatched_push number (x ∷ es) [] e t none at name has other = absurd none
  unmatched_push number (x ∷ es) (u ∷ trials) e t (a, b, c, d, rest) at name has other =
      (a, b, c, d, unmatched_push (number + 1) es trials e t rest (omega (arith, at)) name has other)

  pub unmatched_match : (number : ℕ) (es more : List (List ℕ × Policy Program)) (trials : List Trial) (e : List ℕ × Policy Program) (t : Trial)
      → TriedWithoutMatch number es trials → t.number ≡ number + length es → t.name.now ≡ e.0 → HasRunReason r e.1 t.reason
      → is_match t.reason ≡ true → AreTrials (HasRunReason r) number (es ++ e ∷ more) (trials ++ t ∷ [])
  unmatched_match number [] more trials e t none at name has matches =
      rw none (at ∙ add-zero number, name, has, rw matches refl)
  unmatched_match number (x ∷ es) more [] e t none at name has matches = absurd none
  unmatched_match number (x ∷ es) more (u ∷ trials) e t (a, b, c, d, rest) at name has matches =
      (a, b, c, rw d (unmatched_match (number + 1) es more trials e t rest (omega (arith, at)) name has matches))

  pub unmatched_all : (number : ℕ) (es : List (List ℕ × Policy Program)) (trials : List Trial) → TriedWithoutMatch number es trials
      → AreTrials (HasRunReason r) number es trials
  unmatched_all number [] trials none = none
  unmatched_all number (x ∷ es) [] none = none
  unmatched_all number (x ∷ es) (u ∷ trials) (a, b, c, d, rest) = (a, b, c, rw d (unmatched_all (number + 1) es trials rest))

  -- a reason not to match says that the policy does not match
  unmatched_by_run : (v : Policy Program) (reason : Reason) → HasRunReason r v reason → is_match reason ≡ false → MatchesByRun r v false
  unmatched_by_run v NoPermission h other = inl (ap (λ b. b && some_hold r v.principals) h, refl)
  unmatched_by_run v NoPrincipal h other =
      inl (ap (λ b. b && some_hold r v.principals) h.0 ∙ h.1, refl)
  unmatched_by_run v Matches h other = let clash : true ≡ false = other in absurd cc
  unmatched_by_run v ConditionFalse (sides, h) other = inr (sides, by v.condition h)
    where
      came : (w : CelValue) → w ≢ bool true → false ≡ came_true (Some (value w))
      came (bool true) apart = absurd (apart refl)
      came (bool false) apart = refl
      came _ apart = refl

      by : (q : Option Program) → IsSomeAnd q (λ program. IsReasonOf (EndsWith r) (TakesOf r) program ConditionFalse)
          → MatchOption q (false ≡ true) (λ program. RunsAs r program false)
      by None h = absurd h
      by (Some q) (w, apart, (steps, ends, within)) = (value w, steps, ends, within, came w apart)
  unmatched_by_run v (ConditionFails e) (sides, h) other = inr (sides, by v.condition h)
    where
      by : (q : Option Program) → IsSomeAnd q (λ program. IsReasonOf (EndsWith r) (TakesOf r) program (ConditionFails e))
          → MatchOption q (false ≡ true) (λ program. RunsAs r program false)
      by None h = absurd h
      by (Some q) (steps, ends, within) = (fails e, steps, ends, within, refl)
  unmatched_by_run v (ConditionTrue steps bound) h other = let clash : true ≡ false = other in absurd cc

  pub unmatched_failed : (number : ℕ) (es : List (List ℕ × Policy Program)) (trials : List Trial) → TriedWithoutMatch number es trials
      → Failed r (map (λ e. e.1) es)
  unmatched_failed number [] trials none = tt
  unmatched_failed number (x ∷ es) [] none = absurd none
  unmatched_failed number (x ∷ es) (u ∷ trials) (a, b, c, d, rest) =
      (unmatched_by_run x.1 u.reason c d, unmatched_failed (number + 1) es trials rest)

  -- the policies before the present one, that one, and those after it
  module _ (list : List Token) (items : List NamedPolicy) (i : ℕ) (item : NamedPolicy) (within : i < length items) (is : item ≡ get_or items i item)
      (trials : List Trial) (before : TriedWithoutMatch 0 (named_views list (take i items)) trials) where
    more : take (i + 1) items ≡ take i items ++ item ∷ []
    more = take_more items i item within ∙ ap (λ x. take i items ++ x ∷ []) (sym is)

    longer : named_views list (take (i + 1) items) ≡ named_views list (take i items) ++ (named_view list) item ∷ []
    longer = ap (named_views list) more ∙ map-append (named_view list) (take i items) (item ∷ [])

    split : named_views list items ≡ named_views list (take i items) ++ (named_view list) item ∷ named_views list (drop (i + 1) items)
    split =
        ap (named_views list) (sym (take-append-drop (i + 1) items) ∙ ap (λ xs. xs ++ drop (i + 1) items) more ∙ append_assoc (take i items) (item ∷ []) (drop (i + 1) items))
        ∙ map-append (named_view list) (take i items) (item ∷ drop (i + 1) items)

    count : i ≡ 0 + length (named_views list (take i items))
    count = sym (zero-add _ ∙ length-map (take i items) (named_view list) ∙ length-take-le i items (omega (arith, within)))

    module _ (t : Trial) (number : t.number ≡ i) (name : t.name.now ≡ string_bytes item.name)
        (has : HasRunReason r ((policy_view list) item) t.reason) where
      pub next_unmatched : is_match t.reason ≡ false → TriedWithoutMatch 0 (named_views list (take (i + 1) items)) (trials ++ t ∷ [])
      next_unmatched other =
          rw longer (unmatched_push 0 (named_views list (take i items)) trials ((named_view list) item) t before (number ∙ count) name has other)

      pub reported_match : is_match t.reason ≡ true → AreTrials (HasRunReason r) 0 (named_views list items) (trials ++ t ∷ [])
      reported_match matches =
          rw split (unmatched_match 0 (named_views list (take i items)) (named_views list (drop (i + 1) items)) trials ((named_view list) item) t before (number ∙ count) name has matches)

  -- the policies that were tried reported that they do not match
  pub tried_failed : (list : List Token) (items : List NamedPolicy) (trials : List Trial) → TriedWithoutMatch 0 (named_views list items) trials → Failed r (map (policy_view list) items)
  tried_failed list items trials before = subst (Failed r) (views_are list items) (unmatched_failed 0 (named_views list items) trials before)

  -- a reason to match says that the policy matches
  matched_by_run : (v : Policy Program) (reason : Reason) → HasRunReason r v reason → is_match reason ≡ true → MatchesByRun r v true
  matched_by_run v NoPermission h matches = let clash : false ≡ true = matches in absurd cc
  matched_by_run v NoPrincipal h matches = let clash : false ≡ true = matches in absurd cc
  matched_by_run v Matches (sides, none) matches = inr (sides, rw none refl)
  matched_by_run v ConditionFalse h matches = let clash : false ≡ true = matches in absurd cc
  matched_by_run v (ConditionFails e) h matches = let clash : false ≡ true = matches in absurd cc
  matched_by_run v (ConditionTrue steps bound) (sides, h) matches = inr (sides, by v.condition h)
    where
      by : (q : Option Program) → IsSomeAnd q (λ program. IsReasonOf (EndsWith r) (TakesOf r) program (ConditionTrue steps bound))
          → MatchOption q (true ≡ true) (λ program. RunsAs r program true)
      by None h = absurd h
      by (Some q) ((took, ends, within), rest) = (value (bool true), took, ends, within, refl)

  -- trials say which is the first policy that matches
  first_of : (i : ℕ) (es : List (List ℕ × Policy Program)) (trials : List Trial) → AreTrials (HasRunReason r) i es trials
      → (o : Option ℕ) × IsFirst r i (map (λ e. e.1) es) o
  first_of i [] trials none = (None, refl)
  first_of i (e ∷ es) [] none = absurd none
  first_of i (e ∷ es) (t ∷ trials) (at, name, has, next) =
      elim (is_match t.reason) as (λ b. is_match t.reason ≡ b → MatchBool b (trials ≡ []) (AreTrials (HasRunReason r) (i + 1) es trials)
      → (o : Option ℕ) × IsFirst r i (map (λ x. x.1) (e ∷ es)) o) [
        | true ↦ λ matches last. (Some i, inl (matched_by_run e.1 t.reason has matches, refl))
        | false ↦ λ other rest.
            let later = first_of (i + 1) es trials rest in
            (later.0, inr (unmatched_by_run e.1 t.reason has other, later.1))
      ] refl next

  pub trials_first : (list : List Token) (items : List NamedPolicy) (trials : List Trial) → AreTrials (HasRunReason r) 0 (named_views list items) trials
      → (o : Option ℕ) × IsFirst r 0 (map (policy_view list) items) o
  trials_first list items trials are =
      let found = first_of 0 (named_views list items) trials are in
      (found.0, subst (λ ps. IsFirst r 0 ps found.0) (views_are list items) found.1)

-- ---- how there may be no trials

-- what is no answer is out of memory or out of steps
pub only_errors : {V : Type 0} (answer : Result V RunError) → IfOk answer (λ v. ⊥)
    → IfErr answer (λ e. (e ≡ RunError.Memory) ⊎ (e ≡ RunError.OutOfSteps))
    → (answer ≡ Err RunError.Memory) ⊎ (answer ≡ Err RunError.OutOfSteps)
only_errors (Ok v) none is = absurd none
only_errors (Err e) none (inl memory) = inl (ap Err memory)
only_errors (Err e) none (inr out) = inr (ap Err out)

-- and where it is never of steps
pub never_out : {V : Type 0} (answer : Result V RunError) → IfErr answer (λ e. e ≡ RunError.Memory)
    → answer ≢ Err RunError.OutOfSteps
never_out {V} (Ok v) is out = let clash : ◌≡◌ {A = Result V RunError} (Ok v) (Err RunError.OutOfSteps) = out in absurd cc
never_out {V} (Err e) is out =
    let clash : ◌≡◌ {A = Result V RunError} (Err RunError.Memory) (Err RunError.OutOfSteps) = sym (ap Err is) ∙ out in absurd cc
