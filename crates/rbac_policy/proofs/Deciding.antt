-- What the runs of conditions say of a filter's answer.
use Rattle.std.proofs.Common.{◌≡◌, inl, inr, ℕ, ◌+◌, Bool, true, false, cond, T, IsTrue, ◌&&◌, List, [], ◌∷◌, Option, Some, None, MatchOption, IsSomeAnd, IfSome, is_some, map, refl, sym, ap, ap₂, subst, ◌∙◌}
use Rattle.std.specs.List.{position_from}
use Rattle.std.specs.Ordering.{eq_by_cmp, is_lt}
use Rattle.std.specs.Cmp.Lexicographic.{nat_list_cmp_total}
use Rattle.std.specs.FinMap.{find, from_entries, get, get-from_entries, is_sorted}
use Rattle.attributes.specs.Headers.{name_cmp}
use Rattle.attributes.specs.Limits.{InLimits, LimitsValue}
use Rattle.attributes.specs.Request.{IsRequest, RequestValue}
use Rattle.cel_tree.specs.Checked.{CelChecked}
use Rattle.cel_tree.specs.GoodConstants.{HasGoodConstants}
use Rattle.cel_read.proofs.GoodConstantLaws.{expr_good}
use Rattle.proto_wire.proofs.MapOrder.{above_all, both_first, both_second, found_later}
use Rattle.rbac_match.specs.Formula.{Formulas, some_hold}
use Rattle.machine_code.specs.Machine.{RunsOut}
use Rattle.rbac_match.specs.Tokens.{Token}
use Rattle.rbac_policy.specs.Admission.{IsAdmittedAs}
use Rattle.rbac_policy.specs.Condition.{IsProgramOf, Program, TakesTooLong, is_met}
use Rattle.rbac_policy.specs.Enforced.{EnforcesPolicy}
use Rattle.rbac_policy.specs.Filter.{Filter, Policy}
use Rattle.rbac_policy.specs.Message.{IsCondition, IsPolicy, condition_in}
use Rattle.rbac_policy.specs.Named.{named_views, policy_view}
use Rattle.rbac_policy.specs.Verdict.{IsUnconditional, IsVerdict, SomeAsked, condition_holds, policy_matches, sides_match}
use Rattle.rbac_policy.specs.declared.policy.NamedPolicy.{NamedPolicy}
use Rattle.rbac_policy.specs.private.Action.{allows}
use Rattle.rbac_policy.specs.private.Runs.{HaveNoConditions, IsFirst, ExceedsBound, RunsAs, OnePolicyAsks, MatchesByRun}
use Rattle.rbac_policy.proofs.Besides.{Beside, beside_map, found_itself, name_same, sorted_beside, t_of, there}
use Rattle.rbac_policy.proofs.First.{Passes, in_rest, least_first, lesser_in_list, lesser_in_map, stands, verdict}
use Rattle.rbac_policy.proofs.Programs.{not_both, program_unique, run_is_met, within_bound}

-- the constants of a condition have the types of their kinds
abbrev pub GoodCondition : Option CelChecked → Type 0
GoodCondition None = Unit {0}
GoodCondition (Some c) = HasGoodConstants c.tree

-- as those of a policy that was read have
good_of : (parts : List (List ℕ)) (p : Policy CelChecked) → IsPolicy parts p → GoodCondition p.condition
good_of parts p is = by p.condition is.condition
  where
    by : (c : Option CelChecked) → IsCondition (condition_in is.fs) c → GoodCondition c
    by None none = tt
    by (Some c) reads = expr_good (condition_in is.fs) c reads.1

module _ (limits : LimitsValue) (r : RequestValue) (valid : IsRequest r) where
  -- what is enforced stands for the policy
  abbrev pub Stands : Policy Program → Policy CelChecked → Type 0
  Stands v p = EnforcesPolicy limits p v × GoodCondition p.condition

  abbrev matches : Policy CelChecked → Bool
  matches = policy_matches (is_met r) r

  -- ---- one policy

  pub same_sides : (p : Policy CelChecked) (v : Policy Program) → EnforcesPolicy limits p v
      → sides_match r v ≡ sides_match r p
  same_sides p v is =
      let both : Formulas → Formulas → Bool = λ x y. some_hold r x && some_hold r y in
      ap₂ both is.permissions is.principals

  condition_reported : (b : Bool) (c : Option CelChecked) (q : Option Program)
      → MatchOption c (q ≡ None) (λ d. IsSomeAnd q (IsProgramOf limits d)) → GoodCondition c
      → MatchOption q (b ≡ true) (λ program. RunsAs r program b) → b ≡ condition_holds (is_met r) c
  condition_reported b None None is good reported = reported
  condition_reported b None (Some q) is good reported = let clash : Some q ≡ None = is in cc
  condition_reported b (Some c) None is good reported = absurd is
  condition_reported b (Some c) (Some q) is good reported = run_is_met limits c q good is r valid b reported

  -- what the runs say is whether the policy matches
  reported : (p : Policy CelChecked) (v : Policy Program) → Stands v p → (b : Bool) → MatchesByRun r v b → b ≡ matches p
  reported p v (is, good) b (inl (fails_to, fails)) =
      let sides : sides_match r p ≡ false = sym (same_sides p v is) ∙ fails_to in
      fails ∙ sym (ap (λ s. s && condition_holds (is_met r) p.condition) sides)
  reported p v (is, good) b (inr (does, runs)) =
      let sides : sides_match r p ≡ true = sym (same_sides p v is) ∙ does in
      condition_reported b p.condition v.condition is.condition good runs ∙ sym (ap (λ s. s && condition_holds (is_met r) p.condition) sides)

  -- this holds of the condition's program
  abbrev ItsProgram : (Program → Type 0) → CelChecked → Type 0
  ItsProgram P c = (program : Program) × IsProgramOf limits c program × P program

  -- what is asked for is the condition's
  asks_here : (P : Program → Type 0) (c : Option CelChecked) (q : Option Program)
      → MatchOption c (q ≡ None) (λ d. IsSomeAnd q (IsProgramOf limits d)) → GoodCondition c
      → IsSomeAnd q P → (d : CelChecked) × (c ≡ Some d) × HasGoodConstants d.tree × ItsProgram P d
  asks_here P c None is good out = absurd out
  asks_here P None (Some q) is good out = let clash : Some q ≡ None = is in cc
  asks_here P (Some d) (Some q) is good out = (d, refl, good, (q, is, out))

  -- no run both says and passes its bound
  matches_or_exceeds : (c : CelChecked) → TakesTooLong limits r c → (p : Policy CelChecked) (v : Policy Program) → Stands v p
      → (b : Bool) → MatchesByRun r v b → sides_match r p ≡ true → p.condition ≡ Some c → ⊥
  matches_or_exceeds c (q, of, out) p v (is, good) b (inl (fails_to, fails)) sides at =
      let clash : false ≡ true = sym fails_to ∙ same_sides p v is ∙ sides in absurd cc
  matches_or_exceeds c (q, of, out) p v (is, good) b (inr (does, runs)) sides at =
      by p.condition v.condition is.condition at runs
    where
      by : (d : Option CelChecked) (x : Option Program) → MatchOption d (x ≡ None) (λ e. IsSomeAnd x (IsProgramOf limits e))
          → d ≡ Some c → MatchOption x (b ≡ true) (λ program. RunsAs r program b) → ⊥
      by None x of' same run = let clash : None ≡ Some c = same in absurd cc
      by (Some d) None of' same run = of'
      by (Some d) (Some x) of' same run =
          let one : d ≡ c = cc in
          let program : q ≡ x = program_unique limits c q x of (subst (λ e. IsProgramOf limits e x) one of') in
          not_both x r b run (subst (λ y. RunsOut y.code r y.bound) program out)

  -- ---- policies in their order

  -- the first whose runs say that it matches is the first that matches
  first_is : (i : ℕ) (vs : List (List ℕ × Policy Program)) (ps : List (List ℕ × Policy CelChecked)) (o : Option ℕ)
      → Beside Stands vs ps → IsFirst r i (map (λ e. e.1) vs) o → o ≡ position_from (λ e. matches e.1) i ps
  first_is i [] ps o beside none = rw beside none
  first_is i (v ∷ vs) ps o (p, others, stand, rest, made) (inl (does, is)) =
      let test : List ℕ × Policy CelChecked → Bool = λ e. matches e.1 in
      rw made (is ∙ ap (λ b. cond b (Some i) (position_from test (i + 1) others)) (reported p v.1 stand true does))
  first_is i (v ∷ vs) ps o (p, others, stand, rest, made) (inr (fails_to, later)) =
      let test : List ℕ × Policy CelChecked → Bool = λ e. matches e.1 in
      rw made (first_is (i + 1) vs others o rest later ∙ ap (λ b. cond b (Some i) (position_from test (i + 1) others)) (reported p v.1 stand false fails_to))

  -- the policy of this name is asked for its condition
  record AskedIn (ps : List (List ℕ × Policy CelChecked)) (c : CelChecked) : Type 0 where
    name : List ℕ
    policy : Policy CelChecked
    found : find name_cmp name ps ≡ Some policy
    sides : sides_match r policy ≡ true
    condition : policy.condition ≡ Some c
    least : (other : List ℕ) → Passes matches ps other → is_lt (name_cmp other name) ≡ false

  -- so the program is that of a condition that is asked for
  asks_asked : (P : Program → Type 0) (vs : List (List ℕ × Policy Program)) (ps : List (List ℕ × Policy CelChecked)) → T (is_sorted name_cmp ps)
      → Beside Stands vs ps → OnePolicyAsks P r (map (λ e. e.1) vs)
      → (c : CelChecked) × AskedIn ps c × HasGoodConstants c.tree × ItsProgram P c
  asks_asked P [] ps sorted beside none = absurd none
  asks_asked P (v ∷ vs) ps sorted (p, others, (is, good), rest, made) (inl (does, out)) =
      let order : T (is_sorted name_cmp ((v.0, p) ∷ others)) = subst (λ xs. T (is_sorted name_cmp xs)) made sorted in
      let here = asks_here P p.condition v.1.condition is.condition good out in
      let asked : AskedIn ((v.0, p) ∷ others) here.0 = record {
        name = v.0;
        policy = p;
        found = found_itself (v.0, p) others;
        sides = sym (same_sides p v.1 is) ∙ does;
        condition = here.1;
        least = least_first matches 0 (v.0, p) others order;
      } in
      (here.0, subst (λ xs. AskedIn xs here.0) (sym made) asked, here.2, here.3)
  asks_asked P (v ∷ vs) ps sorted (p, others, stand, rest, made) (inr (fails_to, later)) =
      let order : T (is_sorted name_cmp ((v.0, p) ∷ others)) = subst (λ xs. T (is_sorted name_cmp xs)) made sorted in
      let it = asks_asked P vs others (both_second _ _ order) rest later in
      let asked : AskedIn ((v.0, p) ∷ others) it.0 = record {
        name = it.1.name;
        policy = it.1.policy;
        found = found_later name_cmp nat_list_cmp_total name_same (v.0, p) others it.1.name it.1.policy order it.1.found;
        sides = it.1.sides;
        condition = it.1.condition;
        least = λ other h. it.1.least other (in_rest matches 0 (v.0, p) others order (sym (reported p v.1 stand false fails_to)) other h);
      } in
      (it.0, subst (λ xs. AskedIn xs it.0) (sym made) asked, it.2, it.3)

  -- where a condition that is asked for takes too long, no first one is reported
  asked_or_first : (c : CelChecked) → TakesTooLong limits r c → (i : ℕ) (vs : List (List ℕ × Policy Program))
      (ps : List (List ℕ × Policy CelChecked)) (o : Option ℕ) → T (is_sorted name_cmp ps)
      → Beside Stands vs ps → IsFirst r i (map (λ e. e.1) vs) o → AskedIn ps c → ⊥
  asked_or_first c long i [] ps o sorted beside first asked =
      let clash : None ≡ Some asked.policy = subst (λ xs. find name_cmp asked.name xs ≡ Some asked.policy) beside asked.found in absurd cc
  asked_or_first c long i (v ∷ vs) ps o sorted (p, others, stand, rest, made) first given =
      let asked : AskedIn ((v.0, p) ∷ others) c = subst (λ xs. AskedIn xs c) made given in
      elim (eq_by_cmp name_cmp asked.name v.0) as (λ t. eq_by_cmp name_cmp asked.name v.0 ≡ t
      → cond t (Some p) (find name_cmp asked.name others) ≡ Some asked.policy → ⊥) [
        | true ↦ λ tied found.
            let same : p ≡ asked.policy = cc in
            let sides : sides_match r p ≡ true = subst (λ x. sides_match r x ≡ true) (sym same) asked.sides in
            let at : p.condition ≡ Some c = subst (λ x. x.condition ≡ Some c) (sym same) asked.condition in
            elim first [
              | inl (does, is) ↦ matches_or_exceeds c long p v.1 stand true does sides at
              | inr (fails_to, later) ↦ matches_or_exceeds c long p v.1 stand false fails_to sides at
            ]
        | false ↦ λ apart found. further asked found (λ one next. asked_or_first c long (i + 1) vs others o (both_second _ _ order) rest next one) first
      ] refl asked.found
    where
      order : T (is_sorted name_cmp ((v.0, p) ∷ others))
      order = subst (λ xs. T (is_sorted name_cmp xs)) made sorted

      later_passes : (other : List ℕ) → Passes matches others other → Passes matches ((v.0, p) ∷ others) other
      later_passes other h =
          let x = there (λ y. IsTrue (matches y)) (find name_cmp other others) h in
          let found = found_later name_cmp nat_list_cmp_total name_same (v.0, p) others other x.0 order x.1 in
          subst (λ y. IsSomeAnd y (λ z. IsTrue (matches z))) (sym found) x.2

      further : (asked : AskedIn ((v.0, p) ∷ others) c) → find name_cmp asked.name others ≡ Some asked.policy
          → (AskedIn others c → IsFirst r (i + 1) (map (λ e. e.1) vs) o → ⊥)
          → IsFirst r i (map (λ e. e.1) (v ∷ vs)) o → ⊥
      further asked found again (inl (does, is)) =
          let here : Passes matches ((v.0, p) ∷ others) v.0 =
          subst (λ y. IsSomeAnd y (λ z. IsTrue (matches z))) (sym (found_itself (v.0, p) others)) (sym (reported p v.1 stand true does)) in
          let less = above_all name_cmp nat_list_cmp_total name_same v.0 others asked.name asked.policy (both_first _ _ order) found in
          let clash : true ≡ false = sym (ap is_lt less) ∙ asked.least v.0 here in absurd cc
      further asked found again (inr (fails_to, later)) =
          again (record {
            name = asked.name;
            policy = asked.policy;
            found = found;
            sides = asked.sides;
            condition = asked.condition;
            least = λ other h. asked.least other (later_passes other h);
          }) later

-- the policies of named ones
pub views_are : (list : List Token) (items : List NamedPolicy) → map (λ e. e.1) (named_views list items) ≡ map (policy_view list) items
views_are list [] = refl
views_are list (p ∷ items) = ap (λ xs. (policy_view list) p ∷ xs) (views_are list items)

-- none has a condition where the filter has none
unconditional : (vs : List (List ℕ × Policy Program)) → T (is_sorted name_cmp vs)
    → ((name : List ℕ) (v : Policy Program) → find name_cmp name vs ≡ Some v → v.condition ≡ None)
    → HaveNoConditions (map (λ e. e.1) vs)
unconditional [] sorted each = tt
unconditional (v ∷ vs) sorted each = (
  each v.0 v.1 (found_itself v vs),
  unconditional vs (both_second _ _ sorted) (λ name x found. each name x (found_later name_cmp nat_list_cmp_total name_same v vs name x sorted found)),
)

-- what is enforced, by its policies in the order of their names
module _ (enforced : Filter Program) (list : List Token) (items : List NamedPolicy) (ordered : IsTrue (is_sorted name_cmp (named_views list items)))
    (at : enforced.policies ≡ from_entries (named_views list items)) where
  enforced_at : (name : List ℕ) → get enforced.policies name ≡ find name_cmp name (named_views list items)
  enforced_at name = ap (λ m. get m name) at ∙ get-from_entries nat_list_cmp_total (named_views list items) name

  pub have_none : IsUnconditional enforced → HaveNoConditions (map (policy_view list) items)
  have_none none =
      let each : (name : List ℕ) (v : Policy Program) → find name_cmp name (named_views list items) ≡ Some v → v.condition ≡ None =
      (λ name v found. subst (λ o. IfSome o (λ p. p.condition ≡ None)) (enforced_at name ∙ found) (none name)) in
      subst HaveNoConditions (views_are list items) (unconditional (named_views list items) (t_of _ ordered) each)

  module _ (limits : LimitsValue) (r : RequestValue) (valid : IsRequest r) (filter : Filter CelChecked)
      (admitted : IsAdmittedAs limits filter enforced) where
    each_stands : (x : Option (Policy CelChecked)) (y : Option (Policy Program)) (n : Option (List (List ℕ)))
        → MatchOption x (y ≡ None) (λ p. IsSomeAnd y (EnforcesPolicy limits p))
        → MatchOption n (x ≡ None) (λ parts. IsSomeAnd x (IsPolicy parts))
        → MatchOption y (x ≡ None) (λ v. IsSomeAnd x (Stands limits r valid v))
    each_stands None None n is of = refl
    each_stands None (Some v) n is of = let clash : Some v ≡ None = is in cc
    each_stands (Some p) None n is of = absurd is
    each_stands (Some p) (Some v) None is of = let clash : Some p ≡ None = of in cc
    each_stands (Some p) (Some v) (Some parts) is of = (is, good_of parts p of)

    -- the filter's policies stand beside what is enforced
    pub listed : (ps : List (List ℕ × Policy CelChecked)) × Beside (Stands limits r valid) (named_views list items) ps
        × (filter.policies ≡ from_entries ps)
    listed =
        let is = admitted.2 in
        beside_map (Stands limits r valid) filter.policies (named_views list items) (t_of _ ordered) (λ name.
        subst (λ o. MatchOption o (get filter.policies name ≡ None) (λ v. IsSomeAnd (get filter.policies name) (Stands limits r valid v))) (enforced_at name)
        (each_stands (get filter.policies name) (get enforced.policies name) _ (is.enforces.policies name) (is.admissible.message.rules.policies.2 name)))

    pub order : T (is_sorted name_cmp listed.0)
    order = subst T (sorted_beside (Stands limits r valid) (named_views list items) listed.0 listed.1) (t_of _ ordered)

    -- the first that matches by its runs is the filter's answer
    pub found_verdict : (o : Option ℕ) → IsFirst r 0 (map (policy_view list) items) o
        → IsVerdict (is_met r) r filter (allows enforced.action (is_some o)) o
    found_verdict o first =
        let by_runs : IsFirst r 0 (map (λ e. e.1) (named_views list items)) o = subst (λ xs. IsFirst r 0 xs o) (sym (views_are list items)) first in
        rw admitted.2.enforces.action (verdict (is_met r) r listed.0 order filter listed.2 o
        (first_is limits r valid 0 (named_views list items) listed.0 o listed.1 by_runs))

    asking_one : (P : Program → Type 0) → OnePolicyAsks P r (map (policy_view list) items)
        → (c : CelChecked) × AskedIn limits r valid listed.0 c × HasGoodConstants c.tree × ItsProgram limits r valid P c
    asking_one P asks =
        asks_asked limits r valid P (named_views list items) listed.0 order listed.1
        (subst (λ xs. OnePolicyAsks P r xs) (sym (views_are list items)) asks)

    -- a program that is asked for is of a condition that the verdict asks for
    pub asking : (P : Program → Type 0) → OnePolicyAsks P r (map (policy_view list) items)
        → SomeAsked (is_met r) (λ c. (program : Program) × IsProgramOf limits c program × P program) r filter
    asking P asks =
        let it = asking_one P asks in
        let stand : get filter.policies it.1.name ≡ Some it.1.policy = stands (is_met r) r listed.0 order filter listed.2 it.1.name ∙ it.1.found in (
          it.0,
          (
            it.1.name,
            subst (λ o. IsSomeAnd o (λ p. IsTrue (sides_match r p) × (p.condition ≡ Some it.0))) (sym stand) (it.1.sides, it.1.condition),
            lesser_in_map (is_met r) r listed.0 order filter listed.2 it.1.name it.1.least,
          ),
          it.3,
        )

    -- on a request within the limits no run passes its bound
    pub none_passes : InLimits r limits → OnePolicyAsks (ExceedsBound r) r (map (policy_view list) items) → ⊥
    none_passes inside passes =
        let it = asking_one (ExceedsBound r) passes in
        let (q, of, out) = it.3 in
        within_bound limits it.0 q it.2 of r valid inside out

    -- where a condition that is asked for takes too long, no first one is reported
    pub asked_is_reported : SomeAsked (is_met r) (TakesTooLong limits r) r filter → (o : Option ℕ)
        → IsFirst r 0 (map (policy_view list) items) o → ⊥
    asked_is_reported (c, (name, has, lesser), long) o first =
        let x = there (λ p. IsTrue (sides_match r p) × (p.condition ≡ Some c)) (get filter.policies name) has in
        asked_or_first limits r valid c long 0 (named_views list items) listed.0 o order listed.1
        (subst (λ xs. IsFirst r 0 xs o) (sym (views_are list items)) first)
        (record {
          name = name;
          policy = x.0;
          found = sym (stands (is_met r) r listed.0 order filter listed.2 name) ∙ x.1;
          sides = x.2.0;
          condition = x.2.1;
          least = lesser_in_list (is_met r) r listed.0 order filter listed.2 name lesser;
        })
