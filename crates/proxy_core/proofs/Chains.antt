-- Filters are tried one after the other; and what is enforced decides as what was written.
use Rattle.std.proofs.Common.{◌≡◌, inl, inr, ℕ, zero, suc, ◌+◌, ◌<◌, ◌≤◌, Bool, true, false, true≢false, Option, Some, None, List, [], ◌∷◌, ◌++◌, length, map, drop, get_or, option_map, refl, sym, ap, subst, ◌∙◌, arith, append_assoc, append-nil, if◌then◌else◌}
use Rattle.std.specs.Prelude.{MatchBool, is_some as has_some}
use Rattle.std.specs.List.{AllByRecursion, AllZip}
use Rattle.std.proofs.lemmas.List.{drop_all}
use Rattle.std.proofs.Math.Logic.{∥∥₁_elim, ∥∥₁_prop}
use Rattle.std.proofs.Props.{props}
use Rattle.std.proofs.lemmas.Grind.{merely}
use Rattle.attributes.specs.Limits.{InLimits, LimitsValue}
use Rattle.attributes.specs.Request.{RequestValue}
use Rattle.proto_wire.specs.Merge.{SomeOf}
use Rattle.cel_tree.specs.Checked.{CelChecked}
use Rattle.rbac_policy.specs.Admission.{IsAdmittedAs}
use Rattle.rbac_policy.specs.Filter.{Filter}
use Rattle.rbac_policy.specs.declared.filter.Admitted.{Admitted}
use Rattle.ads.specs.Answer.{Accepted, AdmittedValue}
use Rattle.ads.specs.Client.{WasAdmitted}
use Rattle.ads.specs.Config.{FilterValue}
use Rattle.ads.specs.Views.{admitted_view, policies_view}
use Rattle.http_front.specs.Answer.{ReplyValue, answer_of}
use Rattle.http_front.specs.declared.answer.Case.{Case}
use Rattle.http_front.specs.declared.answer.Case.TheVariants as cases
use Rattle.http_front.specs.declared.ask.Ask.{Ask}
use Rattle.http_front.specs.declared.ask.Ask.TheVariants.{Judge, Fault}
use Rattle.proxy_core.specs.Chain.{AreRepliesTo, Chain, ChainAsks, IsReplyTo, IsUnready, Judges, unready, decided, out_of_memory, VerdictValue}
use Rattle.proxy_core.specs.Run.{Acknowledged, AskCondition, DecideByMeaning, Rules}
use Rattle.proxy_core.specs.Step.{AreEnforced, AsksAsWritten, DecidesAsWritten}
use Rattle.proxy_core.specs.private.Deciding.{CanDecide}
use Rattle.proxy_core.proofs.Standing.{IsEnforced, StandsFor}

-- ---- filters in their order

-- the filters from a place on
pub drop_at : (xs : List (Option Admitted)) (i : ℕ) (d : Option Admitted) → i < length xs
    → policies_view (drop i xs) ≡ option_map admitted_view (get_or xs i d) ∷ policies_view (drop (suc i) xs)
drop_at [] i d within = absurd (omega arith)
drop_at (x ∷ xs) zero d within = refl
drop_at (x ∷ xs) (suc i) d within = drop_at xs i d (omega arith)

-- whether a filter has policies
pub is_none : (o : Option Admitted) → has_some o ≡ false → option_map admitted_view o ≡ None
is_none None none = refl
is_none (Some a) none = absurd (true≢false none)

pub is_some : (o : Option Admitted) → has_some o ≡ true → option_map admitted_view o ≡ None → ⊥
is_some None some none = true≢false (sym some)
is_some (Some a) some none = absurd cc

pub all_at : (P : Option AdmittedValue → Type 0) (xs : List (Option Admitted)) (i : ℕ) (d : Option Admitted)
    → i < length xs → AllByRecursion P (policies_view xs) → P (option_map admitted_view (get_or xs i d))
all_at P [] i d within all = absurd (omega arith)
all_at P (x ∷ xs) zero d within (one, all) = one
all_at P (x ∷ xs) (suc i) d within (one, all) = all_at P xs i d (omega arith) all

module _ (r : RequestValue) where
  abbrev Chained : List (Option AdmittedValue) → List VerdictValue → Bool → Type 0
  Chained = Chain DecidesAsWritten AsksAsWritten r

  -- what comes of the filters that are left comes of all, behind these matches
  pub record SoFar (all left : List (Option AdmittedValue)) (matches : List (Option ℕ)) : Type 0 where
    pub chain : (more : List VerdictValue) (is_allowed : Bool) → Chained left more is_allowed
        → (verdicts : List VerdictValue) × Chained all verdicts is_allowed
        × (matches ++ map (λ v. v.matched) more ≡ map (λ v. v.matched) verdicts)
    pub asks : ChainAsks DecidesAsWritten AsksAsWritten r left → ChainAsks DecidesAsWritten AsksAsWritten r all

  pub so_far_none : (all : List (Option AdmittedValue)) → SoFar all all []
  so_far_none all = record { chain = λ more is_allowed is. (more, is, refl); asks = λ is. is }

  module _ (all left : List (Option AdmittedValue)) (matches : List (Option ℕ)) (a : AdmittedValue)
      (so_far : SoFar all (Some a ∷ left) matches) (v : VerdictValue) (decides : DecidesAsWritten r a v) where
    -- one lets the request through
    pub so_far_more : v.allowed ≡ true → SoFar all left (matches ++ v.matched ∷ [])
    so_far_more lets = record {
      chain = λ more is_allowed is.
          let it = so_far.chain (v ∷ more) is_allowed (decides, rw lets is) in
          (it.0, it.1, append_assoc matches (v.matched ∷ []) (map (λ v. v.matched) more) ∙ it.2);
      asks = λ is. so_far.asks (inr (v, decides, lets, is));
    }

    -- one refuses it
    pub tried_refused : v.allowed ≡ false → (verdicts : List VerdictValue) × Chained all verdicts false
        × (matches ++ v.matched ∷ [] ≡ map (λ v. v.matched) verdicts)
    tried_refused refuses = so_far.chain (v ∷ []) false (decides, rw refuses (refl, refl))

  -- all let it through
  pub tried_all : (all : List (Option AdmittedValue)) (matches : List (Option ℕ)) → SoFar all [] matches
      → (verdicts : List VerdictValue) × Chained all verdicts true × (matches ≡ map (λ v. v.matched) verdicts)
  tried_all all matches so_far =
      let it = so_far.chain [] true (refl, refl) in (it.0, it.1, sym (append-nil matches) ∙ it.2)

-- what is reported of a request
pub reported_verdict : (r : RequestValue) (filters : List (Option AdmittedValue)) (is_allowed : Bool)
    (matches : List (Option ℕ)) → (IsUnready DecidesAsWritten AsksAsWritten filters → ⊥)
    → (verdicts : List VerdictValue) × Chain DecidesAsWritten AsksAsWritten r filters verdicts is_allowed
    × (matches ≡ map (λ v. v.matched) verdicts)
    → Judges DecidesAsWritten AsksAsWritten filters r (if is_allowed then cases.Allow else cases.Deny) matches
reported_verdict r filters is_allowed matches ready (verdicts, chain, reported) =
    decided verdicts is_allowed ready chain refl reported

-- ---- filters that were admitted can decide

can_decide : (limits : LimitsValue) (f : FilterValue) (r : RequestValue) (a : AdmittedValue) → InLimits r limits
    → WasAdmitted limits f (Some a)
    → ((rules : Filter CelChecked) × IsAdmittedAs a.limits rules a.filter) × InLimits r a.limits
can_decide limits f r a fits (same, bytes, rules, admits) =
    ((rules, (bytes, f.budget, rw same admits)), rw same fits)

-- ---- what is enforced decides as what was written

module _ (limits : LimitsValue) (r : RequestValue) where
  chain_stands : (ps : List (Option AdmittedValue)) (ws : List (Option Rules)) (verdicts : List VerdictValue)
      (is_allowed : Bool) → AllZip (IsEnforced limits) ps ws
      → Chain DecidesAsWritten AsksAsWritten r ps verdicts is_allowed
      → Chain DecideByMeaning AskCondition r ws verdicts is_allowed
  chain_stands [] [] verdicts is_allowed all chain = chain
  chain_stands [] (w ∷ ws) verdicts is_allowed bad chain = absurd bad
  chain_stands (p ∷ ps) [] verdicts is_allowed bad chain = absurd bad
  chain_stands (None ∷ ps) (w ∷ ws) verdicts is_allowed all bad = absurd bad
  chain_stands (Some a ∷ ps) (None ∷ ws) verdicts is_allowed (bad, all) chain = absurd bad
  chain_stands (Some a ∷ ps) (Some w ∷ ws) [] is_allowed all bad = absurd bad
  chain_stands (Some a ∷ ps) (Some w ∷ ws) (v ∷ vs) is_allowed ((same, was), all) (decides, goes) = (
    decides w (rw same was),
    by v.allowed goes (λ more. chain_stands ps ws vs is_allowed all more),
  )
    where
      by : (b : Bool)
          → MatchBool b (Chain DecidesAsWritten AsksAsWritten r ps vs is_allowed) ((vs ≡ []) × (is_allowed ≡ false))
          → (Chain DecidesAsWritten AsksAsWritten r ps vs is_allowed → Chain DecideByMeaning AskCondition r ws vs is_allowed)
          → MatchBool b (Chain DecideByMeaning AskCondition r ws vs is_allowed) ((vs ≡ []) × (is_allowed ≡ false))
      by true goes' behind = behind goes'
      by false goes' behind = goes'

  asks_stands : (ps : List (Option AdmittedValue)) (ws : List (Option Rules)) → AllZip (IsEnforced limits) ps ws
      → ChainAsks DecidesAsWritten AsksAsWritten r ps → ChainAsks DecideByMeaning AskCondition r ws
  asks_stands [] ws all bad = absurd bad
  asks_stands (p ∷ ps) [] bad asks = absurd bad
  asks_stands (None ∷ ps) (w ∷ ws) all bad = absurd bad
  asks_stands (Some a ∷ ps) (None ∷ ws) (bad, all) asks = absurd bad
  asks_stands (Some a ∷ ps) (Some w ∷ ws) ((same, was), all) (inl asks) = inl (asks w (rw same was))
  asks_stands (Some a ∷ ps) (Some w ∷ ws) ((same, was), all) (inr (v, decides, lets, more)) =
      inr (v, decides w (rw same was), lets, asks_stands ps ws all more)

  unready_stands : (ps : List (Option AdmittedValue)) (ws : List (Option Rules)) → AllZip (IsEnforced limits) ps ws
      → SomeOf (λ p. p ≡ None) ps → SomeOf (λ w. w ≡ None) ws
  unready_stands [] ws all bad = absurd bad
  unready_stands (p ∷ ps) [] bad some = absurd bad
  unready_stands (None ∷ ps) (None ∷ ws) all some = inl refl
  unready_stands (None ∷ ps) (Some w ∷ ws) (bad, all) some = absurd bad
  unready_stands (Some a ∷ ps) (None ∷ ws) (bad, all) some = absurd bad
  unready_stands (Some a ∷ ps) (Some w ∷ ws) (one, all) (inl is) = absurd cc
  unready_stands (Some a ∷ ps) (Some w ∷ ws) (one, all) (inr some) = inr (unready_stands ps ws all some)

  ready_stands : (ps : List (Option AdmittedValue)) (ws : List (Option Rules)) → AllZip (IsEnforced limits) ps ws
      → SomeOf (λ w. w ≡ None) ws → SomeOf (λ p. p ≡ None) ps
  ready_stands ps [] all bad = absurd bad
  ready_stands [] (w ∷ ws) bad some = absurd bad
  ready_stands (None ∷ ps) (w ∷ ws) all some = inl refl
  ready_stands (Some a ∷ ps) (None ∷ ws) (bad, all) some = absurd bad
  ready_stands (Some a ∷ ps) (Some w ∷ ws) (one, all) (inl is) = absurd cc
  ready_stands (Some a ∷ ps) (Some w ∷ ws) (one, all) (inr some) = inr (ready_stands ps ws all some)

  judges_stands : (ps : List (Option AdmittedValue)) (ws : List (Option Rules)) (case : Case) (matches : List (Option ℕ))
      → AllZip (IsEnforced limits) ps ws → Judges DecidesAsWritten AsksAsWritten ps r case matches
      → Judges DecideByMeaning AskCondition ws r case matches
  judges_stands ps ws case matches all (unready some is none) = unready (unready_stands ps ws all some) is none
  judges_stands ps ws case matches all (decided verdicts is_allowed ready chain is reported) =
      decided verdicts is_allowed (λ some. ready (ready_stands ps ws all some))
      (chain_stands ps ws verdicts is_allowed all chain) is reported
  judges_stands ps ws case matches all (out_of_memory ready asks is none) =
      out_of_memory (λ some. ready (ready_stands ps ws all some)) (asks_stands ps ws all asks) is none

reply_stands : (limits : LimitsValue) (a : Accepted) (w : Acknowledged) (ask : Ask) (reply : ReplyValue)
    → StandsFor limits a w → IsReplyTo DecidesAsWritten AsksAsWritten a ask reply
    → IsReplyTo DecideByMeaning AskCondition w ask reply
reply_stands limits a w (Judge r closes) reply s (judges, generation, shuts, head) = (
  judges_stands limits r a.policies w.policies reply.case reply.matches s.policies judges,
  generation ∙ s.generation,
  shuts,
  head,
)
reply_stands limits a w (Fault fault) reply s is = is ∙ ap (λ (n : ℕ). record {
  case = cases.Fault fault;
  matches = [];
  generation = n;
  closes = true;
  is_head = false;
}) s.generation

pub replies_stand : (limits : LimitsValue) (a : Accepted) (w : Acknowledged) (asks : List Ask) (bytes : List ℕ)
    → StandsFor limits a w → AreEnforced a asks bytes → AreRepliesTo DecideByMeaning AskCondition w asks bytes
replies_stand limits a w [] bytes s none = none
replies_stand limits a w (ask ∷ asks) bytes s (reply, more, is, whole, others) =
    (reply, more, reply_stands limits a w ask reply s is, whole, replies_stand limits a w asks more s others)

-- answers, one after the other
pub replies_push : (a : Accepted) (asks : List Ask) (ask : Ask) (bytes : List ℕ) (reply : ReplyValue)
    → AreEnforced a asks bytes → IsReplyTo DecidesAsWritten AsksAsWritten a ask reply
    → AreEnforced a (asks ++ ask ∷ []) (bytes ++ answer_of reply)
replies_push a [] ask bytes reply none is = rw none (reply, [], is, sym (append-nil (answer_of reply)), refl)
replies_push a (x ∷ asks) ask bytes reply (first, more, reported, whole, others) is = (
  first,
  more ++ answer_of reply,
  reported,
  ap (λ (b : List ℕ). b ++ answer_of reply) whole ∙ append_assoc (answer_of first) more (answer_of reply),
  replies_push a asks ask more reply others is,
)

-- ---- one filter of a list, by its place

module _ (xs : List (Option Admitted)) (i : ℕ) (o d : Option Admitted) (within : i < length xs)
    (here : o ≡ get_or xs i d) where
  -- it has policies where none has none
  pub never_none : (SomeOf (λ p. p ≡ None) (policies_view xs) → ⊥) → o ≡ None → ⊥
  never_none ready none =
      all_at (λ p. p ≡ None → ⊥) xs i d within (none_none (policies_view xs) ready)
      (ap (option_map admitted_view) (sym here ∙ none))
    where
      none_none : (ps : List (Option AdmittedValue)) → (SomeOf (λ p. p ≡ None) ps → ⊥)
          → AllByRecursion (λ p. p ≡ None → ⊥) ps
      none_none [] not = tt
      none_none (p ∷ ps) not = (λ is. not (inl is), none_none ps (λ some. not (inr some)))

  module _ (a : Admitted) (is : o ≡ Some a) where
    its_place : policies_view (drop i xs) ≡ Some (admitted_view a) ∷ policies_view (drop (i + 1) xs)
    its_place = let next : i + 1 ≡ suc i = omega arith in rw next (drop_at xs i d within
        ∙ ap (λ (p : Option Admitted). option_map admitted_view p ∷ policies_view (drop (suc i) xs)) (sym here ∙ is))

    -- a request that all can decide does not take too many steps
    pub can : (r : RequestValue) → AllByRecursion (CanDecide r) (policies_view xs)
        → ∥ ((rules : Filter CelChecked) × IsAdmittedAs (admitted_view a).limits rules (admitted_view a).filter) ∥₁
        × InLimits r (admitted_view a).limits
    can r all =
        subst (CanDecide r) (ap (option_map admitted_view) (sym here ∙ is)) (all_at (CanDecide r) xs i d within all)

    module _ (r : RequestValue) (matches : List (Option ℕ))
        (so_far : SoFar r (policies_view xs) (policies_view (drop i xs)) matches) where
      at_place : SoFar r (policies_view xs) (Some (admitted_view a) ∷ policies_view (drop (i + 1) xs)) matches
      at_place = rw its_place at so_far

      pub filter_more : (v : VerdictValue) → DecidesAsWritten r (admitted_view a) v → v.allowed ≡ true
          → SoFar r (policies_view xs) (policies_view (drop (i + 1) xs)) (matches ++ v.matched ∷ [])
      filter_more v decides lets = so_far_more r (policies_view xs) (policies_view (drop (i + 1) xs)) matches
          (admitted_view a) at_place v decides lets

      pub filter_refuses : (v : VerdictValue) → DecidesAsWritten r (admitted_view a) v → v.allowed ≡ false
          → (verdicts : List VerdictValue) × Chained r (policies_view xs) verdicts false
          × (matches ++ v.matched ∷ [] ≡ map (λ v. v.matched) verdicts)
      filter_refuses v decides refuses = tried_refused r (policies_view xs) (policies_view (drop (i + 1) xs)) matches
          (admitted_view a) at_place v decides refuses

      pub filter_asks : AsksAsWritten r (admitted_view a) → ChainAsks DecidesAsWritten AsksAsWritten r (policies_view xs)
      filter_asks asks = at_place.asks (inl asks)

-- all were tried
pub all_tried : (r : RequestValue) (xs : List (Option Admitted)) (i : ℕ) (matches : List (Option ℕ)) → length xs ≤ i
    → SoFar r (policies_view xs) (policies_view (drop i xs)) matches
    → (verdicts : List VerdictValue) × Chained r (policies_view xs) verdicts true × (matches ≡ map (λ v. v.matched) verdicts)
all_tried r xs i matches past so_far =
    tried_all r (policies_view xs) matches (rw (drop_all i xs past) at so_far)

-- filters that a client has can decide each request within its limits
pub all_can_decide : (limits : LimitsValue) (r : RequestValue) (fs : List FilterValue) (ps : List (Option AdmittedValue))
    → ∥ AllZip (WasAdmitted limits) fs ps ∥₁ → InLimits r limits → AllByRecursion (CanDecide r) ps
all_can_decide limits r fs [] all fits = tt
all_can_decide limits r [] (p ∷ ps) all fits = absurd (∥∥₁_elim all (Prim.hlevel props) (λ each. each))
all_can_decide limits r (f ∷ fs) (None ∷ ps) all fits =
    (tt, all_can_decide limits r fs ps (∥∥₁_elim all ∥∥₁_prop (λ each. merely each.1)) fits)
all_can_decide limits r (f ∷ fs) (Some a ∷ ps) all fits =
    let same : a.limits ≡ limits = ∥∥₁_elim all (Prim.hlevel props) (λ each. each.0.0) in (
      (
        ∥∥₁_elim all ∥∥₁_prop (λ each. merely (can_decide limits f r a fits each.0).0),
        rw same fits,
      ),
      all_can_decide limits r fs ps (∥∥₁_elim all ∥∥₁_prop (λ each. merely each.1)) fits,
    )
