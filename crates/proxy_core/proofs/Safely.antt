-- The conditions of rules that were acknowledged run well.
use Rattle.std.proofs.Common.{◌≡◌, ℕ, Option, Some, None, List, [], ◌∷◌, map, subst}
use Rattle.std.specs.Prelude.{IsSomeAnd, MatchOption}
use Rattle.std.specs.FinMap.{get}
use Rattle.std.specs.List.{AllByRecursion, AllZip}
use Rattle.attributes.specs.Limits.{InLimits, LimitsValue}
use Rattle.attributes.specs.Request.{IsRequest, RequestValue}
use Rattle.cel_tree.specs.Message.{ExprParts}
use Rattle.cel_tree.specs.Checked.{CelChecked}
use Rattle.cel_tree.specs.GoodConstants.{HasGoodConstants}
use Rattle.cel_read.proofs.GoodConstantLaws.{expr_good}
use Rattle.xds_wire.specs.Discovery.{ExtensionMessage}
use Rattle.cel_types.specs.Typing.{maps_of}
use Rattle.cel_types.proofs.WellTypedElaborations.{elaborated_typed}
use Rattle.cel_compile.proofs.Unstuck.{code_never_stuck}
use Rattle.cel_compile.proofs.Meaning.{code_means}
use Rattle.cost_bound.specs.declared.budget.Budget.{Budget}
use Rattle.rbac_policy.specs.Condition.{IsProgramOf, Program}
use Rattle.rbac_policy.specs.Costs.{FilterCosts}
use Rattle.rbac_policy.specs.Enforced.{EnforcesPolicy}
use Rattle.rbac_policy.specs.Filter.{Policy}
use Rattle.rbac_policy.specs.Message.{IsCondition, IsPolicy, condition_in}
use Rattle.rbac_policy.proofs.Enforcing.{enforced_there}
use Rattle.rbac_policy.proofs.Programs.{program_unique}
use Rattle.ads.specs.Config.{ConfigValue, FilterValue}
use Rattle.ads.specs.Answer.{AnswersAs, GivesAs, ack, nack, no_memory, named, replaced}
use Rattle.proxy_core.specs.Headline.{AtEachTime, RunWell, RunsWell}
use Rattle.proxy_core.specs.Run.{Acknowledged, AreExchanges, AreRules, Exchange, Moment, Rules, acknowledged_after, acknowledged_in}
use Rattle.proxy_core.proofs.Exactly.{AllGoOn}

-- the constants of a condition have the types of their kinds
good_of : (condition : CelChecked) (o : Option (Policy CelChecked)) (q : Option (List (List ℕ)))
    → MatchOption q (o ≡ None) (λ parts. IsSomeAnd o (IsPolicy parts))
    → IsSomeAnd o (λ policy. policy.condition ≡ Some condition) → HasGoodConstants condition.tree
good_of condition None q of has = absurd has
good_of condition (Some p) None of has = let clash : Some p ≡ None = of in absurd cc
good_of condition (Some p) (Some parts) of has =
    by p.condition (condition_in of.fs) of.condition has
  where
    by : (c : Option CelChecked) (parts : ExprParts) → IsCondition parts c → c ≡ Some condition
        → HasGoodConstants condition.tree
    by None parts reads is = absurd cc
    by (Some d) parts reads is =
        let same : d ≡ condition = cc in subst (λ x. HasGoodConstants x.tree) same (expr_good parts d reads.1)

runs_well : (limits : LimitsValue) (condition : CelChecked) (program : Program) (r : RequestValue)
    → HasGoodConstants condition.tree → IsProgramOf limits condition program → IsRequest r → InLimits r limits
    → RunsWell condition program r
runs_well limits condition program r good of valid inside =
    let run = code_means condition of.e good of.elaborated r limits valid inside in record {
      never_stuck = rw of.code (code_never_stuck of.e r
          (elaborated_typed (maps_of condition) [] condition.tree of.e good of.elaborated.elaborates) valid);
      answer = run.answer;
      means = run.means;
      steps = run.steps;
      ends = rw of.code run.ends;
      within = rw of.bound run.bounded;
    }

-- a condition of rules that cost something has a program
program_there : (limits : LimitsValue) (rules : Rules) (needs : Budget) → FilterCosts limits rules needs → (name : List ℕ)
    (condition : CelChecked) → IsSomeAnd (get rules.policies name) (λ policy. policy.condition ≡ Some condition)
    → (program : Program) × IsProgramOf limits condition program
program_there limits rules needs costs name condition has =
    let it = enforced_there limits rules needs costs in
    of_policy (get rules.policies name) (get it.0.policies name) (it.1.policies name) has
  where
    of_condition : (x : Option CelChecked) (y : Option Program)
        → MatchOption x (y ≡ None) (λ c. IsSomeAnd y (IsProgramOf limits c)) → x ≡ Some condition
        → (program : Program) × IsProgramOf limits condition program
    of_condition None y of is = absurd cc
    of_condition (Some d) None of is = absurd of
    of_condition (Some d) (Some q) of is =
        let same : d ≡ condition = cc in (q, subst (λ x. IsProgramOf limits x q) same of)

    of_policy : (o : Option (Policy CelChecked)) (q : Option (Policy Program))
        → MatchOption o (q ≡ None) (λ policy. IsSomeAnd q (EnforcesPolicy limits policy))
        → IsSomeAnd o (λ policy. policy.condition ≡ Some condition)
        → (program : Program) × IsProgramOf limits condition program
    of_policy None q of has = absurd has
    of_policy (Some p) None of has = absurd of
    of_policy (Some p) (Some e) of has = of_condition p.condition e.condition of.condition has

rules_well : (limits : LimitsValue) (f : FilterValue) (bytes : List ℕ) (rules : Rules) → AreRules limits f bytes rules
    → RunWell limits (Some rules)
rules_well limits f bytes rules is name condition has =
    let it = program_there limits rules is.needs is.costs name condition has in
    let good = good_of condition (get rules.policies name) _ (is.message.rules.policies.2 name) has in record {
      program = it.0;
      its = it.1;
      only = λ other of. program_unique limits condition other it.0 of it.1;
      well = λ r within. runs_well limits condition it.0 r good it.1 within.0 within.1;
    }

-- ---- whatever is answered

module _ (limits : LimitsValue) where
  none_well : (fs : List FilterValue) → AllByRecursion (RunWell limits) (map (λ f. None) fs)
  none_well [] = tt
  none_well (f ∷ fs) = (tt, none_well fs)

  one_given : (f : FilterValue) (xs : List ExtensionMessage) (given : Option Rules) → GivesAs AreRules limits f xs given
      → RunWell limits given
  one_given f [] given none = rw none tt
  one_given f (x ∷ []) given (bytes, rules, holds, are, is) = rw is (rules_well limits f bytes rules are)
  one_given f (x ∷ y ∷ xs) given bad = absurd bad

  replaced_well : (xs : List ExtensionMessage) (fs : List FilterValue) (old given : List (Option Rules))
      → AllByRecursion (RunWell limits) old → AllZip (λ f. GivesAs AreRules limits f (named f.name xs)) fs given
      → AllByRecursion (RunWell limits) (replaced old given)
  replaced_well xs [] [] [] well gives = tt
  replaced_well xs [] (o ∷ old) [] well gives = well
  replaced_well xs [] old (g ∷ given) well bad = absurd bad
  replaced_well xs (f ∷ fs) old [] well bad = absurd bad
  replaced_well xs (f ∷ fs) [] (g ∷ given) well (one, all) =
      (one_given f (named f.name xs) g one, replaced_well xs fs [] given tt all)
  replaced_well xs (f ∷ fs) (o ∷ old) (None ∷ given) (well, others) (one, all) =
      (well, replaced_well xs fs old given others all)
  replaced_well xs (f ∷ fs) (o ∷ old) (Some g ∷ given) (well, others) (one, all) =
      (one_given f (named f.name xs) (Some g) one, replaced_well xs fs old given others all)

answer_well : (c : ConfigValue) (old : Acknowledged) (x : Exchange) → AnswersAs AreRules c x.response old x.reply x.after
    → AllByRecursion (RunWell c.limits) old.policies → AllByRecursion (RunWell c.limits) x.after.policies
answer_well c old x (ack accepts reported) well =
    rw accepts.policies (replaced_well c.limits accepts.extensions c.filters old.policies accepts.given well accepts.gives)
answer_well c old x (nack e refuses same reported) well = rw same well
answer_well c old x (no_memory admitting same reported) well = rw same well

exchanges_well : (c : ConfigValue) (exchanges : List Exchange) (messages : List (List ℕ)) (old : Acknowledged)
    → AreExchanges c old messages exchanges → AllByRecursion (RunWell c.limits) old.policies
    → AllByRecursion (RunWell c.limits) (acknowledged_after old exchanges).policies
exchanges_well c [] messages old all well = well
exchanges_well c (x ∷ exchanges) [] old all well = absurd cc
exchanges_well c (x ∷ exchanges) (m ∷ messages) old (reads, answers, all) well =
    exchanges_well c exchanges messages x.after all (answer_well c old x answers well)

go_well : (c : ConfigValue) (past : List Moment) → AllGoOn c past
    → AllByRecursion (RunWell c.limits) (acknowledged_in c past).policies
go_well c [] all = none_well c.limits c.filters
go_well c (m ∷ past) ((messages, are), all) =
    exchanges_well c m.exchanges messages (acknowledged_in c past) are (go_well c past all)

pub well : (c : ConfigValue) (past : List Moment) → AllGoOn c past
    → AtEachTime (λ until. AllByRecursion (RunWell c.limits) (acknowledged_in c until).policies) past
well c [] all = go_well c [] all
well c (m ∷ past) (one, all) = (go_well c (m ∷ past) (one, all), well c past all)
