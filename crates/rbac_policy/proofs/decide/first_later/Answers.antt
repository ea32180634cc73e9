use Rattle.std.proofs.Common.{◌≡◌, false, true, inl, inr, map, subst}
use Rattle.std.proofs.lemmas.List.{take_all}
use Rattle.std.proofs.lemmas.Result.{err_from_is_err_and}
use Rattle.rbac_policy.specs.Named.{policy_view}
use Rattle.rbac_policy.specs.private.Runs.{AnyProgram, ExceedsBound}
use Rattle.rbac_policy.proofs.FirstRun.{Failed, next_failed, none_first, this_first, this_asks, this_has_none}
use Rattle.rbac_policy.proofs.IndexLemmas.{ruled_out_matches}
use Rattle.rbac_policy.proofs.decide.first_later.Goals as goal

pub loop-number-init : goal.loop-number-init
loop-number-init c = c.requires.tried.1

pub returns-in_err-policy_matches-clause-always : goal.returns-in_err-policy_matches-clause-always
returns-in_err-policy_matches-clause-always c = λ none.
    let clash : false ≡ true = c.in_err-policy_matches.ensures.always
    (this_has_none c.args.request.now c.args.list.now c.args.policies.now c.loop-number.number c.index-policies-number.result c.loop-number-test.true c.index-policies-number.is none) in absurd cc

pub returns-in_err-policy_matches-clause-asked : goal.returns-in_err-policy_matches-clause-asked
returns-in_err-policy_matches-clause-asked c =
    let p = err_from_is_err_and c.from_residual.result c.from_residual.ensures.1 in
    rw p.1 (this_asks c.args.request.now c.args.list.now c.args.policies.now c.loop-number.number c.index-policies-number.result c.loop-number-test.true c.index-policies-number.is
    AnyProgram c.loop-number.invariant c.in_err-policy_matches.ensures.asked)

pub returns-in_err-policy_matches-clause-fault : goal.returns-in_err-policy_matches-clause-fault
returns-in_err-policy_matches-clause-fault c =
    let p = err_from_is_err_and c.from_residual.result c.from_residual.ensures.1 in
    rw (p.1, p.2) (elim c.in_err-policy_matches.ensures.fault [
      | inl memory ↦ inl memory
      | inr (out, passes) ↦ inr (out, this_asks c.args.request.now c.args.list.now c.args.policies.now c.loop-number.number c.index-policies-number.result c.loop-number-test.true c.index-policies-number.is (ExceedsBound c.args.request.now) c.loop-number.invariant passes)
    ])

pub returns-then-branch-clause-found : goal.returns-then-branch-clause-found
returns-then-branch-clause-found c =
    this_first c.args.request.now c.args.list.now c.args.policies.now c.loop-number.number c.index-policies-number.result c.loop-number-test.true c.index-policies-number.is
    c.loop-number.invariant (rw c.if-branch.true at c.in_ok-policy_matches.ensures.found)

pub loop-number-preserved : goal.loop-number-preserved
loop-number-preserved c =
    next_failed c.args.request.now c.args.list.now c.args.policies.now c.loop-number.number c.index-policies-number.result c.loop-number-test.true c.index-policies-number.is
    c.loop-number.invariant (rw c.if-branch.false at c.in_ok-policy_matches.ensures.found)

pub returns-clause-found : goal.returns-clause-found
returns-clause-found c =
    none_first c.args.request.now (map (policy_view c.args.list.now) c.args.policies.now) 0
    (subst (λ items. Failed c.args.request.now (map (policy_view c.args.list.now) items)) (take_all c.loop-number.number c.args.policies.now c.loop-number-test.false) c.loop-number.invariant)

pub loop-number-preserved-then-is_ruled_out : goal.loop-number-preserved-then-is_ruled_out
loop-number-preserved-then-is_ruled_out c =
    let r = c.args.request.now in
    let list = c.args.list.now in
    let items = c.args.policies.now in
    let i = c.loop-number.number in
    let item = c.index-policies-number.result in
    next_failed r list items i item c.loop-number-test.true c.index-policies-number.is c.loop-number.invariant
    (ruled_out_matches r list items i item c.loop-number-test.true c.index-policies-number.is
    (c.is_ruled_out.ensures r (map (policy_view list) items) c.requires.indexed c.if-is_ruled_out.true))
