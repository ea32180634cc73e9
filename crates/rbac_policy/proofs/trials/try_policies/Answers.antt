use Rattle.std.proofs.Common.{◌≡◌, inl, inr, true, false, take, refl, sym, subst, ◌∙◌}
use Rattle.std.proofs.lemmas.List.{take_all}
use Rattle.std.proofs.lemmas.Result.{err_from_is_err_and}
use Rattle.rbac_policy.specs.Named.{named_views}
use Rattle.rbac_policy.specs.Trials.{is_match}
use Rattle.rbac_policy.specs.declared.trials.Trial.{Trial}
use Rattle.rbac_policy.specs.private.Runs.{ExceedsBound}
use Rattle.rbac_policy.proofs.FirstRun.{this_asks}
use Rattle.rbac_policy.proofs.Trying.{TriedWithoutMatch, next_unmatched, reported_match, tried_failed, unmatched_all}
use Rattle.rbac_policy.proofs.trials.try_policies.Goals as goal

pub returns-in_err-reason-clause-fault : goal.returns-in_err-reason-clause-fault
returns-in_err-reason-clause-fault c =
    let p = err_from_is_err_and c.from_residual.result c.from_residual.ensures.1 in
    let failed = tried_failed c.args.request.now c.args.list.now (take c.loop-number.number c.args.policies.now) c.loop-number.trials.items c.loop-number.invariant in
    rw (p.1, p.2) (elim c.in_err-reason.ensures.fault [
      | inl memory ↦ inl memory
      | inr (out, passes) ↦ inr (out, this_asks c.args.request.now c.args.list.now c.args.policies.now c.loop-number.number c.index-policies-number.result c.loop-number-test.true c.index-policies-number.is (ExceedsBound c.args.request.now) failed passes)
    ])

pub returns-then-is_match-clause-tried : goal.returns-then-is_match-clause-tried
returns-then-is_match-clause-tried c =
    let t : Trial = record { number = c.loop-number.number; name = c.as_str-name.result; reason = c.in_ok-reason.reason } in
    let matches : is_match t.reason ≡ true = sym c.is_match.ensures ∙ c.if-is_match.true in
    rw c.in_ok-add.ensures (reported_match c.args.request.now c.args.list.now c.args.policies.now c.loop-number.number c.index-policies-number.result c.loop-number-test.true c.index-policies-number.is
    c.loop-number.trials.items c.loop-number.invariant t refl c.as_str-name.ensures.value c.in_ok-reason.ensures.found matches)

pub loop-number-preserved : goal.loop-number-preserved
loop-number-preserved c =
    let t : Trial = record { number = c.loop-number.number; name = c.as_str-name.result; reason = c.in_ok-reason.reason } in
    let other : is_match t.reason ≡ false = sym c.is_match.ensures ∙ c.if-is_match.false in
    rw c.in_ok-add.ensures (next_unmatched c.args.request.now c.args.list.now c.args.policies.now c.loop-number.number c.index-policies-number.result c.loop-number-test.true c.index-policies-number.is
    c.loop-number.trials.items c.loop-number.invariant t refl c.as_str-name.ensures.value c.in_ok-reason.ensures.found other)

pub returns-clause-tried : goal.returns-clause-tried
returns-clause-tried c =
    unmatched_all c.args.request.now 0 (named_views c.args.list.now c.args.policies.now) c.loop-number.trials.items
    (subst (λ items. TriedWithoutMatch c.args.request.now 0 (named_views c.args.list.now items) c.loop-number.trials.items) (take_all c.loop-number.number c.args.policies.now c.loop-number-test.false) c.loop-number.invariant)
