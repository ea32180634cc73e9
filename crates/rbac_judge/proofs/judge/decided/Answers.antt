use Rattle.std.proofs.Common.{◌∙◌, Err, ap, subst, sym}
use Rattle.attributes.specs.Limits.{InLimits}
use Rattle.rbac_policy.specs.Admission.{IsAdmittedAs}
use Rattle.rbac_policy.specs.Admitted.{filter_view}
use Rattle.rbac_judge.proofs.judge.decided.Goals as goal

pub returns-then-verdict-clause-found : goal.returns-then-verdict-clause-found
returns-then-verdict-clause-found c filter admitted =
    let own = subst (λ l. IsAdmittedAs l filter (filter_view c.args.admitted.now)) (sym c.requires) admitted in
    rw c.if-verdict.true at c.in-Ok.ensures.found filter own

pub returns-else-verdict-clause-found : goal.returns-else-verdict-clause-found
returns-else-verdict-clause-found c filter admitted =
    let own = subst (λ l. IsAdmittedAs l filter (filter_view c.args.admitted.now)) (sym c.requires) admitted in
    rw c.if-verdict.false at c.in-Ok.ensures.found filter own

pub returns-in-Err-OutOfSteps-clause-found : goal.returns-in-Err-OutOfSteps-clause-found
returns-in-Err-OutOfSteps-clause-found c filter admitted within =
    let own = subst (λ l. IsAdmittedAs l filter (filter_view c.args.admitted.now)) (sym c.requires) admitted in
    let inside = subst (λ l. InLimits c.args.request.now l) (sym c.requires) within in
    c.decide.ensures.within filter own inside
    (c.in-Err-OutOfSteps.is ∙ ap Err c.in-Err-OutOfSteps.field-0-is)
