use Rattle.std.proofs.Common.{refl}
use Rattle.std.proofs.lemmas.Result.{err_from_is_err_and}
use Rattle.rbac_policy.specs.Admitted.{limits_view}
use Rattle.vupresal_c.specs.Kept.{FitsAsHead}
use Rattle.vupresal_c.proofs.Deciding.{made_run_fails}
use Rattle.vupresal_c.proofs.by_request.decide_made.Goals as goal

pub returns-in_err-decide-clause-fault : goal.returns-in_err-decide-clause-fault
returns-in_err-decide-clause-fault c =
    let p = err_from_is_err_and c.from_residual.result c.from_residual.ensures.1 in
    let fits : FitsAsHead c.args.request.now (limits_view c.args.admitted.now) =
    (rw c.limits.ensures at c.if-not-fits_as_head.ensures).0 refl in
    rw (p.1, p.2) (made_run_fails c.args.admitted.now c.args.request.now c.decide.result c.in_err-decide.field-0.0
    c.in_err-decide.was fits.0 c.decide.ensures.within)

pub returns-clause-found : goal.returns-clause-found
returns-clause-found c =
    let fits : FitsAsHead c.args.request.now (limits_view c.args.admitted.now) =
    (rw c.limits.ensures at c.if-not-fits_as_head.ensures).0 refl in
    (c.args.request.now, (refl, fits), c.in_ok-decide.ensures.found)
