use Rattle.std.proofs.lemmas.Result.{err_from_is_err_and}
use Rattle.c_inputs.specs.Facts.{AreInRange, facts_given}
use Rattle.http_front.specs.Asks.{HasFault, HeadAsks, IsUnfinished}
use Rattle.rbac_policy.specs.Admitted.{limits_view}
use Rattle.vupresal_c.proofs.Deciding.{run_fails}
use Rattle.vupresal_c.proofs.by_head.decide_head.Goals as goal

pub returns-in_err-decide-in-Some-Judge-clause-fault : goal.returns-in_err-decide-in-Some-Judge-clause-fault
returns-in_err-decide-in-Some-Judge-clause-fault c =
    let p = err_from_is_err_and c.from_residual-in_err-decide-in-Some-Judge.result
    c.from_residual-in_err-decide-in-Some-Judge.ensures.1 in
    let asks : HeadAsks c.args.head.now (limits_view c.args.admitted.now) (facts_given c.args.facts.now) c.in-Some-Judge.request
    = rw (c.limits.ensures, c.in_ok-conn.ensures.found, c.in-Some-Judge.is, c.in-Some-Judge.field-0-is) at c.in_ok-request.ensures.judged in
    rw (p.1, p.2) (run_fails (λ limits fault. HasFault c.args.head.now limits (facts_given c.args.facts.now) fault)
    (IsUnfinished c.args.head.now) (AreInRange c.args.facts.now → ⊥) c.args.facts.now c.args.admitted.now
    c.in-Some-Judge.request
    c.decide.result c.in_err-decide-in-Some-Judge.field-0.0 c.in_err-decide-in-Some-Judge.was asks.in_limits
    c.decide.ensures.within)

pub returns-in_ok-decide-in-Some-Judge-clause-found : goal.returns-in_ok-decide-in-Some-Judge-clause-found
returns-in_ok-decide-in-Some-Judge-clause-found c =
    let asks : HeadAsks c.args.head.now (limits_view c.args.admitted.now) (facts_given c.args.facts.now) c.in-Some-Judge.request
    = rw (c.limits.ensures, c.in_ok-conn.ensures.found, c.in-Some-Judge.is, c.in-Some-Judge.field-0-is) at c.in_ok-request.ensures.judged in
    (c.in-Some-Judge.request, (c.in_ok-conn.ensures.accepted, asks), c.in_ok-decide-in-Some-Judge.ensures.found)
