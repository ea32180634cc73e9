use Rattle.rbac_policy.specs.Admitted.{filter_view}
use Rattle.rbac_judge.proofs.judge.check.Goals as goal

pub returns-in-Ok : goal.returns-in-Ok
returns-in-Ok c =
    (c.in-Ok.ensures.found.0, filter_view c.in-Ok.admitted, c.in-Ok.ensures.found.1, c.policies.ensures, c.bound.ensures)

pub returns-in-Err : goal.returns-in-Err
returns-in-Err c = c.in-Err.ensures.fault
