use Rattle.std.proofs.lemmas.Result.{err_from_is_err_and}
use Rattle.rbac_judge.proofs.BatchLemmas.{all_left, leaves_broken}
use Rattle.rbac_judge.proofs.batch.next_line.Goals as goal

pub returns-in_ok-write_all-in-Err-clause-fault : goal.returns-in_ok-write_all-in-Err-clause-fault
returns-in_ok-write_all-in-Err-clause-fault g c =
    all_left _ _ _ c.in-Err.fault c.in-Err.ensures.fault c.in_ok-write_all-in-Err.ensures.written

pub returns-in_err-write_all-in-Err-clause-fault : goal.returns-in_err-write_all-in-Err-clause-fault
returns-in_err-write_all-in-Err-clause-fault g c =
    let p = err_from_is_err_and c.from_residual.result c.from_residual.ensures.1 in
    rw (p.1, p.2) (leaves_broken _ _ _ _ c.in_err-write_all-in-Err.ensures.fault)
