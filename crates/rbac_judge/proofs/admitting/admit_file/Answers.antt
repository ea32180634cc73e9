use Rattle.rbac_judge.proofs.admitting.admit_file.Goals as goal

pub returns-in-Ok-clause-found : goal.returns-in-Ok-clause-found
returns-in-Ok-clause-found c = rw c.largest.ensures at c.in-Ok.ensures.found

pub returns-in-Ok-clause-limits : goal.returns-in-Ok-clause-limits
returns-in-Ok-clause-limits c = rw c.largest.ensures at c.in-Ok.ensures.limits

pub returns-in-Err-clause-fault : goal.returns-in-Err-clause-fault
returns-in-Err-clause-fault c = rw c.largest.ensures at c.in-Err.ensures.fault
