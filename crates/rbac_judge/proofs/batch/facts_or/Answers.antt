use Rattle.rbac_judge.proofs.batch.facts_or.Goals as goal

pub returns-in-Err-Bad-clause-fault : goal.returns-in-Err-Bad-clause-fault
returns-in-Err-Bad-clause-fault c = λ bad facts reported.
    c.in-Err-Bad.ensures.fault c.in-Err-Bad.field-0-is facts (rw (← c.in-Some.ensures) at reported)
