use Rattle.cel_check.proofs.checker.entries.require_type.Goals as goal

pub returns-in-Some-clause-fault : goal.returns-in-Some-clause-fault
returns-in-Some-clause-fault c = rw c.in-Some.is c.require_said.ensures.fault
