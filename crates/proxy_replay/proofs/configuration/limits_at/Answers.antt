use Rattle.proxy_replay.proofs.configuration.limits_at.Goals as goal

pub returns-in-Some-clause-fault : goal.returns-in-Some-clause-fault
returns-in-Some-clause-fault c = rw (← c.in-Some.ensures) c.declared_limits.ensures.fault
