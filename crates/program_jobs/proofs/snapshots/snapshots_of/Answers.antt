use Rattle.program_jobs.proofs.snapshots.snapshots_of.Goals as goal

pub returns-in-Filters-clause-fault : goal.returns-in-Filters-clause-fault
returns-in-Filters-clause-fault g c =
    rw c.in-Filters.is (rw c.deref-in-Filters.ensures.value at c.named_snapshots.ensures.fault)

pub returns-in-Responses-clause-fault : goal.returns-in-Responses-clause-fault
returns-in-Responses-clause-fault g c =
    rw c.in-Responses.is (rw c.deref-in-Responses.ensures.value at c.response_snapshots.ensures.fault)
