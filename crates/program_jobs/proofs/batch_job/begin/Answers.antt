use Rattle.std.proofs.Common.{inl, inr, refl}
use Rattle.std.proofs.lemmas.Result.{err_from_is_err_and}
use Rattle.program_jobs.specs.Jobs.{StopsBy}
use Rattle.program_jobs.proofs.batch_job.begin.Goals as goal

pub returns-in_err-bytes-clause-fault : goal.returns-in_err-bytes-clause-fault
returns-in_err-bytes-clause-fault g c =
    let p = err_from_is_err_and c.from_residual.result c.from_residual.ensures.1 in
    let fault = rw c.as_str.ensures.value at c.in_err-bytes.ensures.fault in
    rw (p.1, p.2) (λ input. elim fault [ inl memory ↦ inl memory | inr unread ↦ inr (StopsBy.no_policy unread) ])

pub returns-in_err-conn-clause-fault : goal.returns-in_err-conn-clause-fault
returns-in_err-conn-clause-fault g c =
    let p = err_from_is_err_and c.from_residual-in_err-conn.result c.from_residual-in_err-conn.ensures.1 in
    let read = rw c.as_str.ensures.value at c.in_ok-bytes.ensures.found in
    rw (p.1, p.2) (λ input. elim c.in_err-conn.ensures.fault [
      | inl memory ↦ inl memory
      | inr (path, named, inl unread) ↦ inr (StopsBy.no_facts _ path read named unread)
      | inr (path, named, inr bad) ↦ inr (StopsBy.bad_facts _ path read named bad)
    ])

pub returns-in-Ok-clause-found : goal.returns-in-Ok-clause-found
returns-in-Ok-clause-found g c =
    let read = rw c.as_str.ensures.value at c.in_ok-bytes.ensures.found in
    let admits = rw c.deref.ensures.value at c.in-Ok.ensures.found.1 in
    (_, c.in-Ok.ensures.found.0, read, c.in_ok-conn.ensures.found, admits, c.in-Ok.ensures.limits, refl)
