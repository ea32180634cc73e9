use Rattle.std.proofs.Common.{inl, inr}
use Rattle.std.proofs.lemmas.Result.{err_from_is_err_and}
use Rattle.program_jobs.specs.Jobs.{StopsBy}
use Rattle.program_jobs.proofs.reports.judge_files.Goals as goal

pub returns-in_err-bytes-clause-fault : goal.returns-in_err-bytes-clause-fault
returns-in_err-bytes-clause-fault g c =
    let p = err_from_is_err_and c.from_residual.result c.from_residual.ensures.1 in
    let fault = rw c.as_str.ensures.value at c.in_err-bytes.ensures.fault in
    rw (p.1, p.2) (elim fault [ inl memory ↦ inl memory | inr unread ↦ inr (StopsBy.no_policy unread) ])

pub returns-in_err-conn-clause-fault : goal.returns-in_err-conn-clause-fault
returns-in_err-conn-clause-fault g c =
    let p = err_from_is_err_and c.from_residual-in_err-conn.result c.from_residual-in_err-conn.ensures.1 in
    let read = rw c.as_str.ensures.value at c.in_ok-bytes.ensures.found in
    rw (p.1, p.2) (elim c.in_err-conn.ensures.fault [
      | inl memory ↦ inl memory
      | inr (path, named, inl unread) ↦ inr (StopsBy.no_facts _ path read named unread)
      | inr (path, named, inr bad) ↦ inr (StopsBy.bad_facts _ path read named bad)
    ])

pub returns-in-Ok-clause-found : goal.returns-in-Ok-clause-found
returns-in-Ok-clause-found g c =
    let read = rw c.as_str.ensures.value at c.in_ok-bytes.ensures.found in
    let (bytes, all, found) = rw c.deref.ensures.value at c.in-Ok.ensures.found in
    record {
      policy = _;
      facts = _;
      bytes = bytes;
      read = read;
      conn = c.in_ok-conn.ensures.found;
      all = all;
      found = found;
    }

pub returns-clause-fault : goal.returns-clause-fault
returns-clause-fault g c =
    let read = rw c.as_str.ensures.value at c.in_ok-bytes.ensures.found in
    let fault = rw c.deref.ensures.value at c.in-Err.ensures.fault in
    inr (StopsBy.no_input _ _ read c.in_ok-conn.ensures.found fault.1 fault.0)
