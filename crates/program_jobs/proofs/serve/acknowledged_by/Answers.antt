use Rattle.std.proofs.Common.{inl, inr}
use Rattle.std.proofs.lemmas.Result.{err_from_is_err_and}
use Rattle.program_jobs.specs.Jobs.{StopsControl}
use Rattle.program_jobs.proofs.Streams.{accepted_at}
use Rattle.program_jobs.proofs.serve.acknowledged_by.Goals as goal

pub returns-in_err-snapshots-clause-fault : goal.returns-in_err-snapshots-clause-fault
returns-in_err-snapshots-clause-fault g c =
    let p = err_from_is_err_and c.from_residual.result c.from_residual.ensures.1 in
    rw (p.1, p.2) (elim c.in_err-snapshots.ensures.fault [
      | inl memory ↦ inl memory
      | inr lacks ↦ inr (StopsControl.no_file lacks)
    ])

pub returns-in_err-log-clause-fault : goal.returns-in_err-log-clause-fault
returns-in_err-log-clause-fault g c =
    let p = err_from_is_err_and c.from_residual-in_err-log.result c.from_residual-in_err-log.ensures.1 in
    rw (p.1, p.2) (elim c.in_err-log.ensures.fault [
      | inl memory ↦ inl memory
      | inr cannot ↦ inr (StopsControl.no_log _ c.in_ok-snapshots.ensures.found cannot)
    ])

pub returns-in_err-listener-clause-fault : goal.returns-in_err-listener-clause-fault
returns-in_err-listener-clause-fault g c =
    let p = err_from_is_err_and c.from_residual-in_err-listener.result c.from_residual-in_err-listener.ensures.1 in
    rw (p.1, p.2) (elim (rw c.as_str.ensures.value at c.in_err-listener.ensures.fault) [
      | inl memory ↦ inl memory
      | inr cannot ↦ inr (StopsControl.no_listener _ c.in_ok-snapshots.ensures.found cannot)
    ])

pub returns-clause-found : goal.returns-clause-found
returns-clause-found g c = record {
  snapshots = _;
  read = c.in_ok-snapshots.ensures.found;
  after = _;
  serves = rw c.new-control.ensures at (accepted_at c.args.words.now.grpc _ _ _ _
      (rw c.as_str.ensures.value at c.in_ok-listener.ensures.found) c.serve_first.ensures);
  number = c.acknowledged.ensures;
}
