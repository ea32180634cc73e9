-- One file more was read.
use Rattle.std.proofs.Common.{inl, inr, string_bytes}
use Rattle.std.proofs.lemmas.Result.{err_from_is_err_and}
use Rattle.ads.proofs.Lists.{zip_more}
use Rattle.ads.specs.Views.{snapshot_view}
use Rattle.program_jobs.specs.Jobs.{IsResponseAt}
use Rattle.program_jobs.proofs.SnapshotLemmas.{first_at}
use Rattle.program_jobs.proofs.snapshots.response_snapshots.Goals as goal

pub loop-path-preserved : goal.loop-path-preserved
loop-path-preserved g c =
    zip_more (IsResponseAt (g.F.Source.holds c.args.files.now) (g.F.Source.lacks c.args.files.now)) string_bytes
    snapshot_view c.args.paths.now c.loop-path.path-index _ c.loop-path.snapshots.items _ _
    c.loop-path-test.true c.loop-path.invariant
    (rw (c.as_str.ensures.value, c.path-item.is) at c.in_ok-response_snapshot.ensures.found) c.in_ok-push.ensures.items

pub returns-in_err-response_snapshot-clause-fault : goal.returns-in_err-response_snapshot-clause-fault
returns-in_err-response_snapshot-clause-fault g c =
    let p = err_from_is_err_and c.from_residual.result c.from_residual.ensures.1 in
    rw (p.1, p.2) (elim c.in_err-response_snapshot.ensures.fault [
      | inl memory ↦ inl memory
      | inr lacks ↦
          inr (first_at (IsResponseAt (g.F.Source.holds c.args.files.now) (g.F.Source.lacks c.args.files.now)) _ _
          (λ path snapshot is. (snapshot, is)) string_bytes c.args.paths.now c.loop-path.path-index _ _
          c.loop-path-test.true c.loop-path.invariant (rw (c.as_str.ensures.value, c.path-item.is) at lacks))
    ])
