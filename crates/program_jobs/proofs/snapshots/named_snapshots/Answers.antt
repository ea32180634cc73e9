use Rattle.std.proofs.Common.{inl, inr, map, string_bytes, length}
use Rattle.std.proofs.lemmas.Result.{err_from_is_err_and}
use Rattle.ads.specs.Views.{snapshots_view}
use Rattle.program_jobs.proofs.SnapshotLemmas.{all_read, enough, fewer, lacks_behind, lacks_first, none_left, one_more, some_left}
use Rattle.program_jobs.proofs.snapshots.named_snapshots.Goals as goal

pub split_at-requires : goal.split_at-requires
split_at-requires g c =
    enough (length c.args.names.now) (length c.loop-rest.rest.now) c.loop-rest.invariant.2
    (some_left _ c.loop-rest-test.ensures)

pub returns-in_err-named_snapshot-clause-fault : goal.returns-in_err-named_snapshot-clause-fault
returns-in_err-named_snapshot-clause-fault g c =
    let p = err_from_is_err_and c.from_residual.result c.from_residual.ensures.1 in
    rw (p.1, p.2) (elim c.in_err-named_snapshot.ensures.fault [
      | inl memory ↦ inl memory
      | inr lacking ↦ inr (lacks_first (g.F.Source.holds c.args.files.now) (g.F.Source.lacks c.args.files.now)
          (map string_bytes c.args.names.now) (map string_bytes c.args.paths.now) c.loop-rest.rest.now _ _
          c.split_at.ensures.by_index.0 c.loop-rest.invariant.1 _ lacking)
    ])

pub loop-rest-preserved : goal.loop-rest-preserved
loop-rest-preserved g c = (
  one_more (g.F.Source.holds c.args.files.now) (g.F.Source.lacks c.args.files.now)
      (map string_bytes c.args.names.now) (map string_bytes c.args.paths.now) c.loop-rest.rest.now _ _
      c.split_at.ensures.by_index.0 c.loop-rest.snapshots.items _ _ c.in_ok-push.ensures.items
      c.in_ok-named_snapshot.ensures.found c.loop-rest.invariant.0,
  lacks_behind (g.F.Source.holds c.args.files.now) (g.F.Source.lacks c.args.files.now)
      (map string_bytes c.args.names.now) (map string_bytes c.args.paths.now) c.loop-rest.rest.now _ _
      c.split_at.ensures.by_index.0 _ c.in_ok-named_snapshot.ensures.found c.loop-rest.invariant.1,
  fewer (length c.args.names.now) (length c.loop-rest.rest.now) _ c.loop-rest.invariant.2
      (some_left _ c.loop-rest-test.ensures) c.split_at.ensures.back_len,
)

pub returns-clause-found : goal.returns-clause-found
returns-clause-found g c =
    all_read (g.F.Source.holds c.args.files.now) (g.F.Source.lacks c.args.files.now) (map string_bytes c.args.names.now)
    (map string_bytes c.args.paths.now) c.loop-rest.rest.now (snapshots_view c.loop-rest.snapshots.items)
    (none_left _ c.loop-rest-test.ensures) c.loop-rest.invariant.0
