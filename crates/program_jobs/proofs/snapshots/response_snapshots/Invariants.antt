-- The files so far were read.
use Rattle.std.proofs.Common.{map, string_bytes, take}
use Rattle.std.specs.List.{AllZip}
use Rattle.ads.specs.Views.{snapshots_view}
use Rattle.program_jobs.specs.Jobs.{IsResponseAt}
use Rattle.program_jobs.proofs.snapshots.response_snapshots.Given as goal

abbrev pub invariant-loop-path : goal.invariant-loop-path
invariant-loop-path g l =
    AllZip (IsResponseAt (g.F.Source.holds l.files) (g.F.Source.lacks l.files))
    (map string_bytes (take l.path-index l.paths)) (snapshots_view l.snapshots.items)
