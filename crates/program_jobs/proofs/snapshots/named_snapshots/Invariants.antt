-- The snapshots so far are those of the files before the rest.
use Rattle.std.proofs.Common.{◌++◌, List, length, map, string_bytes}
use Rattle.ads.specs.Control.{ResourceValue}
use Rattle.ads.specs.Views.{snapshots_view}
use Rattle.program_jobs.specs.Jobs.{AreNamedSnapshots, LacksFile}
use Rattle.command_line.specs.Words.{AreGrouped}
use Rattle.program_jobs.specs.declared.job_fault.JobFault.{JobFault}
use Rattle.program_jobs.proofs.snapshots.named_snapshots.Given as goal

abbrev pub invariant-loop-rest : goal.invariant-loop-rest
invariant-loop-rest g l =
    ((more : List (List ResourceValue))
    → AreNamedSnapshots (g.F.Source.holds l.files) (g.F.Source.lacks l.files) (map string_bytes l.names)
    (map string_bytes l.rest) more
    → AreNamedSnapshots (g.F.Source.holds l.files) (g.F.Source.lacks l.files) (map string_bytes l.names)
    (map string_bytes l.paths) (snapshots_view l.snapshots.items ++ more))
    × ((fault : JobFault) → LacksFile (g.F.Source.holds l.files) (g.F.Source.lacks l.files) (map string_bytes l.rest) fault
    → LacksFile (g.F.Source.holds l.files) (g.F.Source.lacks l.files) (map string_bytes l.paths) fault)
    × AreGrouped (length l.names) (length l.rest)

abbrev pub decreases-loop-rest : goal.decreases-loop-rest
decreases-loop-rest g l = length l.rest
