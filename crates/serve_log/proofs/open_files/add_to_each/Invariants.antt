-- The files so far took the event, and the others are as they were.
use Rattle.std.proofs.Common.{◌≡◌, drop, length}
use Rattle.proxy_core.specs.Events.{EventValue}
use Rattle.serve_log.specs.Files.{IsTextOf}
use Rattle.serve_log.proofs.FileListLemmas.{TookSoFar}
use Rattle.serve_log.proofs.open_files.add_to_each.Given as goal

abbrev pub invariant-loop-file : goal.invariant-loop-file
invariant-loop-file g l =
    (drop l.file-index l.files ≡ drop l.file-index l.fn.files)
    × (length l.files ≡ length l.fn.files)
    × ((event : EventValue) → IsTextOf l.line event
    → TookSoFar g.W.Write.contents event l.file-index l.fn.files l.files l.fn.faults.dropped l.faults.dropped)
