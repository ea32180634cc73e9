-- The files so far took no event, and the others are as they were.
use Rattle.std.proofs.Common.{◌≡◌, drop, length, take}
use Rattle.serve_log.specs.Files.{NoneTake}
use Rattle.serve_log.proofs.open_files.flush_each.Given as goal

abbrev pub invariant-loop-file : goal.invariant-loop-file
invariant-loop-file g l =
    (drop l.file-index l.files ≡ drop l.file-index l.fn.files)
    × (length l.files ≡ length l.fn.files)
    × NoneTake g.W.Write.contents (take l.file-index l.fn.files) (take l.file-index l.files)
    × (l.faults.dropped ≡ l.fn.faults.dropped)
