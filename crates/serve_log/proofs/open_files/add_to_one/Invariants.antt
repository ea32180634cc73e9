-- None of the files so far has the number, and nothing was added.
use Rattle.std.proofs.Common.{◌≡◌, take}
use Rattle.serve_log.proofs.FileListLemmas.{NoneHas}
use Rattle.serve_log.proofs.open_files.add_to_one.Given as goal

abbrev pub invariant-loop-file : goal.invariant-loop-file
invariant-loop-file g l =
    NoneHas g.W.Write.contents l.number (take l.file-index l.files) × (l.files ≡ l.fn.files) × (l.faults ≡ l.fn.faults)
