-- Nothing was added to the file.
use Rattle.serve_log.specs.Files.{Takes}
use Rattle.std.proofs.Common.{[]}
use Rattle.serve_log.proofs.record_file.RecordFile.write_all.Given as goal

abbrev pub invariant-writes : goal.invariant-writes
invariant-writes g l = Takes g.W.Write.contents [] l.fn.self l.self 0
