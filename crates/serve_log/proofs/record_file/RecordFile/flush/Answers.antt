use Rattle.std.proofs.Common.{refl}
use Rattle.serve_log.proofs.FileLemmas.{takes_write}
use Rattle.serve_log.proofs.record_file.RecordFile.flush.Goals as goal

pub returns-clause-takes : goal.returns-clause-takes
returns-clause-takes g c = takes_write g.W.Write.contents c.args.self.now _ c.flush.ensures.order refl refl refl
