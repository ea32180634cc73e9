use Rattle.std.proofs.Common.{refl}
use Rattle.serve_log.proofs.FileLemmas.{takes_write, unchanged}
use Rattle.serve_log.proofs.record_file.RecordFile.write_many.Goals as goal

pub returns-then-len-gt-MANY-clause-takes : goal.returns-then-len-gt-MANY-clause-takes
returns-then-len-gt-MANY-clause-takes g c = takes_write g.W.Write.contents c.args.self.now _ c.write.ensures.order refl refl refl

pub returns-else-len-gt-MANY-clause-takes : goal.returns-else-len-gt-MANY-clause-takes
returns-else-len-gt-MANY-clause-takes g c = unchanged g.W.Write.contents c.args.self.now
