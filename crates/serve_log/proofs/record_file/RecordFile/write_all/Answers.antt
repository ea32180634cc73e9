use Rattle.std.proofs.Common.{[], refl}
use Rattle.serve_log.proofs.FileLemmas.{takes_then, takes_write, unchanged}
use Rattle.serve_log.proofs.record_file.RecordFile.write_all.Goals as goal

pub writes-init : goal.writes-init
writes-init g c = unchanged g.W.Write.contents c.args.self.now

pub writes-preserved : goal.writes-preserved
writes-preserved g c =
    takes_then g.W.Write.contents c.args.self.now c.writes.self _ [] [] 0 0 c.writes.invariant
    (takes_write g.W.Write.contents c.writes.self _ c.try_write.ensures refl refl refl)

pub returns-in_err-try_write-clause-takes : goal.returns-in_err-try_write-clause-takes
returns-in_err-try_write-clause-takes g c =
    takes_then g.W.Write.contents c.args.self.now c.writes.self _ [] [] 0 0 c.writes.invariant
    (takes_write g.W.Write.contents c.writes.self _ c.try_write.ensures refl refl refl)
