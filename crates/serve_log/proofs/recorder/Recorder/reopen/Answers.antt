use Rattle.std.proofs.Common.{inl}
use Rattle.serve_log.proofs.FileLemmas.{unchanged}
use Rattle.serve_log.proofs.StayLemmas.{stay_same}
use Rattle.serve_log.proofs.recorder.Recorder.reopen.Goals as goal

pub returns-in-Err-clause-current : goal.returns-in-Err-clause-current
returns-in-Err-clause-current g c =
    let contents = g.F.File.Write.contents in
    let files = c.args.self.now.open_files in
    rw c.in-Err.ensures.fault (inl (unchanged contents files.current, stay_same contents files.older.items))
