use Rattle.serve_log.proofs.FileLemmas.{unchanged}
use Rattle.serve_log.proofs.record_file.RecordFile.make_room.Goals as goal

pub returns : goal.returns
returns g c = unchanged g.W.Write.contents c.args.self.now
