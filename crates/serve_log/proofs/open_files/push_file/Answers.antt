use Rattle.std.proofs.Common.{is_ok}
use Rattle.serve_log.proofs.StayLemmas.{stay_pushed}
use Rattle.serve_log.proofs.open_files.push_file.Goals as goal

pub returns : goal.returns
returns g c =
    stay_pushed g.W.Write.contents (is_ok c.push.result) c.args.older.now.items _ c.args.last c.push.ensures.items
