use Rattle.serve_log.proofs.StayLemmas.{stay_chosen}
use Rattle.serve_log.proofs.open_files.OpenFiles.close_done.Goals as goal

pub returns-clause-older : goal.returns-clause-older
returns-clause-older g c =
    let kept = c.retain.ensures.filtered in
    rw kept.4 (stay_chosen g.W.Write.contents kept.0 c.args.self.now.older.items)
