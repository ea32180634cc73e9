use Rattle.std.proofs.Common.{◌∙◌, ◌∷◌, [], ap, sym}
use Rattle.std.proofs.lemmas.Result.{on_ok_weaker}
use Rattle.serve_log.proofs.FileLemmas.{none_then_takes, none_stays_whole}
use Rattle.serve_log.proofs.record_file.RecordFile.put.Goals as goal

pub returns : goal.returns
returns g c = λ event is whole.
    let between = c.in_ok-make_room.ensures in
    on_ok_weaker c.count.result (none_then_takes g.W.Write.contents c.args.self.now _ _ (event ∷ []) 0 between)
    (c.count.ensures.takes event is (none_stays_whole g.W.Write.contents c.args.self.now _ between whole))
