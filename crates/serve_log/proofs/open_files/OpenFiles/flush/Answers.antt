use Rattle.std.proofs.Common.{subst}
use Rattle.serve_log.specs.Files.{NoneTake, StayOpen}
use Rattle.serve_log.proofs.FileListLemmas.{none_length, written_over}
use Rattle.serve_log.proofs.StayLemmas.{stay_all, stay_then}
use Rattle.serve_log.proofs.open_files.OpenFiles.flush.Goals as goal

pub returns-clause-older : goal.returns-clause-older
returns-clause-older g c =
    let contents = g.W.Write.contents in
    let older = c.args.self.now.older in
    let news = c.flush_each.new.files in
    let last = c.close_done.new.self.older.items in
    let takes : NoneTake contents older.items news =
    subst (λ l. NoneTake contents l news) c.deref_mut.ensures.value c.flush_each.ensures.takes in
    let are = written_over older news (none_length contents older.items news takes) in
    stay_then contents older.items news last (stay_all contents older.items news takes)
    (subst (λ l. StayOpen contents l last) are c.close_done.ensures.older)
