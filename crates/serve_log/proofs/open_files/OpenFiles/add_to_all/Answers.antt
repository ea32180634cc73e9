use Rattle.std.proofs.Common.{◌∷◌, [], subst, sym}
use Rattle.std.specs.Vec.{with_items}
use Rattle.serve_log.specs.Files.{AllTake, lost_at}
use Rattle.serve_log.proofs.FileListLemmas.{all_length, written_over}
use Rattle.serve_log.proofs.OpenLemmas.{all_files}
use Rattle.serve_log.proofs.open_files.OpenFiles.add_to_all.Goals as goal

pub returns : goal.returns
returns g c = λ event is.
    let contents = g.W.Write.contents in
    let older = c.args.self.now.older in
    let news = c.add_to_each.new.files in
    let (lost, took, counts) = c.add_to_each.ensures event is in
    let takes : AllTake contents (event ∷ []) older.items news lost =
    subst (λ l. AllTake contents (event ∷ []) l news lost) c.deref_mut.ensures.value took in
    let are = written_over older news (all_length contents (event ∷ []) older.items news lost takes) in
    all_files contents event c.args.self.now
    (record { current = c.add.new.self; older = with_items older news; faults = c.add.new.faults })
    c.add_to_each.new.faults.dropped lost (lost_at c.add.result)
    (subst (λ l. AllTake contents (event ∷ []) older.items l lost) (sym are) takes) counts
    (c.add.ensures.takes event is) c.add.ensures.counted
