use Rattle.std.proofs.Common.{◌≡◌, ◌∷◌, ◌∙◌, [], refl, subst, sym}
use Rattle.std.specs.Vec.{with_items}
use Rattle.serve_log.specs.Files.{OneTakes, lost_at}
use Rattle.serve_log.proofs.FileListLemmas.{one_length, written_over}
use Rattle.serve_log.proofs.OpenLemmas.{current_file, older_file}
use Rattle.serve_log.proofs.open_files.OpenFiles.add.Goals as goal

pub returns-then-number-clause-takes : goal.returns-then-number-clause-takes
returns-then-number-clause-takes g c = λ event is.
    current_file g.W.Write.contents c.args.number event c.args.self.now
    (record { current = c.add.new.self; older = c.args.self.now.older; faults = c.add.new.faults }) (lost_at c.add.result)
    (sym c.number.ensures ∙ c.if-number.true) (c.add.ensures.takes event is) refl c.add.ensures.counted

pub returns-clause-takes : goal.returns-clause-takes
returns-clause-takes g c = λ event is.
    let contents = g.W.Write.contents in
    let older = c.args.self.now.older in
    let news = c.add_to_one.new.files in
    let (lost, took, counts) = c.add_to_one.ensures.takes event is in
    let takes : OneTakes contents c.args.number (event ∷ []) older.items news lost =
    subst (λ l. OneTakes contents c.args.number (event ∷ []) l news lost) c.deref_mut.ensures.value took in
    let are = written_over older news (one_length contents c.args.number (event ∷ []) older.items news lost takes) in
    older_file contents c.args.number event c.args.self.now
    (record { current = c.args.self.now.current; older = with_items older news; faults = c.add_to_one.new.faults }) lost
    (λ same. c.if-number.false (c.number.ensures ∙ same)) refl
    (subst (λ l. OneTakes contents c.args.number (event ∷ []) older.items l lost) (sym are) takes) counts
