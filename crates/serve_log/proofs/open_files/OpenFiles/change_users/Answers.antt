use Rattle.std.proofs.Common.{refl, subst, sym}
use Rattle.std.specs.Vec.{with_items}
use Rattle.serve_log.specs.Files.{NoneTake}
use Rattle.serve_log.proofs.FileListLemmas.{none_length, written_over}
use Rattle.serve_log.proofs.OpenLemmas.{adds_nothing, nothing_in_current, nothing_in_older}
use Rattle.serve_log.proofs.open_files.OpenFiles.change_users.Goals as goal

pub returns-then-not-needs_file : goal.returns-then-not-needs_file
returns-then-not-needs_file g c = adds_nothing g.W.Write.contents c.args.self.now

pub returns-then-number-connection : goal.returns-then-number-connection
returns-then-number-connection g c =
    let a = c.args.self.now in
    nothing_in_current g.W.Write.contents a (record { current = c.change_users.new.self; older = a.older; faults = a.faults })
    c.change_users.ensures.same refl refl

pub returns : goal.returns
returns g c =
    let contents = g.W.Write.contents in
    let a = c.args.self.now in
    let news = c.change_users_of_one.new.files in
    let takes : NoneTake contents a.older.items news =
    subst (λ l. NoneTake contents l news) c.deref_mut.ensures.value c.change_users_of_one.ensures in
    let are = written_over a.older news (none_length contents a.older.items news takes) in
    nothing_in_older contents a (record { current = a.current; older = with_items a.older news; faults = a.faults }) refl
    (subst (NoneTake contents a.older.items) (sym are) takes) refl
