use Rattle.std.proofs.Common.{◌++◌, ◌∷◌, [], subst}
use Rattle.serve_log.specs.Files.{StayOpen}
use Rattle.serve_log.proofs.StayLemmas.{stay_more, stay_then}
use Rattle.serve_log.proofs.open_files.OpenFiles.change.Goals as goal

pub returns-clause-older : goal.returns-clause-older
returns-clause-older g c =
    let contents = g.W.Write.contents in
    let a = c.args.self.now in
    let last = c.replace-last.result in
    let mid = c.close_oldest.new.self.older.items in
    let new = c.keep.new.self.older.items in
    subst (λ file. StayOpen contents (a.older.items ++ file ∷ []) new) c.replace-last.ensures.value
    (stay_then contents (a.older.items ++ last ∷ []) (mid ++ last ∷ []) new
    (stay_more contents a.older.items mid last c.close_oldest.ensures.older) c.keep.ensures.older)
