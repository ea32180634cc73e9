use Rattle.std.proofs.Common.{◌∙◌, [], ◌∷◌, refl}
use Rattle.serve_log.proofs.FileLemmas.{loses_line, none_stays_whole, none_then_takes}
use Rattle.serve_log.proofs.record_file.RecordFile.add.Goals as goal

-- an earlier line of the file was lost
pub returns-then-not-self-clause-takes : goal.returns-then-not-self-clause-takes
returns-then-not-self-clause-takes g c = λ event is.
    loses_line g.W.Write.contents event c.args.self.now c.args.self.now refl refl refl refl c.if-not-self.true

pub returns-in-Ok-clause-takes : goal.returns-in-Ok-clause-takes
returns-in-Ok-clause-takes g c = λ event is.
    let between = c.write_many.ensures.takes in
    none_then_takes g.W.Write.contents c.args.self.now _ _ (event ∷ []) 0 between
    (c.in-Ok.ensures.takes event is (none_stays_whole g.W.Write.contents c.args.self.now _ between c.if-not-self.false))

pub returns-in-Err-clause-takes : goal.returns-in-Err-clause-takes
returns-in-Err-clause-takes g c = λ event is.
    let same = c.in-Err.ensures.lost in
    none_then_takes g.W.Write.contents c.args.self.now _ _ (event ∷ []) 1 c.write_many.ensures.takes
    (loses_line g.W.Write.contents event _ _ same.writer same.waiting same.number same.lines refl)

pub returns-in-Ok-clause-number : goal.returns-in-Ok-clause-number
returns-in-Ok-clause-number g c = c.try_add.ensures.number ∙ c.write_many.ensures.takes.number
