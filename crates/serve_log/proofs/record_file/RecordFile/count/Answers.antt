use Rattle.std.proofs.Common.{◌∙◌, ◌++◌, ap, refl, sym}
use Rattle.serve_log.specs.Writing.{line_of}
use Rattle.serve_log.proofs.FileLemmas.{takes_line}
use Rattle.serve_log.proofs.record_file.RecordFile.count.Goals as goal

pub returns-clause-takes : goal.returns-clause-takes
returns-clause-takes g c = λ event is whole.
    takes_line g.W.Write.contents event c.args.self.now _ c.in_ok-line.ensures.writer
    (c.in_ok-line.ensures.added ∙ ap (λ text. c.args.self.now.out.waiting ++ line_of text) is) refl c.saturating_add-self.ensures refl whole
