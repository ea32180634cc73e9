use Rattle.std.proofs.Common.{◌∙◌, inl, inr, refl, sym}
use Rattle.serve_log.proofs.OpenLemmas.{adds_nothing}
use Rattle.serve_log.proofs.RecorderLemmas.{not_false, not_true}
use Rattle.serve_log.proofs.recorder.Recorder.moved.Goals as goal

pub returns-then-not-connection-clause-moves : goal.returns-then-not-connection-clause-moves
returns-then-not-connection-clause-moves g c =
    inl (refl, adds_nothing g.F.File.Write.contents c.args.self.now.open_files, inl (not_true _ c.if-not-connection.true))

pub returns-then-connection-file-clause-moves : goal.returns-then-connection-file-clause-moves
returns-then-connection-file-clause-moves g c =
    inl (refl, adds_nothing g.F.File.Write.contents c.args.self.now.open_files, inr (c.if-connection-file.true ∙ c.file.ensures))

pub returns-clause-moves : goal.returns-clause-moves
returns-clause-moves g c =
    inr (
      not_false _ c.if-not-connection.false,
      λ same. c.if-connection-file.false (same ∙ sym c.file.ensures),
      c.opened_here.ensures.opens,
    )
