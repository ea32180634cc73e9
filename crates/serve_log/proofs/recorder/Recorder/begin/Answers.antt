use Rattle.std.proofs.Common.{◌≡◌, ◌+◌, ◌-◌, ◌^◌, ◌∙◌, ap, inr, min}
use Rattle.serve_log.specs.Files.{counted}
use Rattle.serve_log.proofs.recorder.Recorder.begin.Goals as goal

pub returns-clause-begun : goal.returns-clause-begun
returns-clause-begun g c =
    let number : c.saturating_add-number.result ≡ counted c.args.self.now.open_files.current.number 1 =
    c.saturating_add-number.ensures ∙ ap (λ n. min (n + 1) (2 ^ 64 - 1)) c.file.ensures in
    inr ((rw c.change.ensures.current (rw number at c.in_ok-file.ensures)), c.change.ensures.older)
