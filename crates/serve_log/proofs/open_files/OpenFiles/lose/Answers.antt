use Rattle.std.proofs.Common.{◌+◌, ◌-◌, ◌^◌, ◌∙◌, ap, min}
use Rattle.serve_log.specs.Files.{files_of}
use Rattle.serve_log.proofs.FileListLemmas.{none_same}
use Rattle.serve_log.proofs.open_files.OpenFiles.lose.Goals as goal

pub returns : goal.returns
returns g c = record {
  takes = none_same g.W.Write.contents (files_of c.args.self.now);
  counts = c.lose.ensures ∙ ap (λ n. min (n + 1) (2 ^ 64 - 1)) c.note.ensures.lines;
}
