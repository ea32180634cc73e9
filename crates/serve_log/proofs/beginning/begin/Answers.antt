use Rattle.std.proofs.Common.{[]}
use Rattle.serve_log.proofs.BeginningLemmas.{begins_then}
use Rattle.serve_log.proofs.FileLemmas.{same_takes, takes_then}
use Rattle.serve_log.proofs.beginning.begin.Goals as goal

pub returns-clause-begins : goal.returns-clause-begins
returns-clause-begins g c = λ whole.
    begins_then g.W.Write.contents c.args.updates.now c.args.file.now _ _ (c.in_ok-put_past.ensures whole)
    (takes_then g.W.Write.contents _ _ _ [] [] 0 0 c.in_ok-write_all.ensures.takes
    (same_takes g.W.Write.contents _ _ c.end_beginning.ensures.same))
