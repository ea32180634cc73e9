-- The responses so far were put.
use Rattle.std.proofs.Common.{◌≡◌, take, true}
use Rattle.serve_log.specs.Beginnings.{TakesBytes, frames_of}
use Rattle.serve_log.proofs.beginning.put_kept.Given as goal

abbrev pub invariant-loop-response : goal.invariant-loop-response
invariant-loop-response g l =
    l.fn.file.is_whole ≡ true
    → TakesBytes g.W.Write.contents (frames_of (take l.response-index l.kept)) l.fn.file l.file
