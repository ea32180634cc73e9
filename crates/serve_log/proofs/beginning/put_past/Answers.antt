use Rattle.std.proofs.Common.{refl, sym, true≢false}
use Rattle.std.proofs.lemmas.Result.{on_ok_weaker}
use Rattle.serve_log.proofs.BeginningLemmas.{begins_again, begins_new}
use Rattle.serve_log.proofs.FileLemmas.{unchanged}
use Rattle.serve_log.proofs.beginning.put_past.Goals as goal

pub returns-then-is_new : goal.returns-then-is_new
returns-then-is_new g c = λ whole.
    begins_new g.W.Write.contents c.args.updates.now c.args.file.now c.args.file.now (c.if-is_new.ensures.0 refl)
    (unchanged g.W.Write.contents c.args.file.now)

pub returns : goal.returns
returns g c = λ whole.
    on_ok_weaker c.put_updates.result
    (begins_again g.W.Write.contents c.args.updates.now c.args.file.now _
    (λ is. true≢false (sym (c.if-is_new.ensures.1 is))))
    (c.put_updates.ensures whole)
