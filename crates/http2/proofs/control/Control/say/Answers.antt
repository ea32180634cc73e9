use Rattle.std.proofs.Common.{sym, ◌∙◌}
use Rattle.std.proofs.lemmas.Result.{IfOk-weaker}
use Rattle.http2.specs.Control.{begins, continues}
use Rattle.http2.proofs.control.Control.say.Goals as goal

pub returns-in-1-clause-says : goal.returns-in-1-clause-says
returns-in-1-clause-says c =
    IfOk-weaker c.gather.result _ _ (λ over gathers. begins (sym c.kind.ensures ∙ c.in-1.is)
    (rw (← c.fragment.ensures, ← c.ends_block.ensures, ← c.ends_stream-in-1.ensures) (rw c.clear.ensures.items at gathers))) c.gather.ensures.gathers

pub returns-in-9-clause-says : goal.returns-in-9-clause-says
returns-in-9-clause-says c =
    IfOk-weaker c.gather-in-9.result _ _ (λ over gathers. continues (sym c.kind.ensures ∙ c.in-9.is)
    (rw (← c.payload.ensures, ← c.ends_block-in-9.ensures) gathers)) c.gather-in-9.ensures.gathers
