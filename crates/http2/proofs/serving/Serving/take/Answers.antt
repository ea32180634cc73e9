use Rattle.std.proofs.Common.{refl, sym, ap, ◌∙◌}
use Rattle.std.proofs.lemmas.Result.{IfOk-weaker}
use Rattle.http2.specs.Serving.{faulty, placed}
use Rattle.http2.specs.Faults.{error_of}
use Rattle.http2.proofs.serving.Serving.take.Goals as goal

pub returns-in-Err-clause-takes : goal.returns-in-Err-clause-takes
returns-in-Err-clause-takes c =
    faulty c.in-Err.fault (sym c.check.ensures ∙ ap (λ r. error_of r) c.in-Err.is) refl

pub returns-clause-takes : goal.returns-clause-takes
returns-clause-takes c =
    IfOk-weaker c.say.result _ _ (λ over says. placed (sym c.check.ensures ∙ ap (λ r. error_of r) c.in_default.is) (sym c.if-is_misplaced.ensures) (rw (← c.settle.ensures.settled) says)) c.say.ensures.says
