use Rattle.std.proofs.Common.{refl, sym, ap, ◌∙◌}
use Rattle.std.proofs.lemmas.Result.{IfOk-weaker}
use Rattle.http2.specs.Control.{faulty, placed}
use Rattle.http2.specs.Faults.{error_of}
use Rattle.http2.proofs.control.Control.after.Goals as goal

pub returns-in-Err-clause-after : goal.returns-in-Err-clause-after
returns-in-Err-clause-after c =
    faulty c.in-Err.fault (sym c.check.ensures ∙ ap (λ r. error_of r) c.in-Err.is) refl

pub returns-clause-after : goal.returns-clause-after
returns-clause-after c =
    IfOk-weaker c.say.result _ _ (λ over says. placed (sym c.check.ensures ∙ ap (λ r. error_of r) c.in_default.is) (sym c.if-is_misplaced.ensures) (rw (← c.settle.ensures.settled) says)) c.say.ensures.says
