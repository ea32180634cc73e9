use Rattle.std.proofs.Common.{ap, refl, sym, append-nil}
use Rattle.std.proofs.lemmas.Result.{on_ok_weaker, on_err_weaker}
use Rattle.http2.specs.Exchange.{quiet, resets, asks}
use Rattle.http2.specs.Exchanged.{silent, broke, spent}
use Rattle.http2.specs.StreamViews.{call_view}
use Rattle.http2.proofs.Unaries.{acts_of, on_err_refl}
use Rattle.http2.proofs.unary_frames.serve.Goals as goal

pub returns-in-Ok-Quiet-clause-acts : goal.returns-in-Ok-Quiet-clause-acts
returns-in-Ok-Quiet-clause-acts c =
    let takes = rw c.in-Ok-Quiet.field-0-is at c.in-Ok-Quiet.ensures.takes in
    acts_of c.reply.result c.end_of.result _ _ _ _ _ _ _ quiet c.end_of.ensures.went c.end_of.ensures.spent takes
    c.reply.ensures.replied (on_err_weaker c.reply.result (λ e. ap (λ w. w.out) e) c.reply.ensures.fault)
    (on_ok_weaker c.reply.result (λ r. sym (append-nil _)) c.reply.ensures.replied)

pub returns-in-Ok-Resets-clause-acts : goal.returns-in-Ok-Resets-clause-acts
returns-in-Ok-Resets-clause-acts c =
    let takes = rw c.in-Ok-Resets.field-0-is at c.in-Ok-Resets.ensures.takes in
    let reset = c.in-Ok-Resets.reset in
    acts_of c.refuse.result c.end_of-in-Ok-Resets.result _ _ _ _ _ _ _ (resets reset.stream reset.code)
    c.end_of-in-Ok-Resets.ensures.went c.end_of-in-Ok-Resets.ensures.spent takes
    c.refuse.ensures.reset (on_err_weaker c.refuse.result (λ e. ap (λ w. w.out) e) c.refuse.ensures.fault)
    (on_ok_weaker c.refuse.result (λ r. sym (append-nil _)) c.refuse.ensures.reset)

pub returns-in-Ok-Asks-clause-acts : goal.returns-in-Ok-Asks-clause-acts
returns-in-Ok-Asks-clause-acts c =
    let takes = rw c.in-Ok-Asks.field-0-is at c.in-Ok-Asks.ensures.takes in
    acts_of c.keep.result c.end_of-in-Ok-Asks.result _ _ _ _ _ _ _ (asks (call_view c.in-Ok-Asks.call))
    c.end_of-in-Ok-Asks.ensures.went c.end_of-in-Ok-Asks.ensures.spent takes
    (on_ok_weaker c.keep.result (λ k. silent refl refl) c.keep.ensures.kept) (on_err_refl _ c.keep.result)
    c.keep.ensures.kept

pub returns-in-Ok-Over-clause-acts : goal.returns-in-Ok-Over-clause-acts
returns-in-Ok-Over-clause-acts c =
    broke c.in-Ok-Over.fault refl (rw c.in-Ok-Over.field-0-is at c.in-Ok-Over.ensures.takes) refl

pub returns-in-Err-clause-acts : goal.returns-in-Err-clause-acts
returns-in-Err-clause-acts c = spent refl refl
