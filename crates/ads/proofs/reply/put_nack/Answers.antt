use Rattle.std.proofs.Common.{◌≡◌, subst}
use Rattle.std.specs.Prelude.{OnOk}
use Rattle.xds_wire.specs.View.{request_view, status_view}
use Rattle.ads.specs.Answer.{status_of}
use Rattle.ads.specs.private.Drafts.{AddsFrame}
use Rattle.ads.proofs.AnswerLemmas.{with_error}
use Rattle.ads.proofs.reply.put_nack.Goals as goal

pub returns : goal.returns
returns c =
    let reported : status_view c.status_of.result ≡ status_of c.args.refusal =
    rw (← c.in_ok-message.ensures, ← c.deref.ensures) c.status_of.ensures in
    subst (λ m. OnOk c.put_frame.result (AddsFrame m c.args.out.now.items c.put_frame.new.out.items))
    (with_error c.args.config.now c.args.version.now c.args.nonce.now (request_view c.in_ok-request.request)
    (status_of c.args.refusal) (status_view c.status_of.result) c.in_ok-request.ensures reported) c.put_frame.ensures
