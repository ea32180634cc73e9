use Rattle.std.proofs.Common.{refl, sym, ap, [], append-nil}
use Rattle.std.proofs.lemmas.Result.{IfOk-weaker}
use Rattle.xds_wire.specs.View.{request_view, texts_view}
use Rattle.ads.specs.Control.{ignored}
use Rattle.ads.specs.Views.{served_view, snapshots_view}
use Rattle.ads.proofs.ServingLemmas.{first_served, ack_served, nack_served}
use Rattle.ads.proofs.serving.serve_request.Goals as goal

pub returns-in-First : goal.returns-in-First
returns-in-First c =
    IfOk-weaker c.send.result _ _
    (λ ends sends. first_served (snapshots_view c.args.snapshots.now) (request_view c.args.request.now)
    (served_view c.args.served.now) (served_view c.send.new.served) (texts_view c.deref.result.now)
    c.args.replies.now.items c.send.new.replies.items ends (ap texts_view c.deref.ensures.value)
    (rw c.in-First.is at c.in_ok-kind_of.ensures) sends)
    c.send.ensures.sent

pub returns-in-Ack : goal.returns-in-Ack
returns-in-Ack c =
    IfOk-weaker c.advance.result _ _
    (λ ends advances. ack_served (snapshots_view c.args.snapshots.now) (request_view c.args.request.now)
    (served_view c.args.served.now) (served_view c.advance.new.served) (texts_view c.deref-in-Ack.result.now)
    c.args.replies.now.items c.advance.new.replies.items ends (ap texts_view c.deref-in-Ack.ensures.value)
    (rw c.in-Ack.is at c.in_ok-kind_of.ensures) advances)
    c.advance.ensures

pub returns-in-Nack : goal.returns-in-Nack
returns-in-Nack c =
    IfOk-weaker c.advance-in-Nack.result _ _
    (λ ends advances. nack_served (snapshots_view c.args.snapshots.now) (request_view c.args.request.now)
    (served_view c.args.served.now) (served_view c.advance-in-Nack.new.served) (texts_view c.deref-in-Nack.result.now)
    c.args.replies.now.items c.advance-in-Nack.new.replies.items ends (ap texts_view c.deref-in-Nack.ensures.value)
    (rw c.in-Nack.is at c.in_ok-kind_of.ensures) advances)
    c.advance-in-Nack.ensures

pub returns-in-Ignored : goal.returns-in-Ignored
returns-in-Ignored c =
    let kind = rw c.in-Ignored.is at c.in_ok-kind_of.ensures in
    ([], ([], ignored kind.0 kind.1 kind.2 refl refl refl refl, sym (append-nil _)))
