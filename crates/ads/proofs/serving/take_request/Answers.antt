use Rattle.std.proofs.Common.{◌∙◌, true, false, refl}
use Rattle.xds_wire.specs.View.{request_view}
use Rattle.ads.specs.Views.{served_view, snapshots_view}
use Rattle.ads.proofs.ServingLemmas.{taken_so}
use Rattle.ads.proofs.serving.take_request.Goals as goal

pub returns-then-ends : goal.returns-then-ends
returns-then-ends c = (
  taken_so (snapshots_view c.args.snapshots.now) (request_view c.args.request.now)
      (served_view c.args.serving.now.served) (served_view c.serve_request.new.served) c.args.serving.now.replies.items
      c.serve_request.new.replies.items c.args.serving.now.exchanges.items c.push.new.self.items c.in_ok-exchange.exchange
      true c.in_ok-ends.ends c.if-ends.true c.in_ok-ends.ensures c.in_ok-exchange.ensures.version
      c.in_ok-exchange.ensures.nonce c.in_ok-exchange.ensures.says (c.in_ok-exchange.ensures.sent ∙ c.sent_since.ensures)
      c.in_ok-push.ensures.items,
  refl,
)

pub returns : goal.returns
returns c =
    taken_so (snapshots_view c.args.snapshots.now) (request_view c.args.request.now)
    (served_view c.args.serving.now.served) (served_view c.serve_request.new.served) c.args.serving.now.replies.items
    c.serve_request.new.replies.items c.args.serving.now.exchanges.items c.push.new.self.items c.in_ok-exchange.exchange
    false c.in_ok-ends.ends c.if-ends.false c.in_ok-ends.ensures c.in_ok-exchange.ensures.version
    c.in_ok-exchange.ensures.nonce c.in_ok-exchange.ensures.says (c.in_ok-exchange.ensures.sent ∙ c.sent_since.ensures)
    c.in_ok-push.ensures.items
