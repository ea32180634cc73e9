use Rattle.std.proofs.Common.{ap, ◌∙◌}
use Rattle.http_front.specs.Front.{FrontValue}
use Rattle.ads.specs.Ends.{client_view}
use Rattle.proxy_core.proofs.AnsweredAsks.{falls, answered_all, answered_more, in_limits}
use Rattle.proxy_core.proofs.answering.answer_asks.Goals as goal

pub answer_to-requires : goal.answer_to-requires
answer_to-requires c =
    in_limits (client_view c.args.client.now).config.limits c.loop-answered_asks.front c.next.new.self c.in-Some.ask
    (ap (λ (f : FrontValue). f.limits) c.loop-answered_asks.invariant.same ∙ c.requires)
    (rw c.in-Some.is at c.in_ok-ask.ensures.found)

pub loop-answered_asks-smaller : goal.loop-answered_asks-smaller
loop-answered_asks-smaller c =
    falls c.loop-answered_asks.front c.next.new.self c.in-Some.ask (rw c.in-Some.is at c.in_ok-ask.ensures.found)

pub loop-answered_asks-preserved : goal.loop-answered_asks-preserved
loop-answered_asks-preserved c =
    answered_more c.args.front c.args.bytes.now (client_view c.args.client.now).accepted c.loop-answered_asks.front
    c.loop-answered_asks.out.items c.loop-answered_asks.answered_asks.items c.loop-answered_asks.invariant c.next.new.self
    (record { ask = c.in-Some.ask; reply = c.in_ok-reply.reply }) c.answer_to.new.out.items _
    (rw c.in-Some.is at c.in_ok-ask.ensures.found) c.in_ok-reply.ensures.is c.in_ok-reply.ensures.put
    c.in_ok-push.ensures.items

pub returns : goal.returns
returns c =
    answered_all c.args.front c.args.bytes.now (client_view c.args.client.now).accepted c.loop-answered_asks.front
    c.loop-answered_asks.out.items c.loop-answered_asks.answered_asks.items c.loop-answered_asks.invariant c.next.new.self
    (rw c.in_default.is at c.in_ok-ask.ensures.found)
