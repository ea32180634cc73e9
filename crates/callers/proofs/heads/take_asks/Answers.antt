use Rattle.callers.proofs.TakenAsks.{falls, taken_all}
use Rattle.callers.proofs.heads.take_asks.Goals as goal

pub loop-asks-smaller : goal.loop-asks-smaller
loop-asks-smaller c =
    falls c.loop-asks.front c.next.new.self c.in-Some.ask (rw c.in-Some.is at c.in_ok-ask.ensures.found)

pub returns-clause-taken : goal.returns-clause-taken
returns-clause-taken c =
    taken_all c.args.front.now c.args.bytes.now c.loop-asks.front c.loop-asks.asks.items c.loop-asks.invariant
    c.next.new.self (rw c.in_default.is at c.in_ok-ask.ensures.found)
