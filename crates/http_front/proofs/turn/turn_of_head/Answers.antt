use Rattle.std.proofs.Common.{rules}
use Rattle.attributes.specs.Conn.{conn_view}
use Rattle.http_front.specs.private.Asks.{IsAskOf}
use Rattle.http_front.proofs.turn.turn_of_head.Goals as goal

pub returns-in-Some : goal.returns-in-Some
returns-in-Some c = c.in-Some.ensures.fault (conn_view c.args.conn.now.value)

pub returns : goal.returns
returns c =
    let is : IsAskOf c.args.limits.now (conn_view c.args.conn.now.value) c.args.head.now c.in_ok-ask.ask =
    search rules in
    c.turn_of_ask.ensures c.args.limits.now (conn_view c.args.conn.now.value) is
