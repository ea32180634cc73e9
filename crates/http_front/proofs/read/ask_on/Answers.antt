use Rattle.attributes.specs.Conn.{conn_view}
use Rattle.http_front.proofs.Rooms.{ask_is}
use Rattle.http_front.proofs.read.ask_on.Goals as goal

pub returns : goal.returns
returns c =
    ask_is c.args.limits.now (conn_view c.args.conn.value) c.args.head.now c.in_ok-request.request c.ask_within.result
    c.in_ok-request.ensures c.requires.sound c.ask_within.ensures
