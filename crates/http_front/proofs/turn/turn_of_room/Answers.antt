use Rattle.attributes.specs.Conn.{conn_view}
use Rattle.http_front.proofs.Turning.{turn_in}
use Rattle.http_front.proofs.turn.turn_of_room.Goals as goal

pub returns : goal.returns
returns c =
    turn_in c.args.limits.now (conn_view c.args.conn.now.value) c.args.bytes.now c.min.result c.in_ok-turn.turn
    c.turn_in_room.result c.min.ensures c.in_ok-turn.ensures c.turn_in_room.ensures
