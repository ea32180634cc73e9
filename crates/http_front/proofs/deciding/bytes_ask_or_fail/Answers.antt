use Rattle.attributes.specs.Conn.{conn_view}
use Rattle.http_front.specs.Head.{head_room}
use Rattle.http_front.proofs.AskOrFail.{hopeless_fail, unfinished_or_fail, whole_or_fail}
use Rattle.http_front.proofs.Rooms.{room_is}
use Rattle.http_front.proofs.deciding.bytes_ask_or_fail.Goals as goal

pub parse-requires-clause-room : goal.parse-requires-clause-room
parse-requires-clause-room c = rw (c.min.ensures, room_is head_room c.args.bytes.now) c.requires

pub returns-in-Whole : goal.returns-in-Whole
returns-in-Whole c =
    let facts = conn_view c.args.conn.now in
    whole_or_fail c.args.bytes.now c.args.limits.now facts c.in-Whole.head c.in-Whole.field-1.now
    (rw (c.min.ensures, room_is head_room c.args.bytes.now) at c.in-Whole.ensures) c.refusal_of-refused.result
    c.refusal_of-refused.ensures.sound (c.refusal_of-refused.ensures.fault facts)

pub returns-in-Hopeless : goal.returns-in-Hopeless
returns-in-Hopeless c =
    hopeless_fail c.args.bytes.now c.args.limits.now (conn_view c.args.conn.now) c.in-Hopeless.field-0
    (rw (c.min.ensures, room_is head_room c.args.bytes.now) at c.in-Hopeless.ensures)

pub returns-in-Unfinished : goal.returns-in-Unfinished
returns-in-Unfinished c =
    unfinished_or_fail c.args.bytes.now c.args.limits.now (conn_view c.args.conn.now)
    (rw (c.min.ensures, room_is head_room c.args.bytes.now) at c.in-Unfinished.ensures)
