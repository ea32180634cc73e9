use Rattle.std.proofs.lemmas.Result.{IfOk-weaker}
use Rattle.attributes.specs.Conn.{conn_view}
use Rattle.http_front.specs.Head.{head_room}
use Rattle.http_front.proofs.Rooms.{fault_in, judged_in, room_is, unfinished_in}
use Rattle.http_front.proofs.read.ask_with.Goals as goal

pub returns-clause-judged : goal.returns-clause-judged
returns-clause-judged c =
    let parsed = rw (c.min.ensures, room_is head_room c.args.bytes.now) at c.parse.ensures in
    IfOk-weaker c.ask_in.result _ _
    (judged_in c.args.bytes.now c.args.limits.now (conn_view c.args.conn) c.parse.result parsed) c.ask_in.ensures.found

pub returns-clause-fault : goal.returns-clause-fault
returns-clause-fault c =
    let parsed = rw (c.min.ensures, room_is head_room c.args.bytes.now) at c.parse.ensures in
    IfOk-weaker c.ask_in.result _ _
    (fault_in c.args.bytes.now c.args.limits.now (conn_view c.args.conn) c.parse.result parsed) c.ask_in.ensures.found

pub returns-clause-unfinished : goal.returns-clause-unfinished
returns-clause-unfinished c =
    let parsed = rw (c.min.ensures, room_is head_room c.args.bytes.now) at c.parse.ensures in
    IfOk-weaker c.ask_in.result _ _
    (unfinished_in c.args.bytes.now c.args.limits.now (conn_view c.args.conn) c.parse.result parsed) c.ask_in.ensures.found

pub parse-requires-clause-room : goal.parse-requires-clause-room
parse-requires-clause-room c = rw (c.min.ensures, room_is head_room c.args.bytes.now) c.requires
