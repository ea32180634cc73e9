use Rattle.std.proofs.Common.{ap}
use Rattle.attributes.specs.Conn.{conn_view}
use Rattle.http_front.specs.private.Turns.{front_of}
use Rattle.http_front.proofs.Turning.{all_behind, kept_fed}
use Rattle.http_front.proofs.front.Front.feed.Goals as goal

pub returns-clause-found : goal.returns-clause-found
returns-clause-found c =
    rw (← c.self.view_is)
    (ap (front_of c.self.inside.limits (conn_view c.self.inside.conn))
    (kept_fed c.self.inside.is_closed c.self.inside.skip c.min-passed.result c.self.inside.at
    c.append.new.at c.self.inside.bytes.items c.append.new.bytes.items c.args.bytes.now c.if-self.false
    c.min-passed.ensures (rw all_behind at c.in_ok-append.ensures.found)))
