use Rattle.std.proofs.Common.{◌≡◌, ◌≤◌, ◌-◌, ap, length, min, rules}
use Rattle.attributes.specs.Conn.{conn_view}
use Rattle.http_front.specs.private.Turns.{front_of}
use Rattle.http_front.proofs.Turning.{kept_behind}
use Rattle.http_front.proofs.front.Front.pass.Goals as goal

pub returns : goal.returns
returns c =
    let items = c.self.inside.bytes.items in
    let long : length items ≡ c.len.result = search rules in
    let within : c.self.inside.at ≤ length items = search rules in
    let here : c.min-here.result ≡ min c.args.count (length items - c.self.inside.at) =
    rw long c.min-here.ensures in
    rw (← c.self.view_is)
    (ap (front_of c.self.inside.limits (conn_view c.self.inside.conn))
    (kept_behind c.self.inside.is_closed c.self.inside.skip c.self.inside.at c.args.count
    c.min-here.result items within here))
