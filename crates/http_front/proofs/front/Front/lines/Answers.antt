use Rattle.std.proofs.lemmas.Result.{IfOk-weaker}
use Rattle.attributes.specs.Conn.{conn_view}
use Rattle.http_front.proofs.HeadLines.{lines_here}
use Rattle.http_front.proofs.Turning.{all_behind}
use Rattle.http_front.proofs.front.Front.lines.Goals as goal

pub returns : goal.returns
returns c =
    IfOk-weaker c.lines_at.result _ _
    (λ found is.
    let here = rw (c.deref.ensures.value, all_behind) at is in
    rw (← c.self.view_is)
    (lines_here c.self.inside.limits (conn_view c.self.inside.conn) c.self.inside.is_closed c.self.inside.skip
    c.self.inside.at c.self.inside.bytes.items _ here))
    c.lines_at.ensures
