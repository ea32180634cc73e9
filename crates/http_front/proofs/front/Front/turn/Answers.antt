use Rattle.std.proofs.Common.{◌≡◌}
use Rattle.std.proofs.lemmas.Result.{MatchResult-weaker}
use Rattle.attributes.specs.Conn.{conn_view}
use Rattle.http_front.proofs.Turning.{all_behind, turn_here}
use Rattle.http_front.proofs.front.Front.turn.Goals as goal

pub returns : goal.returns
returns c =
    MatchResult-weaker c.turn_of.result c.turn_of.ensures
    (λ turn is.
    let same : conn_view c.args.conn.now.value ≡ conn_view c.self.inside.conn =
    rw (← c.self.view_is) at c.requires in
    let here = rw (c.deref.ensures.value, all_behind, same) at is in
    rw (← c.self.view_is)
    (turn_here c.self.inside.limits (conn_view c.self.inside.conn) c.self.inside.is_closed c.self.inside.skip
    c.self.inside.at c.self.inside.bytes.items turn c.if-self.false c.if-self-gt0.false here))
    (λ e h. h)
