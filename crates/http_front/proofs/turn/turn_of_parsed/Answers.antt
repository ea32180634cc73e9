use Rattle.std.proofs.Common.{◌-◌, length, refl}
use Rattle.std.proofs.lemmas.Result.{MatchResult-weaker}
use Rattle.attributes.specs.Conn.{conn_view}
use Rattle.http_front.proofs.Turning.{head_turn, hopeless_turn}
use Rattle.http_front.proofs.turn.turn_of_parsed.Goals as goal

pub returns-in-Whole-clause-found : goal.returns-in-Whole-clause-found
returns-in-Whole-clause-found c =
    MatchResult-weaker c.turn_of_head.result c.turn_of_head.ensures
    (λ turn is bytes few parsed.
    head_turn c.args.limits.now (conn_view c.args.conn.now.value) c.args.count bytes c.in-Whole.head
    c.in-Whole.rest.now (c.args.count - length c.in-Whole.rest.now) turn few (rw c.in-Whole.is at parsed) refl is)
    (λ e h. h)

pub returns-in-Hopeless-clause-found : goal.returns-in-Hopeless-clause-found
returns-in-Hopeless-clause-found c bytes few parsed =
    hopeless_turn c.args.limits.now (conn_view c.args.conn.now.value) c.args.count bytes c.in-Hopeless.part
    (rw c.in-Hopeless.is at parsed)
