-- A client's request is judged, or none.
use Rattle.std.proofs.Common.{◌∙◌}
use Rattle.head_map.specs.Mapped.{parts_view}
use Rattle.serve_core.specs.ClientRequests.{rule_view}
use Rattle.serve_core.specs.Cores.{core_view}
use Rattle.serve_core.proofs.Clients.{head_judged, head_refused}
use Rattle.serve_core.proofs.judging.FrontPlace.judge.Goals as goal

pub returns-in_ok-request-in-Ok-clause-found : goal.returns-in_ok-request-in-Ok-clause-found
returns-in_ok-request-in-Ok-clause-found c = λ h facts is lines.
    head_judged (rule_view c.args.self.rule) c.args.self.place h facts _ c.args.request.now _ _ _ (core_view c.args.core.now) _
    is (c.in_ok-method.ensures.ok ∙ c.method.ensures) (c.in_ok-target.ensures.ok ∙ c.target.ensures) lines
    (c.in_ok-conn.ensures.same ∙ c.conn.ensures.facts) (parts_view c.in-Ok.client) c.in_ok-request-in-Ok.request _ _
    (rw c.in-Ok.is at c.in_ok-client.ensures) c.is_http11-is_http11.ensures c.protocol.ensures c.in_ok-request-in-Ok.ensures.found

pub returns-in-Err-clause-found : goal.returns-in-Err-clause-found
returns-in-Err-clause-found c = λ h facts is lines.
    head_refused (rule_view c.args.self.rule) c.args.self.place h facts _ c.args.request.now _ _ _ (core_view c.args.core.now)
    (core_view c.args.core.now) is (c.in_ok-method.ensures.ok ∙ c.method.ensures)
    (c.in_ok-target.ensures.ok ∙ c.target.ensures) lines (c.in_ok-conn.ensures.same ∙ c.conn.ensures.facts)
    c.in-Err.unjudged _ (rw c.in-Err.is at c.in_ok-client.ensures) c.refuse.ensures
