-- A request is judged by its lines, and a fault is refused.
use Rattle.std.proofs.lemmas.Result.{IfOk-weaker}
use Rattle.serve_core.proofs.Clients.{only_none}
use Rattle.serve_core.proofs.judging.FrontPlace.answer.Goals as goal

pub returns-in-Judge-clause-found : goal.returns-in-Judge-clause-found
returns-in-Judge-clause-found c = rw c.in-Judge.is (IfOk-weaker c.judge.result _ _
    (λ answer found. λ facts kept (h, rest, starts, is, lines). (h, rest, starts, is, found h facts is lines)) c.judge.ensures.found)

pub returns-in-Fault-clause-found : goal.returns-in-Fault-clause-found
returns-in-Fault-clause-found c = rw c.in-Fault.is (λ facts kept any. (_, c.unjudged_head.ensures.0, c.refuse.ensures))

pub returns-in-Fault-clause-only : goal.returns-in-Fault-clause-only
returns-in-Fault-clause-only c = only_none _ _
