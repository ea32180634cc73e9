use Rattle.std.proofs.Common.{arith}
use Rattle.rbac_serve.proofs.Feeding.{none_waits}
use Rattle.rbac_serve.proofs.worker.Worker.room.Goals as goal

pub returns-then-has_request-clause-some : goal.returns-then-has_request-clause-some
returns-then-has_request-clause-some c = λ none. absurd (c.has_request.ensures.0 c.if-has_request.true none)

pub returns-then-has_request-clause-one : goal.returns-then-has_request-clause-one
returns-then-has_request-clause-one c = λ bytes few some. absurd (omega (arith, few, some))

pub returns-clause-waits : goal.returns-clause-waits
returns-clause-waits c = λ some.
    absurd (some (none_waits c.args.self.now.requests c.has_request.result c.has_request.ensures c.if-has_request.false))

pub returns-clause-one : goal.returns-clause-one
returns-clause-one c = λ bytes few some. c.lacks.ensures.one bytes few
