use Rattle.std.proofs.Common.{sym, true≢false}
use Rattle.proxy_core.proofs.session.Session.open.Goals as goal

pub returns-in_err-front-clause-unfit : goal.returns-in_err-front-clause-unfit
returns-in_err-front-clause-unfit c = λ not. absurd (true≢false (sym (c.in_err-front.ensures.unfit not)))
