use Rattle.std.proofs.Common.{rules}
use Rattle.http2.proofs.acting.open.Goals as goal

pub returns-clause-law : goal.returns-clause-law
returns-clause-law c = λ trail came sent took gave quiet law. c.open.ensures.law trail came sent took gave (quiet (search rules)) law
