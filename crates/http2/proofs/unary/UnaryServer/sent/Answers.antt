use Rattle.std.proofs.Common.{List, ℕ, ap₂}
use Rattle.http2.specs.Unary.{UnaryValue, unary_view}
use Rattle.http2.proofs.Unaries.{law_sent}
use Rattle.http2.proofs.unary.UnaryServer.sent.Goals as goal

pub returns-clause-law : goal.returns-clause-law
returns-clause-law c = λ most trail came sent gave law.
    let old : UnaryValue = unary_view c.args.self.now in
    law_sent most trail came sent gave old _ c.args.count
    (ap₂ (λ (r o : List ℕ). record old { rest = r; out = o }) c.sent.ensures.rest c.sent.ensures.out) law
