use Rattle.std.proofs.Common.{ℕ, List, [], take, ap₂, arith}
use Rattle.http2.specs.Unary.{UnaryValue, unary_view}
use Rattle.http2.proofs.Unaries.{law_heard}
use Rattle.http2.proofs.unary.UnaryServer.hear.Goals as goal

pub returns-clause-law : goal.returns-clause-law
returns-clause-law c = λ most trail came sent gave law.
    let old : UnaryValue = unary_view c.args.self.now in
    let part : List ℕ = take c.in_ok-count.count c.args.bytes.now in (
      [],
      tt,
      law_heard most trail came sent part gave old _ c.requires.open (λ less. absurd (omega (arith, less, c.if-self-lt24.false)))
          (ap₂ (λ (r o : List ℕ). record old { rest = r; out = o }) c.in_ok-count.ensures.heard c.hear.ensures.out) law,
    )
