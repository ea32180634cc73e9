use Rattle.std.proofs.Common.{refl, ap, arith, ◌∙◌}
use Rattle.std.proofs.lemmas.Result.{on_ok_weaker}
use Rattle.http2.specs.Frame.{Parts, word_at}
use Rattle.http2.specs.Unary.{UnaryValue, unary_view}
use Rattle.http2.proofs.Unaries.{away_if}
use Rattle.http2.proofs.unary.UnaryServer.tell.Goals as goal

pub returns-clause-continues : goal.returns-clause-continues
returns-clause-continues c = λ most trail came sent gave law.
    let old : UnaryValue = unary_view c.args.self.now in
    away_if c.put.result most trail came sent gave old c.args.self.now.wire c.put.new.self _ c.args.fault c.requires refl refl c.put.ensures.rest
    refl
    (on_ok_weaker c.put.result (λ wrote.
    let says = ap (λ (p : Parts). word_at p.payload 4) wrote.2 in
    let number = c.number_of.ensures in
    let code = c.code.ensures in (
      wrote.0,
      wrote.1,
      record {
        kind = ap (λ (p : Parts). p.kind) wrote.2 ∙ c.head.ensures.kind;
        on_none = ap (λ (p : Parts). p.stream) wrote.2 ∙ c.head.ensures.stream;
        says = omega (arith, says, number, code);
      },
      wrote.3,
    )) c.put.ensures.wrote) c.put.ensures.fault law
