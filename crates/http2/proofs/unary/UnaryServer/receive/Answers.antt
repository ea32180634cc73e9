use Rattle.http2.specs.Unary.{unary_view}
use Rattle.http2.proofs.Unaries.{received, still_over}
use Rattle.http2.proofs.unary.UnaryServer.receive.Goals as goal

pub returns-clause-law : goal.returns-clause-law
returns-clause-law c =
    received _ (unary_view c.args.self.now) (unary_view c.hear.new.self) _ c.in_ok-count.ensures.law c.work.ensures.continues

pub returns-clause-first : goal.returns-clause-first
returns-clause-first c = λ on room few less.
    still_over c.hear.new.self.over c.work.new.self.over c.work.ensures.over (c.in_ok-count.ensures.first less)
