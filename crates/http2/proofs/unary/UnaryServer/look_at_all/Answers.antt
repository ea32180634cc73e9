use Rattle.http2.specs.Unary.{unary_view}
use Rattle.http2.proofs.Unaries.{continued}
use Rattle.http2.proofs.unary.UnaryServer.look_at_all.Goals as goal

pub frames-preserved : goal.frames-preserved
frames-preserved c = continued (unary_view c.args.self.now) (unary_view c.frames.self) _ c.frames.invariant c.look.ensures.continues

pub returns-then-not-look-clause-continues : goal.returns-then-not-look-clause-continues
returns-then-not-look-clause-continues c =
    continued (unary_view c.args.self.now) (unary_view c.frames.self) _ c.frames.invariant c.look.ensures.continues
