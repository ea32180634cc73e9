use Rattle.std.proofs.Common.{length}
use Rattle.http2.specs.Unary.{Continues, unary_view}
use Rattle.http2.proofs.unary.UnaryServer.look_at_all.Given as goal

abbrev pub invariant-frames : goal.invariant-frames
invariant-frames l = Continues (unary_view l.fn.self) (unary_view l.self)

abbrev pub decreases-frames : goal.decreases-frames
decreases-frames l = length l.self.wire.rest
