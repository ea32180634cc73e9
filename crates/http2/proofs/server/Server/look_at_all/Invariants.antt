use Rattle.std.proofs.Common.{length}
use Rattle.http2.specs.Servers.{Stays}
use Rattle.http2.proofs.server.Server.look_at_all.Given as goal

abbrev pub invariant-frames : goal.invariant-frames
invariant-frames l = Stays l.fn.self l.self

abbrev pub decreases-frames : goal.decreases-frames
decreases-frames l = length l.self.pipe.rest
