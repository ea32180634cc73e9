use Rattle.std.proofs.Common.{◌-◌, length}
use Rattle.grpc_server.specs.private.Replying.{Sends}
use Rattle.grpc_server.proofs.reply.Reply.say.Given as goal

abbrev pub invariant-frames : goal.invariant-frames
invariant-frames l = Sends l.fn.self l.self l.fn.server l.server

abbrev pub decreases-frames : goal.decreases-frames
decreases-frames l = length l.self.content.items - l.self.at
