-- What happened stays.
use Rattle.serve_loop.specs.Law.{GoesOn}
use Rattle.serve_loop.proofs.server.Server.tick.Given as goal

abbrev pub invariant-loop-k : goal.invariant-loop-k
invariant-loop-k g l = GoesOn g.N.Network.setup g.S.Service.turns g.S.Service.setup l.fn.self.board.parties l.self.board.parties
