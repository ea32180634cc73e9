-- What happened stays.
use Rattle.serve_loop.specs.Law.{GoesOn}
use Rattle.serve_loop.proofs.server.Server.mark_ready.Given as goal

abbrev pub invariant-loop-at : goal.invariant-loop-at
invariant-loop-at g l = GoesOn g.N.Network.setup g.S.Service.turns g.S.Service.setup l.fn.self.board.parties l.self.board.parties
