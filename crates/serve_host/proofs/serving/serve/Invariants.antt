-- The service goes on.
use Rattle.serve_loop.specs.Law.{GoesOn}
use Rattle.serve_host.proofs.serving.serve.Given as goal

abbrev pub invariant-loop : goal.invariant-loop
invariant-loop g l = GoesOn g.N.Network.setup g.S.Service.turns g.S.Service.setup l.fn.server.board.parties l.server.board.parties
